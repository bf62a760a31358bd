-- Laws of tests: and, or, not, and a case split that keeps the equation.
use mathlib.Core.Path.{◌≡◌, refl, sym, ◌∙◌}
use mathlib.Core.Bool.{Bool, true, false, not, true≢false}
use Rattle.rules.specs.Fold.{◌and◌, ◌or◌}

-- a test passed or failed, with the equation
pub by_test {ℓ} : {X : Type ℓ} (b : Bool) → (b ≡ true → X) → (b ≡ false → X) → X
by_test true f g = f refl
by_test false f g = g refl

pub conflict {ℓ} : {X : Type ℓ} {b : Bool} → b ≡ true → b ≡ false → X
conflict p q = absurd (true≢false (sym p ∙ q))

-- ---- not

pub not-mk : {t : Bool} → t ≡ false → not t ≡ true
not-mk e = rw e

-- ---- and

pub and_left : (a b : Bool) → a and b ≡ true → a ≡ true
unfolding ◌and◌
and_left true b e = refl
and_left false b e = e

pub and_right : (a b : Bool) → a and b ≡ true → b ≡ true
unfolding ◌and◌
and_right true b e = e
and_right false b e = conflict e refl

pub and-mk : (a b : Bool) → a ≡ true → b ≡ true → a and b ≡ true
unfolding ◌and◌
and-mk a b p q = rw (p, q)

pub and-no-left : (a b : Bool) → a ≡ false → a and b ≡ false
unfolding ◌and◌
and-no-left a b e = rw e

pub and-no-right : (a b : Bool) → b ≡ false → a and b ≡ false
unfolding ◌and◌
and-no-right true b e = e
and-no-right false b e = refl

-- ---- or

pub or_left : (a b : Bool) → a ≡ true → a or b ≡ true
unfolding ◌or◌
or_left a b e = rw e

pub or_right : (a b : Bool) → b ≡ true → a or b ≡ true
unfolding ◌or◌
or_right true b e = refl
or_right false b e = e

pub or-none : (a b : Bool) → a or b ≡ false → (a ≡ false) × (b ≡ false)
unfolding ◌or◌
or-none true b e = conflict refl e
or-none false b e = (refl, e)

pub or_cases {ℓ} : {X : Type ℓ} (a b : Bool) → a or b ≡ true → (a ≡ true → X) → (b ≡ true → X) → X
unfolding ◌or◌
or_cases true b e f g = f refl
or_cases false b e f g = g e

pub or_assoc : (a b c : Bool) → (a or b) or c ≡ a or (b or c)
unfolding ◌or◌
or_assoc true b c = refl
or_assoc false b c = refl

pub or-false : (a : Bool) → a or false ≡ a
unfolding ◌or◌
or-false true = refl
or-false false = refl

pub false-or : (a : Bool) → false or a ≡ a
unfolding ◌or◌
false-or a = refl

-- what fails may be left out on the left
pub or-skip : {a : Bool} (b : Bool) → a ≡ false → a or b ≡ b
or-skip b e = rw e (false-or b)

-- ---- one only where the other, and two that pass together

pub then-mk : (a b : Bool) → (a ≡ true → b ≡ true) → not a or b ≡ true
then-mk true b h = or_right (not true) b (h refl)
then-mk false b h = or_left (not false) b refl

pub then-use : (a b : Bool) → not a or b ≡ true → a ≡ true → b ≡ true
then-use a b h e = or_cases (not a) b h (λ t. conflict t (rw e)) (λ t. t)

pub same_test : (a b : Bool) → (a ≡ true → b ≡ true) → (b ≡ true → a ≡ true) → a ≡ b
same_test true b f g = sym (f refl)
same_test false true f g = g refl
same_test false false f g = refl
