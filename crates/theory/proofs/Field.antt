-- Laws of fields: a number that fits its columns is read back, and what is read is the number's own columns; likewise blank.
use Prim.Native.Nat.{ℕ, zero, suc, ◌+◌, ◌-◌, ◌*◌, ◌/◌, ◌%◌, ◌^◌, ◌≤◌, ◌<◌}
use mathlib.Core.Path.{◌≡◌, refl, sym, ap, ap₂, ◌∙◌, subst}
use mathlib.Core.Bool.{Bool, true, false}
use mathlib.Core.List.{List, [], ◌∷◌, ◌++◌}
use native.Mathlib.Nat.{pow-suc, one-le-pow, div-one, div-div-eq-div-mul, div-lt_iff_lt-mul, le-div_iff_mul-le, mul_comm, one-mul}
use native.Mathlib.Omega.{arith}
use lib.ListN.{length, take, drop, replicate, length-append, take-append-drop}
use lib.Seq.{take_at, length-take-le}
use lib.Dec.{leb, ltb, eqb}
use borrow.Author.Tests.{leb-true, ltb-true, ltb-false, eqb-true, eqb-false, le-leb, lt-ltb, le-ltb, ne_eqb}
use Rattle.rules.specs.Fold.{pick, ◌and◌}
use Rattle.rules.specs.Field.{Field, value, blank, fault, is_digit, digits, lone_zero, blanks, field}
use Rattle.rules.specs.Read.{blank_zero}
use Rattle.rules.specs.Render.{columns}
use Rattle.theory.proofs.Logic.{by_test, conflict, and_left, and_right, and-mk}

pub columns-length : (w v : ℕ) → length (columns w v) ≡ w
unfolding columns
columns-length zero v = refl
columns-length (suc w) v = ap suc (columns-length w v)

-- ---- powers of ten

ten-some : (w : ℕ) → 0 < 10 ^ w
ten-some w = one-le-pow w 10 (omega arith)

ten-suc : (w : ℕ) → 10 ^ suc w ≡ 10 * 10 ^ w
ten-suc w = pow-suc 10 w ∙ mul_comm (10 ^ w) 10

-- v without its last w + 1 digits is a tenth of v without its last w
tenth : (w v : ℕ) → v / 10 ^ suc w ≡ v / 10 ^ w / 10
tenth w v = ap (λ (p : ℕ). v / p) (pow-suc 10 w) ∙ sym (div-div-eq-div-mul v (10 ^ w) 10)

-- v is 10 ^ w or more exactly where something is left without its last w digits
reach : (w v : ℕ) → 10 ^ w ≤ v → 0 < v / 10 ^ w
reach w v h = (le-div_iff_mul-le (ten-some w)).1 (subst (λ (p : ℕ). p ≤ v) (sym (one-mul (10 ^ w))) h)

reached : (w v : ℕ) → 0 < v / 10 ^ w → 10 ^ w ≤ v
reached w v h = subst (λ (p : ℕ). p ≤ v) (one-mul (10 ^ w)) ((le-div_iff_mul-le (ten-some w)).0 h)

-- v is below 10 ^ (w + 1) exactly where a digit is left
one-digit : (w v : ℕ) → v < 10 ^ suc w → v / 10 ^ w < 10
one-digit w v h = (div-lt_iff_lt-mul (ten-some w)).1 (subst (λ (p : ℕ). v < p) (ten-suc w) h)

digit-one : (w v : ℕ) → v / 10 ^ w < 10 → v < 10 ^ suc w
digit-one w v h = subst (λ (p : ℕ). v < p) (sym (ten-suc w)) ((div-lt_iff_lt-mul (ten-some w)).0 h)

-- ---- the columns of a number, one by one

-- the column before the last w is blank
abbrev empty : ℕ → ℕ → Bool
empty w v = leb 1 w and ltb v (10 ^ w)

-- its digit where it is not
abbrev digit : ℕ → ℕ → ℕ
digit w v = 48 + v / 10 ^ w % 10

columns-blank : (w v : ℕ) → empty w v ≡ true → columns (suc w) v ≡ 32 ∷ columns w v
unfolding columns
columns-blank w v e = rw e

columns-digit : (w v : ℕ) → empty w v ≡ false → columns (suc w) v ≡ digit w v ∷ columns w v
unfolding columns
columns-digit w v e = rw e

not-blank : (w v : ℕ) → 10 ^ w ≤ v → empty w v ≡ false
not-blank w v h = by_test (empty w v) (λ t. absurd (omega (arith, ltb-true v (10 ^ w) (and_right (leb 1 w) _ t)))) (λ t. t)

is_digit_lem : (d : ℕ) → d < 10 → is_digit (48 + d) ≡ true
is_digit_lem d h = and-mk _ _ (le-leb 48 (48 + d) (omega arith)) (le-leb (48 + d) 57 (omega arith))

-- ---- writing, then reading

digits_step : (d : ℕ) (s : List ℕ) (a : ℕ) → d < 10 → digits ((48 + d) ∷ s) a ≡ digits s (10 * a + d)
unfolding digits
digits_step d s a h = rw (is_digit_lem d h) (ap (λ (x : ℕ). digits s (10 * a + x)) (omega arith))

digits-columns : (w v : ℕ) → 10 ^ w ≤ v → digits (columns w v) (v / 10 ^ w) ≡ value v
unfolding digits columns
digits-columns zero v h = ap value (div-one v)
digits-columns (suc w) v h =
    let q : ℕ = v / 10 ^ w in
    let l : 10 ^ w ≤ v = omega (arith, ten-suc w) in
    ap (λ (s : List ℕ). digits s (v / 10 ^ suc w)) (columns-digit w v (not-blank w v l))
    ∙ digits_step (q % 10) (columns w v) (v / 10 ^ suc w) (omega arith)
    ∙ ap (λ (a : ℕ). digits (columns w v) a) (omega (arith, tenth w v))
    ∙ digits-columns w v l

-- no blank and no 0 in front
blanks-past : (x : ℕ) (s : List ℕ) → eqb x 32 ≡ false → eqb x 48 ≡ false → blanks (x ∷ s) ≡ digits (x ∷ s) 0
unfolding blanks
blanks-past x s e f = rw (e, f)

-- no column is blank
full-columns : (w v : ℕ) → v < 10 ^ suc w → 10 ^ w ≤ v → blanks (digit w v ∷ columns w v) ≡ value v
full-columns w v h l =
    let q : ℕ = v / 10 ^ w in
    let a : 0 < q = reach w v l in
    let b : q < 10 = one-digit w v h in
    blanks-past (digit w v) (columns w v)
    (ne_eqb (digit w v) 32 (λ e. omega arith)) (ne_eqb (digit w v) 48 (λ e. omega arith))
    ∙ digits_step (q % 10) (columns w v) 0 (omega arith)
    ∙ ap (λ (a : ℕ). digits (columns w v) a) (omega arith)
    ∙ digits-columns w v l

-- the columns from the first digit on
first-digit : (w v : ℕ) → v < 10 ^ suc w → empty w v ≡ false → blanks (digit w v ∷ columns w v) ≡ value v
unfolding blanks lone_zero columns
first-digit zero zero h e = refl
first-digit zero (suc v) h e = full-columns 0 (suc v) h (omega arith)
first-digit (suc w) v h e =
    full-columns (suc w) v h
    (by_test (ltb v (10 ^ suc w))
    (λ t. conflict (and-mk (leb 1 (suc w)) _ (le-leb 1 (suc w) (omega arith)) t) e)
    (λ t. ltb-false _ _ t))

-- all columns
blanks-columns : (w v : ℕ) → 0 < w → v < 10 ^ w → blanks (columns w v) ≡ value v
unfolding blanks
blanks-columns zero v p h = absurd (omega arith)
blanks-columns (suc w) v p h =
    by_test (empty w v)
    (λ t. rw (columns-blank w v t)
    (blanks-columns w v (leb-true _ _ (and_left _ _ t)) (ltb-true _ _ (and_right (leb 1 w) _ t))))
    (λ t. rw (columns-digit w v t) (first-digit w v h t))

blanks-all : (w : ℕ) → blanks (replicate w 32) ≡ blank
unfolding blanks
blanks-all zero = refl
blanks-all (suc w) = blanks-all w

-- six columns and what follows them
field-front : (s r : List ℕ) → length s ≡ 6 → field (s ++ r) ≡ blanks s
unfolding field
field-front s r h =
    let f : ltb (length (s ++ r)) 6 ≡ false = le-ltb (length (s ++ r)) 6 (omega (arith, length-append s r)) in
    ap₂ (λ (t : Bool) (u : List ℕ). pick t fault (blanks u)) f (take_at s r 6 h)

pub field-columns : (v : ℕ) (r : List ℕ) → v < 10 ^ 6 → field (columns 6 v ++ r) ≡ value v
field-columns v r h = field-front (columns 6 v) r (columns-length 6 v) ∙ blanks-columns 6 v (omega arith) h

pub field-blanks : (r : List ℕ) → field (replicate 6 32 ++ r) ≡ blank
field-blanks r = field-front (replicate 6 32) r refl ∙ blanks-all 6

-- ---- reading, then writing

no_value {ℓ} : {X : Type ℓ} {v : ℕ} → fault ≡ value v → X
no_value e = absurd (let z : ◌≡◌ {A = ℕ} 0 1 = cc in omega arith)

not-blank-value {ℓ} : {X : Type ℓ} {v : ℕ} → blank ≡ value v → X
not-blank-value e = absurd (let z : ◌≡◌ {A = ℕ} 0 1 = cc in omega arith)

no-blank {ℓ} : {X : Type ℓ} → fault ≡ blank → X
no-blank e = absurd (let z : ◌≡◌ {A = ℕ} 0 1 = cc in omega arith)

digits-head : (x : ℕ) (s : List ℕ) (a v : ℕ) → digits (x ∷ s) a ≡ value v
    → (48 ≤ x) × (x ≤ 57) × (digits s (10 * a + (x - 48)) ≡ value v)
unfolding digits
digits-head x s a v e =
    by_test (is_digit x)
    (λ t. (leb-true 48 x (and_left _ _ t), leb-true x 57 (and_right (leb 48 x) _ t), rw t at e))
    (λ t. no_value (rw t at e))

-- a digit in front of columns is a column too
digit-front : (x : ℕ) (s : List ℕ) (a v : ℕ) → 48 ≤ x → x ≤ 57 → v / 10 ^ length s ≡ 10 * a + (x - 48)
    → 0 < 10 * a + (x - 48) → s ≡ columns (length s) v → x ∷ s ≡ columns (suc (length s)) v
digit-front x s a v l u q p c =
    ap₂ ◌∷◌ (omega arith) c
    ∙ sym (columns-digit (length s) v (not-blank (length s) v (reached (length s) v (omega arith))))

digits_value : (s : List ℕ) (a v : ℕ) → digits s a ≡ value v
    → (v / 10 ^ length s ≡ a) × (0 < a → s ≡ columns (length s) v)
unfolding digits columns
digits_value [] a v e = let q : a ≡ v = cc in (div-one v ∙ sym q, λ p. refl)
digits_value (x ∷ s) a v e =
    let h = digits-head x s a v e in
    let r = digits_value s (10 * a + (x - 48)) v h.2 in (
      tenth (length s) v ∙ omega (arith, h.0, h.1, r.0),
      λ p. digit-front x s a v h.0 h.1 r.0 (omega arith) (r.1 (omega arith)),
    )

lone-value : (s : List ℕ) (v : ℕ) → lone_zero s ≡ value v → (s ≡ []) × (v ≡ 0)
unfolding lone_zero
lone-value [] v e = (refl, cc)
lone-value (x ∷ s) v e = no_value e

blanks-some : (s : List ℕ) (v : ℕ) → blanks s ≡ value v → 0 < length s
unfolding blanks
blanks-some [] v e = not-blank-value e
blanks-some (x ∷ s) v e = omega arith

blanks-value : (s : List ℕ) (v : ℕ) → blanks s ≡ value v → (v < 10 ^ length s) × (s ≡ columns (length s) v)
unfolding blanks columns ◌and◌
blanks-value [] v e = not-blank-value e
blanks-value (x ∷ s) v e =
    by_test (eqb x 32)
    (λ t.
    let f : blanks s ≡ value v = rw t at e in
    let r = blanks-value s v f in
    let b = and-mk _ _ (le-leb 1 (length s) (blanks-some s v f)) (lt-ltb v (10 ^ length s) r.0) in
    (omega (arith, r.0, ten-suc (length s)), ap₂ ◌∷◌ (eqb-true x 32 t) r.1 ∙ sym (columns-blank (length s) v b)))
    (λ t. by_test (eqb x 48)
    (λ u.
    let f : lone_zero s ≡ value v = rw (t, u) at e in
    let r = lone-value s v f in
    rw (eqb-true x 48 u, r.0, r.1) (omega arith, refl))
    (λ u.
    let h = digits-head x s 0 v (rw (t, u) at e) in
    let r = digits_value s (10 * 0 + (x - 48)) v h.2 in
    let p : 0 < 10 * 0 + (x - 48) = omega (arith, h.0, eqb-false x 48 u) in
    (digit-one (length s) v (omega (arith, r.0, h.1)), digit-front x s 0 v h.0 h.1 r.0 p (r.1 p))))

digits-blank {ℓ} : {X : Type ℓ} (s : List ℕ) (a : ℕ) → digits s a ≡ blank → X
unfolding digits
digits-blank [] a e = not-blank-value (sym e)
digits-blank (x ∷ s) a e =
    by_test (is_digit x) (λ t. digits-blank s (10 * a + (x - 48)) (rw t at e)) (λ t. no-blank (rw t at e))

lone-blank {ℓ} : {X : Type ℓ} (s : List ℕ) → lone_zero s ≡ blank → X
unfolding lone_zero
lone-blank [] e = not-blank-value (sym e)
lone-blank (x ∷ s) e = no-blank e

blanks-blank : (s : List ℕ) → blanks s ≡ blank → s ≡ replicate (length s) 32
unfolding blanks
blanks-blank [] e = refl
blanks-blank (x ∷ s) e =
    by_test (eqb x 32)
    (λ t. ap₂ ◌∷◌ (eqb-true x 32 t) (blanks-blank s (rw t at e)))
    (λ t. by_test (eqb x 48)
    (λ u. lone-blank s (rw (t, u) at e))
    (λ u. digits-blank (x ∷ s) 0 (rw (t, u) at e)))

-- only six columns give anything but the fault
six-columns : (r : List ℕ) (f : Field) → field r ≡ f → (fault ≡ f → ⊥) → (6 ≤ length r) × (blanks (take 6 r) ≡ f)
unfolding field
six-columns r f e n =
    by_test (ltb (length r) 6) (λ t. absurd (n (rw t at e))) (λ t. (ltb-false _ _ t, rw t at e))

-- six columns that are s, and what follows them
front-is : (r s : List ℕ) → take 6 r ≡ s → r ≡ s ++ drop 6 r
front-is r s e = sym (take-append-drop 6 r) ∙ ap (λ (u : List ℕ). u ++ drop 6 r) e

pub field-value : (r : List ℕ) (v : ℕ) → field r ≡ value v → (v < 10 ^ 6) × (r ≡ columns 6 v ++ drop 6 r)
field-value r v e =
    let k = six-columns r (value v) e no_value in
    let n : length (take 6 r) ≡ 6 = length-take-le 6 r k.0 in
    let b = blanks-value (take 6 r) v k.1 in
    (subst (λ (w : ℕ). v < 10 ^ w) n b.0, front-is r (columns 6 v) (b.1 ∙ ap (λ (w : ℕ). columns w v) n))

pub field-blank : (r : List ℕ) → field r ≡ blank → r ≡ replicate 6 32 ++ drop 6 r
field-blank r e =
    let k = six-columns r blank e no-blank in
    let n : length (take 6 r) ≡ 6 = length-take-le 6 r k.0 in
    front-is r (replicate 6 32) (blanks-blank (take 6 r) k.1 ∙ ap (λ (w : ℕ). replicate w 32) n)

-- a number is read only from six columns
pub six : (r : List ℕ) (v : ℕ) → field r ≡ value v → 6 ≤ length r
six r v e = (six-columns r (value v) e no_value).0

-- and so is a place
pub six-place : (r : List ℕ) (g : Field) → field r ≡ g → (v : ℕ) → blank_zero g ≡ value v → 6 ≤ length r
six-place r (value w) e v q = six r w e
six-place r blank e v q = (six-columns r blank e no-blank).0
six-place r fault e v q = absurd (let z : ◌≡◌ {A = ℕ} 0 1 = cc in omega arith)
