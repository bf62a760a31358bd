-- Lists by number from 1, and folds over the numbers 1 to k. Numbers start at 1 everywhere, and 0 stands for none.
use Rattle.std.specs.Prelude.{ℕ, zero, suc, ◌+◌, Bool, true, false, List, [], ◌∷◌, ◌++◌, get_or, set, ltb, eqb}

-- x where the test passes, y where it fails
abbrev pub pick {ℓ} : {X : Type ℓ} → Bool → X → X → X
pick true x y = x
pick false x y = y

infixr 35 ◌and◌
infixr 30 ◌or◌
unfoldable pub ◌and◌ : Bool → Bool → Bool
◌and◌ true b = b
◌and◌ false b = false

unfoldable pub ◌or◌ : Bool → Bool → Bool
◌or◌ true b = true
◌or◌ false b = b

-- entry number k of a list; 0 where there is none
abbrev pub at : List ℕ → ℕ → ℕ
at l zero = zero
at l (suc k) = get_or l k zero

-- the list with v as entry number k; unchanged where there is no such entry
abbrev pub put : List ℕ → ℕ → ℕ → List ℕ
put l zero v = l
put l (suc k) v = set l k v

-- a list names i
unfoldable pub mem : ℕ → List ℕ → Bool
mem i [] = false
mem i (x ∷ xs) = eqb x i or mem i xs

-- each entry of a list passes
unfoldable pub every : {X : Type 0} → (X → Bool) → List X → Bool
every p [] = true
every p (x ∷ xs) = p x and every p xs

-- f 1 + .. + f k
unfoldable pub sum_to : ℕ → (ℕ → ℕ) → ℕ
sum_to zero f = zero
sum_to (suc k) f = sum_to k f + f (suc k)

-- the larger of two
unfoldable pub most : ℕ → ℕ → ℕ
most a b = pick (ltb a b) b a

-- the greatest of 0, f 1, .., f k
unfoldable pub max_to : ℕ → (ℕ → ℕ) → ℕ
max_to zero f = zero
max_to (suc k) f = most (max_to k f) (f (suc k))

-- the number a found earlier, or b where a is 0
unfoldable pub or_else : ℕ → ℕ → ℕ
or_else zero b = b
or_else (suc a) b = suc a

-- the lowest of 1, .., k that passes; 0 where none does
unfoldable pub first_to : ℕ → (ℕ → Bool) → ℕ
first_to zero p = zero
first_to (suc k) p = or_else (first_to k p) (pick (p (suc k)) (suc k) zero)

-- some of 1, .., k passes
unfoldable pub any_to : ℕ → (ℕ → Bool) → Bool
any_to zero p = false
any_to (suc k) p = any_to k p or p (suc k)

-- each of 1, .., k passes
unfoldable pub all_to : ℕ → (ℕ → Bool) → Bool
all_to zero p = true
all_to (suc k) p = all_to k p and p (suc k)

-- of a (0 for none) and k, the one of smaller f, a on a tie; k only where it passes
unfoldable pub lesser : (ℕ → ℕ) → ℕ → Bool → ℕ → ℕ
lesser f a false k = a
lesser f zero true k = k
lesser f (suc a) true k = pick (ltb (f k) (f (suc a))) k (suc a)

-- of those of 1, .., k that pass, the one of least f, the lowest number on a tie; 0 where none passes
unfoldable pub least_to : ℕ → (ℕ → Bool) → (ℕ → ℕ) → ℕ
least_to zero p f = zero
least_to (suc k) p f = lesser f (least_to k p f) (p (suc k)) (suc k)

-- of a (0 for none) and k, the one of larger f, a on a tie; k only where it passes
unfoldable pub greater : (ℕ → ℕ) → ℕ → Bool → ℕ → ℕ
greater f a false k = a
greater f zero true k = k
greater f (suc a) true k = pick (ltb (f (suc a)) (f k)) k (suc a)

-- of those of 1, .., k that pass, the one of greatest f, the lowest number on a tie; 0 where none passes
unfoldable pub greatest_to : ℕ → (ℕ → Bool) → (ℕ → ℕ) → ℕ
greatest_to zero p f = zero
greatest_to (suc k) p f = greater f (greatest_to k p f) (p (suc k)) (suc k)

-- those of 1, .., k that pass, ascending
unfoldable pub those_to : ℕ → (ℕ → Bool) → List ℕ
those_to zero p = []
those_to (suc k) p = those_to k p ++ pick (p (suc k)) (suc k ∷ []) []

-- f 1, .., f k
unfoldable pub list_to : ℕ → (ℕ → ℕ) → List ℕ
list_to zero f = []
list_to (suc k) f = list_to k f ++ (f (suc k) ∷ [])
