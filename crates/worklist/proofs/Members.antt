-- A quoted list read number by number, as a loop reads it: a number, and after a comma the next.
use Prim.Native.Nat.{ℕ, zero, suc, ◌+◌, ◌-◌, ◌*◌}
use mathlib.Core.Path.{◌≡◌, refl}
use mathlib.Core.List.{List, [], ◌∷◌}
use lib.Dec.{eqb}
use Rattle.rules.specs.Fold.{pick}
use Rattle.rules.specs.Field.{is_digit}
use Rattle.theory.proofs.Logic.{by_test}
use Rattle.worklist.specs.Rows.{Front, gives, and_then, room, digits_at, number_at, start, within, onto, numbers_from}

-- after a number v of a list
abbrev pub numbers_after : ℕ → List ℕ → Front (List ℕ)
numbers_after v [] = gives (v ∷ []) []
numbers_after v (x ∷ s) = pick (eqb x 44) (onto v (numbers_from start s)) (gives (v ∷ []) (x ∷ s))

numbers-within : (j v : ℕ) (s : List ℕ) → numbers_from (within j v) s ≡ and_then (digits_at j v s) numbers_after
unfolding numbers_from digits_at
numbers-within j v [] = refl
numbers-within zero v (x ∷ s) = refl
numbers-within (suc j) v (x ∷ s) =
    by_test (is_digit x) (λ i. rw i (numbers-within j (10 * v + (x - 48)) s)) (λ n. rw n)

pub numbers-by-number : (s : List ℕ) → numbers_from start s ≡ and_then (number_at s) numbers_after
unfolding numbers_from number_at
numbers-by-number [] = refl
numbers-by-number (x ∷ s) = by_test (is_digit x) (λ i. rw i (numbers-within (room x) (x - 48) s)) (λ n. rw n)
