-- Lists of numbers that fit six columns.
use Prim.Native.Nat.{ℕ, zero, suc, ◌≤◌, ◌<◌}
use mathlib.Core.Path.{◌≡◌, refl}
use mathlib.Core.Bool.{true}
use mathlib.Core.List.{List, [], ◌∷◌}
use native.Mathlib.Omega.{arith}
use lib.Dec.{ltb}
use lib.ListN.{length}
use Rattle.std.specs.Prelude.{All}
use borrow.Author.Tests.{ltb-true, lt-ltb}
use Rattle.rules.specs.Fold.{every, at, mem, list_to}
use Rattle.theory.proofs.Logic.{and-mk}
use Rattle.theory.proofs.Member.{every_append, every-at, every-mk}
use Rattle.journal.specs.Answering.{SixColumns}

pub small-none : SixColumns []
unfolding every
small-none = refl

pub small-more : (x : ℕ) (l : List ℕ) → x < 1000000 → SixColumns l → SixColumns (x ∷ l)
unfolding every
small-more x l h s = and-mk _ _ (lt-ltb x 1000000 h) s

pub small_one : (x : ℕ) → x < 1000000 → SixColumns (x ∷ [])
small_one x h = small-more x [] h small-none

-- as the writers of fields ask it, of numbers that are what they convert to
pub small-all : (l : List ℕ) → SixColumns l → All (λ x. (v : ℕ) → v ≡ x → v < 1000000) l
small-all l s k d h v e = omega (arith, ltb-true _ _ (every-at (λ (x : ℕ). ltb x 1000000) l d k s h), e)

-- f 1, .., f k
pub small-to : (k : ℕ) (f : ℕ → ℕ) → ((i : ℕ) → f i < 1000000) → SixColumns (list_to k f)
unfolding list_to
small-to zero f h = small-none
small-to (suc k) f h =
    every_append (λ (x : ℕ). ltb x 1000000) (list_to k f) (f (suc k) ∷ []) (small-to k f h) (small_one (f (suc k)) (h (suc k)))

-- by its members
pub small-mem : (l : List ℕ) → ((i : ℕ) → mem i l ≡ true → i < 1000000) → SixColumns l
small-mem l h = every-mk (λ (x : ℕ). ltb x 1000000) l (λ i e. lt-ltb i 1000000 (h i e))

-- by its entries, numbered from 1
pub small_by : (l : List ℕ) → ((i : ℕ) → 0 < i → i ≤ length l → at l i < 1000000) → SixColumns l
small_by [] h = small-none
small_by (x ∷ l) h = small-more x l (h 1 (omega arith) (omega arith)) (small_by l rest)
  where
    rest : (i : ℕ) → 0 < i → i ≤ length l → at l i < 1000000
    rest zero p q = absurd (omega arith)
    rest (suc i) p q = h (suc (suc i)) (omega arith) (omega arith)
