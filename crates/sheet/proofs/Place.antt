-- The place taken, and whether it is listed; and what an instrument is at most.
use Prim.Native.Nat.{ℕ, zero, suc, ◌≤◌, ◌<◌}
use mathlib.Core.Path.{◌≡◌, refl, sym, ◌∙◌}
use mathlib.Core.Bool.{Bool, true, false, not}
use mathlib.Core.List.{List, [], ◌∷◌}
use native.Mathlib.Omega.{arith}
use lib.Dec.{eqb}
use lib.ListN.{length}
use borrow.Author.Tests.{ne_eqb}
use Rattle.rules.specs.Fold.{pick, ◌and◌, ◌or◌, mem, every}
use Rattle.rules.specs.Sheet.{is_instrument, head}
use Rattle.rules.specs.Read.{place_or, good_place}
use Rattle.theory.proofs.Logic.{by_test, and-no-right, or_left, or-skip}
use Rattle.theory.proofs.Member.{mem-head, every-mem}
use Rattle.sheet.proofs.Scan.{in-range}

-- the place taken for a given p: the first listed where p is 0 and the batch has not started
abbrev pub taken : Bool → ℕ → List ℕ → ℕ
taken s p l = pick (not s and eqb p 0) (head l) p

-- it is listed exactly where the place is good
pub place-listed : (s : Bool) (p : ℕ) (l : List ℕ) → 0 < length l → good_place s p l ≡ mem (taken s p l) l
unfolding good_place
place-listed s p [] h = absurd (omega arith)
place-listed s p (x ∷ l) h =
    by_test (not s and eqb p 0)
    (λ t. or_left _ _ t ∙ sym (rw t (mem-head x l)))
    (λ t. or-skip _ t ∙ rw t)

-- and is the rules' place there: no list names 0
pub place-taken : (s : Bool) (m p : ℕ) (l : List ℕ) → every (is_instrument m) l ≡ true → good_place s p l ≡ true
    → taken s p l ≡ place_or p l
unfolding good_place ◌and◌ ◌or◌ is_instrument
place-taken s m (suc p) l g e = rw (and-no-right (not s) (eqb (suc p) 0) (ne_eqb (suc p) 0 (λ z. omega arith)))
place-taken false m zero l g e = refl
place-taken true m zero l g e = absurd (omega (arith, (in-range 0 m (every-mem (is_instrument m) l 0 g e)).0))

pub instrument-most : (m x : ℕ) → is_instrument m x ≡ true → x ≤ m
unfolding is_instrument
instrument-most m x e = (in-range x m e).1
