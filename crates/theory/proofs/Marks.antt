-- A list's marks (document 02, C-15): what each of them is, and what it is to lie inside a group, instrument by instrument.
use Prim.Native.Nat.{ℕ, suc, ◌<◌}
use mathlib.Core.Path.{◌≡◌}
use mathlib.Core.Bool.{true, not}
use mathlib.Core.List.{List}
use lib.ListN.{length, get_or}
use lib.Dec.{leb}
use borrow.Author.Tests.{leb-true}
use Rattle.rules.specs.Fold.{◌or◌, pick, mem, every, all_to}
use Rattle.rules.specs.Sheet.{is_instrument}
use Rattle.rules.specs.LowerBound.{within}
use Rattle.rules.specs.Marks.{marks_of}
use Rattle.theory.proofs.Logic.{and_left, and_right, then-mk, then-use, same_test}
use Rattle.theory.proofs.Entries.{length-list_to, get_d-list_to}
use Rattle.theory.proofs.View.{all-at, all-mk}
use Rattle.theory.proofs.Member.{every-mem, every-mk}

pub length-marks : (l : List ℕ) → length (marks_of l) ≡ 24
unfolding marks_of
length-marks l = length-list_to 24 (λ i. pick (mem i l) 1 0)

pub mark-at : (l : List ℕ) (k : ℕ) → k < 24 → get_or (marks_of l) k 0 ≡ pick (mem (suc k) l) 1 0
unfolding marks_of
mark-at l k h = get_d-list_to 24 (λ i. pick (mem i l) 1 0) k h

-- a list of instruments 1 to 24 lies in a group just where each of the 24 that it names is one of the group
pub one_by_one : (l g : List ℕ) → every (is_instrument 24) l ≡ true → all_to 24 (λ i. not (mem i l) or mem i g) ≡ within l g
unfolding within is_instrument
one_by_one l g h =
    same_test _ _
    (λ t. every-mk (λ i. mem i g) l (λ i e.
    let w = every-mem (λ i. is_instrument 24 i) l i h e in
    then-use (mem i l) (mem i g) (all-at 24 _ i (leb-true 1 i (and_left _ _ w)) (leb-true i 24 (and_right (leb 1 i) _ w)) t) e))
    (λ t. all-mk 24 _ (λ i p q. then-mk (mem i l) (mem i g) (λ e. every-mem (λ i. mem i g) l i t e)))
