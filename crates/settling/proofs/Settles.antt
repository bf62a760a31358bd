-- Settling over arrays: what holds after some moves, what one more makes of it, and what stands at the end.
use Prim.Native.Nat.{ℕ, zero, suc, ◌+◌, ◌*◌, ◌/◌, ◌≤◌}
use mathlib.Core.Path.{◌≡◌, refl, sym, ap, ◌∙◌}
use mathlib.Core.List.{List}
use native.Mathlib.Numerals.{add-one}
use native.Mathlib.Omega.{arith}
use lib.ListN.{take, drop}
use Rattle.rules.specs.Fold.{at, sum_to}
use Rattle.rules.specs.Instance.{Instance, Assignment}
use Rattle.rules.specs.Load.{load}
use Rattle.rules.specs.Settle.{mover, moved, squares, Settled, settle_by, settle}
use Rattle.theory.proofs.Fold.{sum_to-ext}
use Rattle.theory.proofs.Settling.{mover-some, move-lowers, run-still}
use Rattle.arrays.specs.declared.Jobs.{Jobs}
use Rattle.arrays.specs.declared.Placement.{Placement}
use Rattle.arrays.specs.Jobs.{Says}
use Rattle.arrays.specs.Reads.{Reads}
use Rattle.settling.specs.Settling.{Placed, Placing, Moved, SettledTo}

-- the sum of squared loads
pub squares-are : {I : Instance} {m c : ℕ} {lengths sets places loads : List ℕ} → Reads I m c lengths sets → Placed I m c places loads
    → sum_to m (λ i. at loads i * at loads i) ≡ squares I (take c places)
unfolding squares
squares-are {I} {m} {c} {places = places} r d =
    sum_to-ext m _ _ (λ i l u. rw (d.each i l u))
    ∙ ap (λ (k : ℕ). sum_to k (λ i. load I (take c places) i * load I (take c places) i)) (sym r.machines)

-- ---- the run

-- after some moves from `old`
pub record Run (I : Instance) (j : Jobs) (old new : Placement) (moves : ℕ) : Type 0 where
  pub placing : Placing I j new
  pub rest : drop j.n new.places ≡ drop j.n old.places
  -- moves that are allowed and not made
  pub left : ℕ
  pub enough : squares I (take j.n new.places) ≤ 2 * left + 1
  pub same : settle_by I left (take j.n new.places) moves (mover I (take j.n new.places)) ≡ settle I (take j.n old.places)
  pub paid : 2 * moves + squares I (take j.n new.places) ≤ squares I (take j.n old.places)

pub run-start : {I : Instance} {j : Jobs} {p : Placement} → Placing I j p → Run I j p p 0
unfolding settle
run-start {I} {j} {p} d = record {
  placing = d;
  rest = refl;
  left = squares I (take j.n p.places) / 2;
  enough = omega arith;
  same = refl;
  paid = omega arith;
}

-- one move of the rules
more : (I : Instance) (f : ℕ) (x : Assignment) (made k : ℕ) → squares I x ≤ 2 * f + 1 → squares I (moved I x (suc k)) + 2 ≤ squares I x
    → (g : ℕ) × (squares I (moved I x (suc k)) ≤ 2 * g + 1)
    × (settle_by I f x made (suc k) ≡ settle_by I g (moved I x (suc k)) (suc made) (mover I (moved I x (suc k))))
unfolding settle_by
more I zero x made k h d = absurd (omega arith)
more I (suc f) x made k h d = (f, omega arith, refl)

module _ {I : Instance} {j : Jobs} (r : Says I j) {old p q : Placement} {moves k : ℕ} (run : Run I j old p moves)
    (next : mover I (take j.n p.places) ≡ suc k) (d : Moved I j p q (suc k)) where
  pub moved-falls : squares I (take j.n q.places) + 2 ≤ squares I (take j.n p.places)
  moved-falls = rw d.assignment (move-lowers r.valid run.placing.permitted (suc k) (mover-some I (take j.n p.places) k next).1)

  pub run_more : Run I j old q (moves + 1)
  run_more =
      let s = d.assignment in
      let f : squares I (moved I (take j.n p.places) (suc k)) + 2 ≤ squares I (take j.n p.places) = rw s at moved-falls in
      let z = more I run.left (take j.n p.places) moves k run.enough f in
      record {
        placing = d.placing;
        rest = d.rest ∙ run.rest;
        left = z.0;
        enough = rw s z.1;
        same = rw (add-one moves, s) (sym z.2 ∙ ap (settle_by I run.left (take j.n p.places) moves) (sym next) ∙ run.same);
        paid = omega (arith, run.paid, moved-falls);
      }

pub run_end : {I : Instance} {j : Jobs} {old p : Placement} {moves : ℕ} → Run I j old p moves → mover I (take j.n p.places) ≡ 0
    → SettledTo I j old p moves
run_end {I} {j} {old} {p} {moves} run z =
    let e : settle I (take j.n old.places) ≡ record { assignment = take j.n p.places; moves = moves }
    = sym run.same ∙ ap (settle_by I run.left (take j.n p.places) moves) z ∙ run-still I run.left (take j.n p.places) moves in
    record {
      assignment = sym (ap (λ (s : Settled). s.assignment) e);
      count = sym (ap (λ (s : Settled). s.moves) e);
      placing = run.placing;
      rest = run.rest;
    }
