use Prim.Native.Nat.{ℕ, suc, ◌-◌, ◌+◌}
use mathlib.Core.Path.{◌≡◌}
use mathlib.Core.Bool.{Bool}
use native.Mathlib.Numerals.{add-one}
use native.Mathlib.Omega.{arith}
use lib.ListN.{get_or}
use lib.Dec.{eqb}
use borrow.Author.Tests.{eq-eqb, ne_eqb}
use Rattle.arrays.proofs.Masks.{mask-none, mask-add, mask-skip}
use Rattle.arrays.proofs.sets.mask_at.Goals as goal
use Rattle.arrays.proofs.sets.mask_at.Goals.{else-eligible-base-eq1, then-eligible-base-eq1}

pub loop-j-init : goal.loop-j-init
loop-j-init c = mask-none _

pub loop-j-preserved : goal.loop-j-preserved
loop-j-preserved c =
    let j = c.loop-j.j in
    let base = c.args.base in
    let q : ℕ → Bool = λ k. eqb (get_or c.args.eligible.now (base + (k - 1)) 0) 1 in
    let e : base + (suc j - 1) ≡ base + j = omega arith in
    rw (add-one j)
    (elim c.if-eligible-base-eq1.branch [
      | then-eligible-base-eq1 w ↦ rw w.x-is
          (mask-add q j _ c.loop-j.invariant (rw e (eq-eqb _ 1 w.if-eligible-base-eq1.true)) (rw (add-one j) at w.with-x.ensures))
      | else-eligible-base-eq1 w ↦ rw w.x-is (mask-skip q j _ c.loop-j.invariant (rw e (ne_eqb _ 1 w.if-eligible-base-eq1.false)))
    ])
