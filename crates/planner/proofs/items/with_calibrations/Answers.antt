use mathlib.Core.Path.{◌≡◌, ◌∙◌}
use native.Mathlib.Omega.{arith}
use lib.ListN.{length}
use lib.Seq.{get_or-take, length-take-le}
use borrow.Author.Rules.{rules}
use Rattle.planner.proofs.Entering.{entering-start, entering-none, entering-one}
use Rattle.planner.proofs.items.with_calibrations.Goals as goal
use Rattle.planner.proofs.items.with_calibrations.Goals.{else-t-ne0, then-t-ne0}

pub loop-i-init : goal.loop-i-init
loop-i-init c = entering-start _ _

pub loop-i-preserved : goal.loop-i-preserved
loop-i-preserved c =
    let v = c.loop-i.invariant in
    let long : length c.args.calibrations ≡ 24 = search rules in
    let front = length-take-le c.args.m c.args.calibrations (omega (arith, c.requires.1, long)) in
    let shown = get_or-take c.args.m c.args.calibrations c.loop-i.i 0 (omega (arith, c.loop-i-test.true, front)) in
    elim c.if-t-ne0.branch [
      | then-t-ne0 w ↦ rw (w.n-is, w.minutes-is, w.places-is, w.marks-is)
          (entering-one v (w.from.ensures ∙ shown) (omega (arith, w.from.ensures, w.if-t-ne0.true))
          (omega (arith, c.loop-i-test.true, front, c.requires.1)) (omega (arith, c.loop-i-test.true, front, c.requires)))
      | else-t-ne0 w ↦ rw (w.n-is, w.minutes-is, w.places-is, w.marks-is) (entering-none v shown (omega (arith, w.if-t-ne0.false)))
    ]
