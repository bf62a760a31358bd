-- The invariant: the calibrations of the first i instruments are entered.
use Rattle.planner.proofs.Entering.{Entering}
use Rattle.planner.proofs.items.with_calibrations.Given as goal

abbrev pub invariant-loop-i : goal.invariant-loop-i
invariant-loop-i l = Entering l.fn.calibrations l.fn.start l.i (record { n = l.n; minutes = l.minutes; places = l.places; marks = l.marks })
