-- Steps until nothing acts: the counts grow with each, and stay within the bounds.
use lib.ListN.{take}
use Rattle.rules.specs.Instance.{Instance}
use Rattle.rules.specs.Trial.{Limits}
use Rattle.trials.specs.Track.{Starts}
use Rattle.trials.proofs.Running.{Underway, left}
use Rattle.trials.proofs.run.run.Given as goal

abbrev pub invariant-loop-next : goal.invariant-loop-next
invariant-loop-next l = (I : Instance) (a : Limits) → Starts I a l.jobs l.bounds l.fn.start → Underway I a l.jobs (take l.jobs.n l.fn.start.places) l.s

abbrev pub decreases-loop-next : goal.decreases-loop-next
decreases-loop-next l = left l.s
