-- The invariant: what is left of the search ends as the whole does. The measure is the gap between the two levels.
use Prim.Native.Nat.{◌-◌, ◌≤◌}
use mathlib.Core.Path.{◌≡◌}
use lib.ListN.{take}
use Rattle.rules.specs.Instance.{Instance}
use Rattle.rules.specs.Load.{longest, makespan}
use Rattle.trials.specs.Attempt.{Standing}
use Rattle.planner.specs.Search.{failed1, Seeking}
use Rattle.planner.proofs.balance.balance.Given as goal

abbrev pub invariant-loop-a : goal.invariant-loop-a
invariant-loop-a l = (failed1 l.s.failed ≤ l.s.level) × (l.s.level ≤ 322560) × (l.s.start ≡ l.initial.s.start)
    × ((I : Instance) → Standing I l.jobs l.initial.s.start → l.most ≡ longest I → l.highest ≡ makespan I (take l.jobs.n l.initial.s.start.places)
    → Seeking I l.jobs (take l.jobs.n l.initial.s.start.places) l.s)

abbrev pub decreases-loop-a : goal.decreases-loop-a
decreases-loop-a l = l.s.level - failed1 l.s.failed
