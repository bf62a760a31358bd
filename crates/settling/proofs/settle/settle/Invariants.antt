-- The invariant: the moves that are left from here end where all moves from the start do. The measure is the sum of squared loads.
use Prim.Native.Nat.{◌*◌}
use Rattle.rules.specs.Fold.{at, sum_to}
use Rattle.rules.specs.Instance.{Instance}
use Rattle.arrays.specs.Jobs.{Says}
use Rattle.settling.specs.Settling.{Placing}
use Rattle.settling.proofs.Settles.{Run}
use Rattle.settling.proofs.settle.settle.Given as goal

abbrev pub invariant-loop-k : goal.invariant-loop-k
invariant-loop-k l = (I : Instance) → Says I l.jobs → Placing I l.jobs l.initial.end → Run I l.jobs l.initial.end l.end l.moves

abbrev pub decreases-loop-k : goal.decreases-loop-k
decreases-loop-k l = sum_to l.jobs.m (λ i. at l.end.loads i * at l.end.loads i)
