-- The invariant: the array holds the machines of the set that are passed.
use Prim.Native.Nat.{◌≤◌}
use Rattle.rules.specs.Fold.{those_to}
use Rattle.arrays.specs.Sets.{has}
use Rattle.scans.specs.Grouping.{HoldsList}
use Rattle.scans.proofs.group.members_of.Given as goal

abbrev pub invariant-loop-i : goal.invariant-loop-i
invariant-loop-i l = (l.size ≤ l.i) × HoldsList (those_to l.i (λ k. has l.x k)) l.list l.size
