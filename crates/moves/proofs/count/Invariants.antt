-- The number of records of the batches passed.
use Rattle.std.proofs.Common.{◌≡◌, ◌≤◌, length}
use Rattle.rules.specs.Moves.{records}
use Rattle.moves.proofs.count.Given as goal

abbrev pub invariant-loop-j : goal.invariant-loop-j
invariant-loop-j l = (l.k ≡ length (records l.j l.c.old l.c.new)) × (l.k ≤ l.j)
