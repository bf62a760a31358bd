-- The invariant: the records of the batches passed are in place.
use Rattle.journal.proofs.Recording.{NotedTo}
use Rattle.journal.proofs.call.add_moves.Given as goal

abbrev pub invariant-loop-b : goal.invariant-loop-b
invariant-loop-b l = NotedTo l.c l.initial.answer l.answer l.b
