-- The list has the records of the batches passed at its front, and k is their number.
use Rattle.std.proofs.Common.{◌≡◌, length}
use Rattle.rules.specs.Lent.{at_front}
use Rattle.moves.specs.Filled.{records_to}
use Rattle.moves.proofs.fill.Given as goal

abbrev pub invariant-loop-b : goal.invariant-loop-b
invariant-loop-b l = record {
  counted : l.k ≡ length (records_to l.c l.b);
  at_front : l.moves ≡ at_front (records_to l.c l.b) l.fn.moves;
}
