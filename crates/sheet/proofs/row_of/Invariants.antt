-- The invariant: the first i entries are in the row, zeros after them.
use Rattle.sheet.proofs.Scan.{Rowed}
use Rattle.sheet.proofs.row_of.Given as goal

abbrev pub invariant-loop-i : goal.invariant-loop-i
invariant-loop-i l = Rowed l.list l.row l.i
