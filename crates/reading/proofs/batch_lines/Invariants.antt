-- The invariant: i lines are read, and their batches are in the sheet.
use lib.ListN.{take}
use Rattle.reading.proofs.BatchesRead.{BatchesSofar}
use Rattle.reading.proofs.batch_lines.Given as goal

abbrev pub invariant-loop-i : goal.invariant-loop-i
invariant-loop-i l = BatchesSofar l.s l.at l.m l.n (take l.m l.fn.calibrations) l.sheet l.next l.i
