-- The invariant: count rows are read, each of some bytes, and the file's answer is that of the rows that are left, with those.
use lib.ListN.{length}
use Rattle.worklist.proofs.Passing.{RowsSofar}
use Rattle.worklist.proofs.row.rows_in.Given as goal

abbrev pub invariant-loop-rest : goal.invariant-loop-rest
invariant-loop-rest l = RowsSofar l.fn.s l.count l.rest

abbrev pub decreases-loop-rest : goal.decreases-loop-rest
decreases-loop-rest l = length l.rest
