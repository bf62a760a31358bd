-- The invariant: i rows are in the sheet, and what is left goes on from it as the rules do.
use lib.ListN.{length}
use Rattle.rules.specs.Worklist.{worklist}
use Rattle.theory.proofs.Worklist.{rows_on}
use Rattle.sheet.specs.Represent.{book_of}
use Rattle.worklist.proofs.Entering.{Entering}
use Rattle.worklist.proofs.take.enter.Given as goal

abbrev pub invariant-loop-rest : goal.invariant-loop-rest
invariant-loop-rest l = Entering l.fn.s (rows_on (book_of l.initial.sheet) (worklist l.fn.s)) l.sheet l.rest l.i

abbrev pub decreases-loop-rest : goal.decreases-loop-rest
decreases-loop-rest l = length l.rest
