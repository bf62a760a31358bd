-- The invariant: i of the digits are read, and what is left goes on from them as the reader from the front does.
use Rattle.worklist.proofs.Digits.{DigitsSofar}
use Rattle.worklist.proofs.row.digits_at.Given as goal

abbrev pub invariant-loop-i : goal.invariant-loop-i
invariant-loop-i l = DigitsSofar l.fn.first l.fn.s l.value l.rest l._i
