-- The invariant: some numbers are read, and what is left goes on from them as the reader from the front does.
use lib.ListN.{length}
use Rattle.worklist.proofs.Listing.{NumbersSofar}
use Rattle.worklist.proofs.row.numbers_at.Given as goal

abbrev pub invariant-loop-next : goal.invariant-loop-next
invariant-loop-next l = NumbersSofar l.fn.s l.m l.rest

abbrev pub decreases-loop-next : goal.decreases-loop-next
decreases-loop-next l = length l.rest
