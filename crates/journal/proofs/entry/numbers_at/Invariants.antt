-- The invariant: k of the numbers are read, and what is left goes on from them as the rules do.
use Rattle.journal.proofs.Numbers.{NumbersSofar}
use Rattle.journal.proofs.entry.numbers_at.Given as goal

abbrev pub invariant-loop-k : goal.invariant-loop-k
invariant-loop-k l = NumbersSofar l.s l.at l.count l.numbers l.k l.next
