-- The invariant: k of the instruments are read.
use Rattle.reading.proofs.Lines.{ListSofar}
use Rattle.reading.proofs.line_list.Given as goal

abbrev pub invariant-loop-k : goal.invariant-loop-k
invariant-loop-k l = ListSofar l.s l.at l.m l.count l.list l.next l.k
