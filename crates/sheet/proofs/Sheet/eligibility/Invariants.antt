-- The invariant: the rows of the first i batches are marked.
use Rattle.sheet.proofs.Marks.{row_at, Rows}
use Rattle.sheet.proofs.Sheet.eligibility.Given as goal

abbrev pub invariant-loop-i : goal.invariant-loop-i
invariant-loop-i l = Rows (row_at l.self.started l.self.places l.self.counts l.self.lists) l.self.n l.marks l.i
