-- The invariant: the first that the list names are marked.
use Rattle.sheet.proofs.Marking.{Marked}
use Rattle.sheet.proofs.view.mark_row.Given as goal

abbrev pub invariant-loop-x : goal.invariant-loop-x
invariant-loop-x l = Marked l.initial.marks l.at l.lists l.at l.count l.marks l.x-index
