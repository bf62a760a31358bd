-- The invariant: the run so far.
use Prim.Native.Nat.{◌-◌}
use lib.ListN.{length}
use Rattle.sheet.specs.Represent.{book_of}
use Rattle.text.proofs.Pasted.{Wrote}
use Rattle.journal.proofs.Going.{Going}
use Rattle.journal.proofs.run.write_answers.Given as goal

abbrev pub invariant-loop-answer : goal.invariant-loop-answer
invariant-loop-answer l = (g : Going (book_of l.initial.sheet) l.journal l.sheet l.at) × Wrote l.initial.out 0 g.written l.to l.out

abbrev pub decreases-loop-answer : goal.decreases-loop-answer
decreases-loop-answer l = length l.journal - l.at
