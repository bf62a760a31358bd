-- The invariant: the run so far.
use Prim.Native.Nat.{◌-◌}
use lib.ListN.{length}
use Rattle.sheet.specs.Represent.{book_of}
use Rattle.journal.proofs.Going.{Going}
use Rattle.journal.proofs.run.make_all.Given as goal

abbrev pub invariant-loop-line : goal.invariant-loop-line
invariant-loop-line l = Going (book_of l.initial.sheet) l.journal l.sheet l.at

abbrev pub decreases-loop-line : goal.decreases-loop-line
decreases-loop-line l = length l.journal - l.at
