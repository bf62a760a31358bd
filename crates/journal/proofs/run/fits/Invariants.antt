-- The invariant: the run so far.
use Prim.Native.Nat.{◌+◌, ◌-◌}
use mathlib.Core.Path.{◌≡◌}
use lib.ListN.{length}
use Rattle.sheet.specs.Represent.{book_of}
use Rattle.journal.proofs.Going.{Going}
use Rattle.journal.proofs.run.fits.Given as goal

abbrev pub invariant-loop-turn : goal.invariant-loop-turn
invariant-loop-turn l = (g : Going (book_of l.initial.sheet) l.journal l.sheet l.at) × (l.left + length g.written ≡ l.room)

abbrev pub decreases-loop-turn : goal.decreases-loop-turn
decreases-loop-turn l = length l.journal - l.at
