-- The invariant: the first b batches have their places.
use Prim.Native.Nat.{◌≤◌}
use Rattle.sheet.specs.Represent.{book_of}
use Rattle.sheet.specs.View.{kept_places}
use Rattle.theory.proofs.Enter.{Entered}
use Rattle.sheet.proofs.Sheet.with_places.Given as goal

abbrev pub invariant-loop-b : goal.invariant-loop-b
invariant-loop-b l = (l.self.n ≤ 200) × Entered l.initial.places 0 (kept_places (book_of l.self) l.x) l.self.n l.places l.b
