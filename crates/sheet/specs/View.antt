-- Who counts as qualified for what, as entries of 1 and 0, a row of 24 for each batch; and places made permitted.
use Rattle.std.specs.Prelude.{ℕ, List, [], ◌∷◌, ◌++◌}
use Rattle.rules.specs.Fold.{at, list_to}
use Rattle.rules.specs.Sheet.{Book, Batch, size, batch}
use Rattle.rules.specs.Edit.{kept}
use Rattle.rules.specs.Instance.{Assignment, qualified}
use Rattle.rules.specs.Marks.{marks_of}

-- the rows of batches: entry 24 (b - 1) + (i - 1) is 1 where instrument i counts as qualified for batch b
unfoldable pub mark_rows : List Batch → List ℕ
mark_rows [] = []
mark_rows (b ∷ bs) = marks_of (qualified b) ++ mark_rows bs

-- each batch's place in x where that counts as qualified for it, and the first that does otherwise
unfoldable pub kept_places : Book → List ℕ → Assignment
kept_places k x = list_to (size k) (λ b. kept (at x b) (qualified (batch k b)))
