-- Document 02, C-15: a list of instruments as 24 marks, the form in which it is tested whether it lies inside a group.
use Rattle.std.specs.Prelude.{ℕ, List}
use Rattle.rules.specs.Fold.{pick, mem, list_to}

-- mark number i is 1 where l names i, and 0 where it does not
unfoldable pub marks_of : List ℕ → List ℕ
marks_of l = list_to 24 (λ i. pick (mem i l) 1 0)
