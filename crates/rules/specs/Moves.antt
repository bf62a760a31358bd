-- Document 02, C-14: a record for each job whose place differs between two assignments, ascending by job. (What settling counts as its
-- moves is something else: a job that settles away and returns has made two of them, and has no record.)
use Rattle.std.specs.Prelude.{ℕ, Bool, not, List, [], ◌∷◌, map, eqb}
use Rattle.rules.specs.Fold.{at, put, those_to}
use Rattle.rules.specs.Instance.{Assignment}

-- a job's number (document 01: the batch), where it was, and where it is
pub record Move : Type 0 where
  pub batch : ℕ
  pub from : ℕ
  pub to : ℕ

abbrev pub differs : Assignment → Assignment → ℕ → Bool
differs x y b = not (eqb (at x b) (at y b))

abbrev pub move_of : Assignment → Assignment → ℕ → Move
move_of x y b = record { batch = b; from = at x b; to = at y b }

-- of jobs 1 to c, from x to y
unfoldable pub records : ℕ → Assignment → Assignment → List Move
records c x y = map (move_of x y) (those_to c (λ b. differs x y b))

-- an assignment with the moves of records made, one after the other
unfoldable pub follow : List Move → Assignment → Assignment
follow [] x = x
follow (v ∷ l) x = follow l (put x v.batch v.to)

-- as numbers, three for each
unfoldable pub move_numbers : List Move → List ℕ
move_numbers [] = []
move_numbers (v ∷ vs) = v.batch ∷ v.from ∷ v.to ∷ move_numbers vs
