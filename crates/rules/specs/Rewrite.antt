-- Document 02, C-13: a sheet written back to a file, and where that may differ from the file it was read from. C-20: when two sheets have
-- the same contents.
use Rattle.std.specs.Prelude.{ℕ, ◌≡◌, Bool, true, false, List, [], ◌∷◌, ◌++◌, length, replicate, eqb}
use Rattle.rules.specs.Fold.{◌and◌, ◌or◌, mem}
use Rattle.rules.specs.Sheet.{Book, Batch, size, batch}
use Rattle.rules.specs.Field.{field_width}
use Rattle.rules.specs.Render.{Given, given_number, mark, Described, Description, line, render, described}

-- the file of a book: each place as the instrument where the batch stands
unfoldable pub written : Book → List ℕ
written k = render (described k)

-- a place that is given as 0 or blank
abbrev pub is_open : Given → Bool
is_open p = eqb (given_number p) 0

-- Marks: of each byte of a description's file, in order, whether it stands in the columns of such a place. First a text without any.
abbrev pub unmarked : List ℕ → List Bool
unmarked s = replicate (length s) false

abbrev pub open_in_batch : Described → List Bool
open_in_batch b =
    replicate field_width false ++ (replicate field_width (is_open b.place) ++ unmarked (line (mark b.started ∷ length b.list ∷ b.list)))

unfoldable pub open_in_batches : List Described → List Bool
open_in_batches [] = []
open_in_batches (b ∷ bs) = open_in_batch b ++ open_in_batches bs

unfoldable pub open_columns : Description → List Bool
open_columns d =
    unmarked (line (d.m ∷ length d.batches ∷ [])) ++ (unmarked (line d.calibrations) ++ open_in_batches d.batches)

-- two texts have a byte for each mark, and are equal in each that is not marked
unfoldable pub alike : List Bool → List ℕ → List ℕ → Bool
alike [] [] [] = true
alike (t ∷ ts) (x ∷ s) (y ∷ u) = (t or eqb x y) and alike ts s u
alike [] [] (y ∷ u) = false
alike [] (x ∷ s) u = false
alike (t ∷ ts) [] u = false
alike (t ∷ ts) (x ∷ s) [] = false

-- ---- contents

-- two batches with the same contents: a list counts by the instruments it names, and not by their order
pub record SameBatch (a b : Batch) : Type 0 where
  pub minutes : a.minutes ≡ b.minutes
  pub place : a.place ≡ b.place
  pub started : a.started ≡ b.started
  pub qualified : (i : ℕ) → mem i a.list ≡ mem i b.list

-- two books with the same contents
pub record SameContents (j k : Book) : Type 0 where
  pub instruments : j.m ≡ k.m
  pub calibrations : j.calibrations ≡ k.calibrations
  pub count : size j ≡ size k
  pub batches : (b : ℕ) → SameBatch (batch j b) (batch k b)
