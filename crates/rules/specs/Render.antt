-- Document 01, "The sheet": the form of a file, said a second time by writing it. A description is what a file says: a book, but with each
-- place as the file gives it.
use Rattle.std.specs.Prelude.{ℕ, zero, suc, ◌+◌, ◌/◌, ◌%◌, ◌^◌, Bool, List, [], ◌∷◌, ◌++◌, map, length, replicate, leb, ltb}
use Rattle.rules.specs.Fold.{◌and◌, pick, every}
use Rattle.rules.specs.Sheet.{Book, Batch, max_batches, good_instruments, good_minutes, good_calibrations, good_list, ascending}
use Rattle.rules.specs.Field.{field_width}
use Rattle.rules.specs.Read.{place_or, good_place}

-- v right-justified in w columns, blanks before it
unfoldable pub columns : ℕ → ℕ → List ℕ
columns zero v = []
columns (suc w) v = pick (leb 1 w and ltb v (10 ^ w)) 32 (48 + v / 10 ^ w % 10) ∷ columns w v

-- numbers in a row, a field each
unfoldable pub fields : List ℕ → List ℕ
fields [] = []
fields (x ∷ xs) = columns field_width x ++ fields xs

-- a line of fields, with its LF
abbrev pub line : List ℕ → List ℕ
line xs = fields xs ++ (10 ∷ [])

-- a place as a file gives it: a number, which is an instrument or 0 for none, or blanks
pub data Given : Type 0 where
  numbered : ℕ → Given
  left_blank : Given

-- the number that it stands for: blanks are 0
abbrev pub given_number : Given → ℕ
given_number (numbered p) = p
given_number left_blank = 0

abbrev pub given_columns : Given → List ℕ
given_columns (numbered p) = columns field_width p
given_columns left_blank = replicate field_width 32

-- whether a batch has started, as a number
abbrev pub mark : Bool → ℕ
mark s = pick s 1 0

pub record Described : Type 0 where
  pub minutes : ℕ
  pub list : List ℕ
  pub place : Given
  pub started : Bool

pub record Description : Type 0 where
  pub m : ℕ
  pub calibrations : List ℕ
  pub batches : List Described

abbrev pub render_batch : Described → List ℕ
render_batch b =
    columns field_width b.minutes ++ (given_columns b.place ++ line (mark b.started ∷ length b.list ∷ b.list))

unfoldable pub render_batches : List Described → List ℕ
render_batches [] = []
render_batches (b ∷ bs) = render_batch b ++ render_batches bs

unfoldable pub render : Description → List ℕ
render d = line (d.m ∷ length d.batches ∷ []) ++ (line d.calibrations ++ render_batches d.batches)

-- a description within the limits: as a sound book, but the place of a batch that has not started may be 0 or blank
unfoldable pub batch_within_limits : ℕ → Described → Bool
batch_within_limits m b =
    good_minutes b.minutes
    and good_list m b.list
    and ascending b.list
    and good_place b.started (given_number b.place) b.list

unfoldable pub within_limits : Description → Bool
within_limits d =
    good_instruments d.m
    and good_calibrations d.m d.calibrations
    and leb (length d.batches) max_batches
    and every (batch_within_limits d.m) d.batches

-- the book of a description: a place not given is the first listed
abbrev pub placed : Described → Batch
placed b = record { minutes = b.minutes; list = b.list; place = place_or (given_number b.place) b.list; started = b.started }

abbrev pub book_said : Description → Book
book_said d = record { m = d.m; calibrations = d.calibrations; batches = map placed d.batches }

-- a description of a book: every place as its number
abbrev pub described_batch : Batch → Described
described_batch b = record { minutes = b.minutes; list = b.list; place = numbered b.place; started = b.started }

abbrev pub described : Book → Description
described k = record { m = k.m; calibrations = k.calibrations; batches = map described_batch k.batches }
