-- What the calls answer, by the rules: each case of an enum with the documents' number and values.
use Rattle.std.specs.Prelude.{ℕ, ◌≡◌, refl, [], ◌∷◌, List, Result, Ok, Err}
use Rattle.rules.specs.Refusal.{malformed, bad_size, bad_length, bad_list, bad_place, no_batch, sheet_full, level_above, buffer_short, bad_calibration, has_started, bad_worklist, bad_order, number}
use Rattle.rules.specs.Refusal as R
use Rattle.rules.specs.Edit as E
use Rattle.rules.specs.Read as D
use Rattle.rules.specs.Lent.{Hosted}
use Rattle.rules.specs.Run.{answer, editing, answer_numbers}
use Rattle.sheet.specs.declared.Sheet.{Sheet}
use Rattle.sheet.specs.declared.Fault.{Fault}
use Rattle.sheet.specs.declared.Refusal.{Refusal}
use Rattle.sheet.specs.declared.Refusal.TheVariants.{Malformed, BadSize, BadLength, BadList, BadPlace, NoBatch, SheetFull, LevelAbove, BufferShort, BadCalibration, HasStarted, BadWorklist, BadOrder, BadJournal}
use Rattle.sheet.specs.Represent.{sheet_of, book_of}

-- a refusal's number
abbrev pub number_of : Refusal → ℕ
number_of Malformed = 1
number_of BadSize = 2
number_of BadLength = 3
number_of BadList = 4
number_of BadPlace = 5
number_of NoBatch = 6
number_of SheetFull = 7
number_of LevelAbove = 8
number_of BufferShort = 9
number_of BadCalibration = 10
number_of HasStarted = 11
number_of BadWorklist = 12
number_of BadOrder = 13
number_of BadJournal = 19

-- the enum's case for each refusal of the rules
abbrev pub coded : R.Refusal → Refusal
coded malformed = Malformed
coded bad_size = BadSize
coded bad_length = BadLength
coded bad_list = BadList
coded bad_place = BadPlace
coded no_batch = NoBatch
coded sheet_full = SheetFull
coded level_above = LevelAbove
coded buffer_short = BufferShort
coded bad_calibration = BadCalibration
coded has_started = HasStarted
coded bad_worklist = BadWorklist
coded bad_order = BadOrder

-- a refusal and its case have one number
pub coded-number : (e : R.Refusal) → number_of (coded e) ≡ number e
coded-number malformed = refl
coded-number bad_size = refl
coded-number bad_length = refl
coded-number bad_list = refl
coded-number bad_place = refl
coded-number no_batch = refl
coded-number sheet_full = refl
coded-number level_above = refl
coded-number buffer_short = refl
coded-number bad_calibration = refl
coded-number has_started = refl
coded-number bad_worklist = refl
coded-number bad_order = refl

-- ---- edits: on a refusal the very same sheet

-- what an edit answers, and the sheet that it leaves
pub record Edited : Type 0 where
  pub answer : Result Unit Refusal
  pub sheet : Sheet

abbrev pub left : Result Unit Refusal → Sheet → Edited
left r s = record { answer = r; sheet = s }

abbrev pub edited_as : Sheet → E.Edited → Edited
edited_as s (E.refused e) = left (Err (coded e)) s
edited_as s (E.edited k) = left (Ok tt) (sheet_of k)

unfoldable pub edit_of : Sheet → E.Edit → Edited
edit_of s e = edited_as s (E.edit (book_of s) e)

-- an answer as the documents' numbers: the refusal's, 0 for none
abbrev pub edit_numbers : Result Unit Refusal → List ℕ
edit_numbers (Ok u) = 0 ∷ []
edit_numbers (Err e) = number_of e ∷ []

-- what each edit promises of its answer r and of the sheet t that it leaves: they are the rules', and the answer is as the documents' numbers too
pub record EditAnswered (s : Sheet) (e : E.Edit) (r : Result Unit Refusal) (t : Sheet) : Type 0 where
  pub is : left r t ≡ edit_of s e
  pub numbers : edit_numbers r ≡ answer_numbers (answer (book_of s) (editing e))

-- ---- reading

abbrev pub fault : Refusal → ℕ → Fault
fault e j = record { refusal = e; line = j }

abbrev pub read_as : D.Reading → Result Sheet Fault
read_as (D.accepted k) = Ok (sheet_of k)
read_as (D.refused_at e j) = Err (fault (coded e) j)

-- an answer as the documents' numbers: the refusal's and its line, 0 and 0 for none
abbrev pub read_numbers : Result Sheet Fault → List ℕ
read_numbers (Ok s) = 0 ∷ 0 ∷ []
read_numbers (Err f) = number_of f.refusal ∷ f.line ∷ []

-- what reading promises, and taking a worklist, likewise: its answer is the rules' o
pub record ReadAnswered (o : D.Reading) (r : Result Sheet Fault) : Type 0 where
  pub is : r ≡ read_as o
  pub numbers : read_numbers r ≡ D.reading_numbers o

-- ---- answers with a lent buffer, which holds b afterwards: how many bytes the text has, or the refusal and its line

abbrev pub hosted_as : Result ℕ Fault → List ℕ → Hosted
hosted_as (Ok n) b = record { refusal = 0; line = 0; length = n; buffer = b }
hosted_as (Err f) b = record { refusal = number_of f.refusal; line = f.line; length = 0; buffer = b }
