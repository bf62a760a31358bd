-- Document 02, C-18: a worklist from the sample system. What the four fields of a row must be, the first faulty row, the sheet that says the
-- same, and what taking a worklist answers.
use Rattle.std.specs.Prelude.{ℕ, zero, suc, ◌+◌, ◌-◌, ◌*◌, Bool, true, false, not, List, [], ◌∷◌, ◌++◌, length, leb, eqb}
use Rattle.std.proofs.Math.Option.{Option, some, none}
use Rattle.rules.specs.Fold.{pick, ◌and◌, ◌or◌, every}
use Rattle.rules.specs.Refusal.{Refusal, bad_size, bad_calibration, bad_worklist}
use Rattle.rules.specs.Refusal as R
use Rattle.rules.specs.Sheet.{max_batches, good_instruments, good_calibrations, head}
use Rattle.rules.specs.Field.{is_digit}
use Rattle.rules.specs.Read.{Reading, accepted, refused_at, read}
use Rattle.rules.specs.Render.{line}
use Rattle.rules.specs.Rewrite.{written}
use Rattle.rules.specs.Lent.{Due, text, refusal, Hosted, into_buffer}
use Rattle.rules.specs.Csv.{csv}

-- go on with what a field says, if it is well-formed
abbrev pub when_some : {X Y : Type 0} → Option X → (X → Option Y) → Option Y
when_some (some x) next = next x
when_some none next = none

-- ---- numbers

-- digits, six at most, and a 0 in front only where it is all
unfoldable pub well_formed : List ℕ → Bool
well_formed f =
    leb 1 (length f) and leb (length f) 6 and every is_digit f and (eqb (length f) 1 or not (eqb (head f) 48))

-- the value of digits, after digits of value v
unfoldable pub value_from : ℕ → List ℕ → ℕ
value_from v [] = v
value_from v (x ∷ f) = value_from (10 * v + (x - 48)) f

unfoldable pub number : List ℕ → Option ℕ
number f = pick (well_formed f) (some (value_from 0 f)) none

-- a place may be empty: 0, as where none is given
unfoldable pub number_or_empty : List ℕ → Option ℕ
number_or_empty [] = some 0
number_or_empty (x ∷ f) = number (x ∷ f)

-- ---- lists

abbrev pub grow_first : ℕ → List (List ℕ) → List (List ℕ)
grow_first x [] = (x ∷ []) ∷ []
grow_first x (p ∷ ps) = (x ∷ p) ∷ ps

-- the parts between commas
unfoldable pub parts : List ℕ → List (List ℕ)
parts [] = [] ∷ []
parts (x ∷ f) = pick (eqb x 44) ([] ∷ parts f) (grow_first x (parts f))

unfoldable pub numbers : List (List ℕ) → Option (List ℕ)
numbers [] = some []
numbers (p ∷ ps) = when_some (number p) (λ v. when_some (numbers ps) (λ l. some (v ∷ l)))

-- numbers separated by commas, at least one
unfoldable pub number_list : List ℕ → Option (List ℕ)
number_list f = numbers (parts f)

-- ---- a row

-- the place is 0 where its field is empty
pub record Row : Type 0 where
  pub minutes : ℕ
  pub place : ℕ
  pub mark : ℕ
  pub list : List ℕ

-- the next field, and what comes after it
abbrev pub next_field : {X Y : Type 0} → (List ℕ → Option X) → List (List ℕ) → (X → List (List ℕ) → Option Y) → Option Y
next_field says [] next = none
next_field says (f ∷ fs) next = when_some (says f) (λ x. next x fs)

abbrev pub no_field : {X : Type 0} → List (List ℕ) → X → Option X
no_field [] x = some x
no_field (f ∷ fs) x = none

-- four fields: length, place, started mark, instruments
unfoldable pub row_of : List (List ℕ) → Option Row
row_of fs =
    next_field number fs (λ t fs₁.
    next_field number_or_empty fs₁ (λ p fs₂.
    next_field number fs₂ (λ k fs₃.
    next_field number_list fs₃ (λ l fs₄.
    no_field fs₄ (record { minutes = t; place = p; mark = k; list = l })))))

-- ---- a file

-- its rows, or its first faulty one
pub data Worklist : Type 0 where
  rows : List Row → Worklist
  faulty_row : ℕ → Worklist

abbrev pub row_first : Row → Worklist → Worklist
row_first w (rows ws) = rows (w ∷ ws)
row_first w (faulty_row j) = faulty_row j

abbrev pub row_or_fault : ℕ → Option Row → Worklist → Worklist
row_or_fault j (some w) after = row_first w after
row_or_fault j none after = faulty_row j

-- the records from number j on; after them the file breaks at record k, or ends where k is 0
unfoldable pub rows_of : ℕ → List (List (List ℕ)) → ℕ → Worklist
rows_of j [] zero = rows []
rows_of j [] (suc k) = faulty_row (suc k)
rows_of j (f ∷ fs) k = row_or_fault j (row_of f) (rows_of (suc j) fs k)

unfoldable pub worklist : List ℕ → Worklist
worklist s = rows_of 1 (csv s).records (csv s).fault

-- ---- the sheet that says the same

-- How many a list has, for its field of six columns, which holds no more than 999,999. A longer list is longer than m all the same.
abbrev pub count_of : List ℕ → ℕ
count_of l = pick (leb (length l) 999999) (length l) 999999

-- a row as a batch line; an empty place is 0, which reading takes as it takes blanks
abbrev pub row_line : Row → List ℕ
row_line w = line (w.minutes ∷ w.place ∷ w.mark ∷ count_of w.list ∷ w.list)

unfoldable pub row_lines : List Row → List ℕ
row_lines [] = []
row_lines (w ∷ ws) = row_line w ++ row_lines ws

-- a sheet of m instruments with the calibrations l and the rows ws
unfoldable pub sheet_saying : ℕ → List ℕ → List Row → List ℕ
sheet_saying m l ws = line (m ∷ length ws ∷ []) ++ (line l ++ row_lines ws)

-- ---- taking a worklist

-- row j is the sheet's line j + 2
abbrev pub by_row : Reading → Reading
by_row (accepted k) = accepted k
by_row (refused_at e j) = refused_at e (j - 2)

-- go on where the test passes; the refusal with line 0 otherwise
abbrev pub or_at_none : Bool → Refusal → Reading → Reading
or_at_none true e r = r
or_at_none false e r = refused_at e 0

-- the file is judged whole, and then the number of its rows, before the checks of the sheet
abbrev pub taken_rows : ℕ → List ℕ → Worklist → Reading
taken_rows m l (rows ws) = or_at_none (leb (length ws) max_batches) bad_size (by_row (read (sheet_saying m l ws)))
taken_rows m l (faulty_row j) = refused_at bad_worklist j

-- what the host gives, m and the calibrations l, is judged first
unfoldable pub taken : ℕ → List ℕ → List ℕ → Reading
taken m l s =
    or_at_none (good_instruments m) bad_size
    (or_at_none (good_calibrations m l) bad_calibration
    (taken_rows m l (worklist s)))

-- ---- the host's call: the sheet of a worklist, as a file, in a lent buffer

abbrev pub taken_due : Reading → Due
taken_due (accepted k) = text (written k)
taken_due (refused_at e j) = refusal (R.number e) j

unfoldable pub take_host : ℕ → List ℕ → List ℕ → List ℕ → Hosted
take_host m l s buffer = into_buffer (taken_due (taken m l s)) buffer
