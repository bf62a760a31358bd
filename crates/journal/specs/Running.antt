-- A journal's run as the code has it.
use Rattle.std.specs.Prelude.{Result, Ok, Err, ℕ, ◌+◌, ◌≤◌, ◌≡◌, List, [], ◌∷◌, Option, Some, None, eqb, length, take, drop}
use Rattle.rules.specs.Fold.{pick}
use Rattle.rules.specs.Refusal.{Refusal}
use Rattle.rules.specs.Sheet.{Book}
use Rattle.rules.specs.Read.{gives, refuses, Reading, accepted, refused_at, read}
use Rattle.rules.specs.Render.{line}
use Rattle.rules.specs.Run.{Call, book_after}
use Rattle.rules.specs.Lent.{Hosted}
use Rattle.rules.specs.Journal.{bad_journal, Journal, calls, faulty, call_line, journal, answer_text}
use Rattle.sheet.specs.Represent.{sheet_of, book_of}
use Rattle.sheet.specs.declared.Sheet.{Sheet}
use Rattle.sheet.specs.Answers.{number_of, coded, fault}
use Rattle.text.specs.declared.Hosted as C
use Rattle.journal.specs.declared.run.Refused.{Refused}
use Rattle.journal.specs.declared.run.Refused.TheVariants.{BadSheet, BadJournal}
use Rattle.journal.specs.declared.run.Turn.{Turn}
use Rattle.journal.specs.Answering.{made_with, made_of}

-- a journal whose lines are all of the form, and its calls
pub record Spells (s : List ℕ) : Type 0 where
  pub made : List Call
  pub same : journal s ≡ calls made

-- what the line at at comes to on the sheet s: its call made, the sheet t after it, and where the next line starts; or a line that is not
-- of the form, and the same sheet
pub record Turned (s : Sheet) (j : List ℕ) (at : ℕ) (r : Turn) (t : Sheet) : Type 0 where
  pub call : Call
  pub part : call_line (drop at j) ≡ gives call (drop r.next j)
  pub same : made_with r.answer t ≡ made_of (book_of s) call
  pub past : at + 7 ≤ r.next
  pub room : r.next ≤ length j

abbrev pub TurnAt : Sheet → List ℕ → ℕ → Option Turn → Sheet → Type 0
TurnAt s j at (Some r) t = Turned s j at r t
TurnAt s j at None t = (t ≡ s) × (e : Refusal) × (call_line (drop at j) ≡ refuses e)

-- the answers of a journal's calls from the book k on
unfoldable pub text_of : Book → Journal → List ℕ
text_of k (calls cs) = answer_text k cs
text_of k (faulty j) = []

-- the book after them
unfoldable pub book_left : Book → Journal → Book
book_left k (calls cs) = book_after k cs
book_left k (faulty j) = k

-- ---- what a sheet's bytes and a journal's come to

-- the sheet of the book that f makes of the sheet's and the calls, or why there is none
abbrev pub left_as : (Book → List Call → Book) → Reading → Journal → Result Sheet Refused
left_as f (accepted k) (calls cs) = Ok (sheet_of (f k cs))
left_as f (accepted k) (faulty j) = Err (BadJournal j)
left_as f (refused_at e j) c = Err (BadSheet (fault (coded e) j))

-- a refusal as the host is told it: its number and its line
abbrev pub told : Refused → C.Hosted
told (BadSheet f) = record { refusal = number_of f.refusal; line = f.line; length = 0 }
told (BadJournal j) = record { refusal = bad_journal; line = j; length = 0 }

-- before the first call
abbrev pub book_before : Book → List Call → Book
book_before k cs = k

unfoldable pub judged_of : List ℕ → List ℕ → Result Sheet Refused
judged_of s c = left_as book_before (read s) (journal c)

-- after the last
unfoldable pub left_of : List ℕ → List ℕ → Result Sheet Refused
left_of s c = left_as book_after (read s) (journal c)

-- ---- what the program prints: the answers, or one line with the refusal's number and line

abbrev pub printed_of : Hosted → List ℕ
printed_of h = pick (eqb h.refusal 0) (take h.length h.buffer) (line (h.refusal ∷ h.line ∷ []))
