-- Document 01, "Runs": calls, what each answers on the book, and the book after each.
use Rattle.std.specs.Prelude.{ℕ, Bool, true, false, List, [], ◌∷◌, ◌++◌, length, take, leb}
use Rattle.rules.specs.Fold.{pick}
use Rattle.rules.specs.Refusal.{Refusal, level_above, buffer_short, number}
use Rattle.rules.specs.Sheet.{Book, Batch, with_place, size}
use Rattle.rules.specs.Edit.{Edit, Edited, edited, edit, with_batches}
use Rattle.rules.specs.Edit as Edit
use Rattle.rules.specs.Instance.{Assignment, instance, places}
use Rattle.rules.specs.Load.{Review, review, total}
use Rattle.rules.specs.Group.{Tried, passed, failed, trial}
use Rattle.rules.specs.Moves.{Move, records, move_numbers}
use Rattle.rules.specs.Plan.{Balanced, Rested}
use Rattle.rules.specs.Plan as P

pub data Call : Type 0 where
  editing : Edit → Call
  reviewing : Call
  trying : ℕ → Call
  -- with so many entries in the list that the caller lends for the records of moves
  balancing : ℕ → Call
  settling : ℕ → Call

pub data Answer : Type 0 where
  refused : Refusal → Answer
  done : Answer
  reviewed : Review → Answer
  tried : Tried → Answer
  -- with the records
  balanced : Balanced → List Move → Answer
  settled : Rested → List Move → Answer

-- ---- each call on the book

-- the batches with the places of an assignment, which goes on with those of the calibrations
abbrev pub place_all : List Batch → Assignment → List Batch
place_all [] x = []
place_all (b ∷ bs) [] = b ∷ bs
place_all (b ∷ bs) (p ∷ x) = with_place b p ∷ place_all bs x

abbrev pub with_places : Book → Assignment → Book
with_places k x = with_batches k (place_all k.batches x)

abbrev pub balance_book : Book → Balanced
balance_book k = P.balanced (instance k) (places k)

abbrev pub settle_book : Book → Rested
settle_book k = P.rested (instance k) (places k)

abbrev pub edit_answer : Edited → Answer
edit_answer (Edit.refused e) = refused e
edit_answer (edited k) = done

abbrev pub edit_book : Book → Edited → Book
edit_book k (Edit.refused e) = k
edit_book k (edited j) = j

-- a trial shows the places of the first c jobs: those of the batches, without those of the calibrations
abbrev pub shown : ℕ → Tried → Tried
shown c (passed x r b) = passed (take c x) r b
shown c (failed g r b) = failed g r b

-- a trial's level is at most the total minutes
abbrev pub try_answer : Bool → Book → ℕ → Answer
try_answer true k a = tried (shown (size k) (trial (instance k) (places k) a))
try_answer false k a = refused level_above

-- a list lent for records has an entry for each batch of the sheet, however many records there are
abbrev pub roomy : Book → ℕ → Bool
roomy k c = leb (size k) c

-- the records that lead from the book's places to those of an assignment
abbrev pub records_to : Book → Assignment → List Move
records_to k x = records (size k) (places k) x

abbrev pub balance_answer : Bool → Book → Answer
balance_answer true k = balanced (balance_book k) (records_to k (balance_book k).assignment)
balance_answer false k = refused buffer_short

abbrev pub settle_answer : Bool → Book → Answer
settle_answer true k = settled (settle_book k) (records_to k (settle_book k).assignment)
settle_answer false k = refused buffer_short

unfoldable pub answer : Book → Call → Answer
answer k (editing e) = edit_answer (edit k e)
answer k reviewing = reviewed (review (instance k) (places k))
answer k (trying a) = try_answer (leb a (total (instance k))) k a
answer k (balancing c) = balance_answer (roomy k c) k
answer k (settling c) = settle_answer (roomy k c) k

-- an edit that is not refused changes the book, balance and settle enter their places, and nothing else changes it
unfoldable pub next : Book → Call → Book
next k (editing e) = edit_book k (edit k e)
next k reviewing = k
next k (trying a) = k
next k (balancing c) = pick (roomy k c) (with_places k (balance_book k).assignment) k
next k (settling c) = pick (roomy k c) (with_places k (settle_book k).assignment) k

-- the records in an answer, which the list lent for them has at its front afterwards
abbrev pub records_in : Answer → List Move
records_in (refused e) = []
records_in done = []
records_in (reviewed v) = []
records_in (tried t) = []
records_in (balanced b l) = l
records_in (settled z l) = l

-- ---- a list of calls

unfoldable pub book_after : Book → List Call → Book
book_after k [] = k
book_after k (c ∷ cs) = book_after (next k c) cs

unfoldable pub answers : Book → List Call → List Answer
answers k [] = []
answers k (c ∷ cs) = answer k c ∷ answers (next k c) cs

-- ---- each answer as numbers: the refusal first, 0 for none, and then its values

-- 1 for a pass, 0 for a failure; lifts, pushes; the places, or the group
abbrev pub tried_numbers : Tried → List ℕ
tried_numbers (passed x r b) = 1 ∷ r ∷ b ∷ x
tried_numbers (failed g r b) = 0 ∷ r ∷ b ∷ g

-- how many records, and those
abbrev pub record_numbers : List Move → List ℕ
record_numbers l = length l ∷ move_numbers l

abbrev pub balanced_numbers : Balanced → List ℕ
balanced_numbers b =
    b.makespan ∷ b.lower_bound ∷ b.level ∷ b.lifts ∷ b.pushes ∷ length b.group ∷ b.group

abbrev pub answer_numbers : Answer → List ℕ
answer_numbers (refused e) = number e ∷ []
answer_numbers done = 0 ∷ []
answer_numbers (reviewed v) = 0 ∷ v.makespan ∷ v.improving ∷ v.loads
answer_numbers (tried t) = 0 ∷ tried_numbers t
answer_numbers (balanced b l) = 0 ∷ balanced_numbers b ++ record_numbers l
answer_numbers (settled z l) = 0 ∷ z.makespan ∷ z.moves ∷ record_numbers l
