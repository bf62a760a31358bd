-- Document 01, "The listing": its lines, what the program prints for any input, and what the host's call answers.
use Rattle.std.specs.Prelude.{ℕ, zero, suc, List, [], ◌∷◌, ◌++◌, length}
use Rattle.rules.specs.Fold.{at}
use Rattle.rules.specs.Refusal.{number}
use Rattle.rules.specs.Sheet.{Book, size, batch}
use Rattle.rules.specs.Render.{columns, fields, line}
use Rattle.rules.specs.Read.{Reading, accepted, refused_at, read}
use Rattle.rules.specs.Lent.{Due, text, refusal, printed, Hosted, into_buffer}
use Rattle.rules.specs.Instance.{instance, places}
use Rattle.rules.specs.Plan.{Plan, plan}

-- balance on a book, and settle straight after it
abbrev pub plan_book : Book → Plan
plan_book k = plan (instance k) (places k)

-- line 1: six columns for each number, but twelve for the moves
abbrev pub first_line : Plan → List ℕ
first_line p =
    fields (p.makespan ∷ p.lower_bound ∷ p.level ∷ p.lifts ∷ p.pushes ∷ []) ++ columns 12 p.moves ++ (10 ∷ [])

-- line 2: the group's size and its instruments; 0 where no trial failed
abbrev pub group_line : Plan → List ℕ
group_line p = line (length p.group ∷ p.group)

-- a line for each of the first c batches: number, place, length
unfoldable pub batch_listing : Book → Plan → ℕ → List ℕ
batch_listing k p zero = []
batch_listing k p (suc b) =
    batch_listing k p b ++ line (suc b ∷ at p.assignment (suc b) ∷ (batch k (suc b)).minutes ∷ [])

-- the listing of the book k, planned as p
unfoldable pub listing : Book → Plan → List ℕ
listing k p = first_line p ++ group_line p ++ batch_listing k p (size k)

-- what is due for a file: the listing of its sheet, planned, or the refusal and its line
abbrev pub listing_due : Reading → Due
listing_due (accepted k) = text (listing k (plan_book k))
listing_due (refused_at e j) = refusal (number e) j

-- what the program prints
unfoldable pub program : List ℕ → List ℕ
program s = printed (listing_due (read s))

-- what the host's call answers, with a buffer lent for the listing
unfoldable pub host : List ℕ → List ℕ → Hosted
host s buffer = into_buffer (listing_due (read s)) buffer
