-- Document 01, "Cases": P1 to P10 in one table, with one theorem over it (proofs/Cases). The rows from 11 on are more of document 01's cases
-- and ours: each tells a wrong rule from the right one. Rows 20 to 26 are C-11 to C-17 of
-- document 02, row 27 is C-19, and row 28 is C-20.
use Rattle.std.specs.Prelude.{ℕ, Bool, true, false, List, [], ◌∷◌, map, ◌++◌, length, replicate}
use Prim.Native.String.{String}
use Rattle.rules.specs.Refusal.{malformed, bad_size, bad_length, bad_list, bad_place, bad_calibration, bad_order, no_batch, sheet_full, has_started, level_above, buffer_short}
use Rattle.rules.specs.Sheet.{Book, Batch, waiting, begun}
use Rattle.rules.specs.Field.{Field, value, blank, fault, field}
use Rattle.rules.specs.Read.{Reading, accepted, refused_at, read}
use Rattle.rules.specs.Render.{mark, Given, numbered, left_blank, Described, Description, render}
use Rattle.rules.specs.Rewrite.{written, unmarked, open_columns, alike}
use Rattle.rules.specs.Edit.{add, withdraw, requalify, move, start}
use Rattle.rules.specs.Instance.{Assignment, busy, instance}
use Rattle.rules.specs.Load.{makespan, permitted}
use Rattle.rules.specs.Group.{passed, failed}
use Rattle.rules.specs.LowerBound.{within}
use Rattle.rules.specs.Marks.{marks_of}
use Rattle.rules.specs.Round.{multiples, equal_lengths, close_to}
use Rattle.rules.specs.Moves.{Move}
use Rattle.rules.specs.Run.{Call, editing, reviewing, trying, balancing, settling, Answer, refused, done, reviewed, tried, balanced, settled, balance_book, answer, next, answers}
use Rattle.rules.specs.Interleave.{independent, all_independent, interleave}
use Rattle.rules.specs.Lent.{Hosted}
use Rattle.rules.specs.Listing.{program, host}
use Rattle.rules.specs.Journal.{run_host, write_host}
use Rattle.rules.specs.Filed.{Filed, filed}
use Rattle.rules.specs.Text.{bytes, lines}

-- ---- the sheets

abbrev pub p1 : List ℕ
p1 =
    lines
    ("     2     3"
    ∷ "     0     0"
    ∷ "    30     1     0     2     1     2"
    ∷ "    20     1     0     1     1"
    ∷ "    10     1     0     2     1     2"
    ∷ [])

abbrev pub p2 : List ℕ
p2 =
    lines
    ("     2     3"
    ∷ "     0     0"
    ∷ "    10     1     0     1     1"
    ∷ "    10     1     0     1     1"
    ∷ "    10     1     0     1     1"
    ∷ [])

abbrev pub p3 : List ℕ
p3 = lines ("     2     0" ∷ "     0     0" ∷ [])

abbrev pub p4 : List ℕ
p4 = lines ("     1     1" ∷ "     0" ∷ "  1440     1     0     1     1" ∷ [])

abbrev pub p5 : List ℕ
p5 =
    lines
    ("     2     3"
    ∷ "     0     0"
    ∷ "    20     1     0     1     1"
    ∷ "    10     1     0     2     1     2"
    ∷ "    20     2     0     1     2"
    ∷ [])

abbrev pub p6 : List ℕ
p6 =
    lines
    ("     2     3"
    ∷ "     0     0"
    ∷ "    21     1     0     1     1"
    ∷ "    10     1     0     2     1     2"
    ∷ "    20     2     0     1     2"
    ∷ [])

-- one instrument, so no trial below its load leaves an underloaded one
abbrev pub alone : List ℕ
alone =
    lines
    ("     1     3"
    ∷ "     0"
    ∷ "    10     0     0     1     1"
    ∷ "    10     0     0     1     1"
    ∷ "    10     0     0     1     1"
    ∷ [])

-- the longest batch is not on instrument 1
abbrev pub apart : List ℕ
apart = lines ("     2     2" ∷ "     0     0" ∷ "     5     1     0     1     1" ∷ "    30     2     0     1     2" ∷ [])

-- level 1 fails, and level 2 passes with steps of its own only from the standing assignment
abbrev pub again : List ℕ
again =
    lines
    ("     2     3"
    ∷ "     0     0"
    ∷ "     3     1     0     2     1     2"
    ∷ "     4     1     0     1     1"
    ∷ "     2     1     0     1     1"
    ∷ [])

-- level 0 passes, 1 fails, 2 passes
abbrev pub uneven : List ℕ
uneven =
    lines
    ("     3     4"
    ∷ "     0     0     0"
    ∷ "     4     2     0     3     1     2     3"
    ∷ "     2     2     0     2     1     2"
    ∷ "     2     1     0     2     1     2"
    ∷ "     3     1     0     3     1     2     3"
    ∷ [])

-- every trial that passes leaves the standing assignment, and settling then makes two moves
abbrev pub unsettled : List ℕ
unsettled =
    lines
    ("     2     4"
    ∷ "     0     0"
    ∷ "     2     2     0     1     2"
    ∷ "     4     1     0     2     1     2"
    ∷ "     5     1     0     2     1     2"
    ∷ "     2     2     0     2     1     2"
    ∷ [])

-- a place given as an instrument, as 0 and as blanks
abbrev pub three_ways : List ℕ
three_ways =
    lines
    ("     2     3"
    ∷ "     0     0"
    ∷ "    10     2     0     2     1     2"
    ∷ "    20     0     0     2     1     2"
    ∷ "    30           0     2     1     2"
    ∷ [])

-- all lengths are multiples of 2, and the plan is as late as that allows
abbrev pub rounded : List ℕ
rounded =
    lines
    ("     2     3"
    ∷ "     0     0"
    ∷ "     4     1     0     2     1     2"
    ∷ "     2     2     0     2     1     2"
    ∷ "     2     1     0     1     1"
    ∷ [])

-- equal lengths: the plan is a best one, and the lower bound is below it
abbrev pub equals : List ℕ
equals =
    lines
    ("     2     3"
    ∷ "     0     0"
    ∷ "     6     1     0     2     1     2"
    ∷ "     6     1     0     2     1     2"
    ∷ "     6     1     0     2     1     2"
    ∷ [])

-- settling moves batch 2 away and back, and batch 4 in between
abbrev pub returning : List ℕ
returning =
    lines
    ("     3     4"
    ∷ "     0     0     0"
    ∷ "     1     3     0     1     3"
    ∷ "     4     3     0     2     2     3"
    ∷ "     2     2     0     1     2"
    ∷ "     2     3     0     2     1     3"
    ∷ [])

-- a calibration of 10 minutes on instrument 1, beside two batches that can run nowhere else
abbrev pub calibrated : List ℕ
calibrated =
    lines
    ("     2     2"
    ∷ "    10     0"
    ∷ "    10     1     0     1     1"
    ∷ "    10     1     0     1     1"
    ∷ [])

-- the longest of all is a calibration
abbrev pub slow_start : List ℕ
slow_start = lines ("     2     1" ∷ "    10    40" ∷ "    20     2     0     2     1     2" ∷ [])

-- calibrations and no batch
abbrev pub idle : List ℕ
idle = lines ("     2     0" ∷ "    30    20" ∷ [])

-- P1, but batch 1 has started, and cannot leave its instrument
abbrev pub loaded : List ℕ
loaded =
    lines
    ("     2     3"
    ∷ "     0     0"
    ∷ "    30     1     1     2     1     2"
    ∷ "    20     1     0     1     1"
    ∷ "    10     1     0     2     1     2"
    ∷ [])

-- the same, as a book
abbrev pub loaded_book : Book
loaded_book = record {
  m = 2;
  calibrations = 0 ∷ 0 ∷ [];
  batches = begun (waiting 30 (1 ∷ 2 ∷ []) 1) ∷ waiting 20 (1 ∷ []) 1 ∷ waiting 10 (1 ∷ 2 ∷ []) 1 ∷ [];
}

-- three that have started on one instrument, and could have run on three
abbrev pub stuck : List ℕ
stuck =
    lines
    ("     3     3"
    ∷ "     0     0     0"
    ∷ "    20     1     1     3     1     2     3"
    ∷ "    20     1     1     3     1     2     3"
    ∷ "    20     1     1     3     1     2     3"
    ∷ [])

-- a sheet of two instruments and one batch, whose line is given here
abbrev pub single : String → List ℕ
single a = lines ("     2     1" ∷ "     0     0" ∷ a ∷ [])

-- a batch that has started on the second instrument of its list
abbrev pub on_second : List ℕ
on_second = single "    10     2     1     2     1     2"

-- a book with 200 batches
abbrev pub full : Book
full = record { m = 2; calibrations = 0 ∷ 0 ∷ []; batches = replicate 200 (waiting 1 (1 ∷ []) 1) }

-- a sheet of three instruments and two batches, the second of which has this line
abbrev pub on_three : String → List ℕ
on_three a = lines ("     3     2" ∷ "     0     0     0" ∷ "    20     0     0     2     2     3" ∷ a ∷ [])

-- ---- what is asked, and what is said

pub data Ask : Type 0 where
  -- a field at the front of a text
  field_of : String → Ask
  -- a file
  reading : List ℕ → Ask
  -- a file, written back
  writing : List ℕ → Ask
  -- whether a text is a description's file but for places left open
  matching : Description → List ℕ → Ask
  -- the file of a description
  rendering : Description → Ask
  -- a file, through the program
  printing : List ℕ → Ask
  -- a file and a buffer, through the host's call
  hosting : List ℕ → List ℕ → Ask
  -- a file, a journal and a buffer, through the host's call
  running : List ℕ → List ℕ → List ℕ → Ask
  -- the same, for the sheet as the journal leaves it
  leaving : List ℕ → List ℕ → List ℕ → Ask
  -- a file, balance or settle, and a buffer, through the host's call
  filing : List ℕ → Call → List ℕ → Ask
  -- calls in a row, on the sheet of a file
  calling : List ℕ → List Call → Ask
  -- a file balanced, beside another plan of it, for a number g
  comparing : List ℕ → ℕ → Assignment → Ask
  -- a list, beside a group
  confining : List ℕ → List ℕ → Ask
  -- whether the sheet of a file has a batch or a calibration above 0
  stirring : List ℕ → Ask
  -- two calls on a book, in this order and in the other
  swapping : Book → Call → Call → Ask
  -- whether each call of a list is independent of each of another
  separating : List Call → List Call → Ask
  -- two lists by turns
  mixing : List Bool → List ℕ → List ℕ → Ask

-- the lengths are multiples of g, and all equal; the other plan is permitted; balance's finish and the other's; the bound for g holds
pub record Comparison : Type 0 where
  pub multiples : Bool
  pub equal : Bool
  pub permitted : Bool
  pub finish : ℕ
  pub other : ℕ
  pub close : Bool

pub data Said : Type 0 where
  field_said : Field → Said
  reading_said : Reading → Said
  file_said : List ℕ → Said
  matched : Bool → Said
  printed : List ℕ → Said
  hosted : Hosted → Said
  filed_said : Filed → Said
  answered : List Answer → Said
  compared : Comparison → Said
  -- the list's marks, and whether it lies in the group
  lies : List ℕ → Bool → Said
  -- whether the two are independent; what both are answered, the first before the second and after it; whether the batches left are the same
  swapped : Bool → List Answer → List Answer → Bool → Said
  mixed : List ℕ → Said
  no_sheet : Said

abbrev pub calls_on : Reading → List Call → Said
calls_on (accepted k) cs = answered (answers k cs)
calls_on (refused_at e j) cs = no_sheet

abbrev pub compared_on : Reading → ℕ → Assignment → Said
compared_on (accepted k) g y =
    let I = instance k in
    compared (record {
      multiples = multiples I g;
      equal = equal_lengths I;
      permitted = permitted I y;
      finish = (balance_book k).makespan;
      other = makespan I y;
      close = close_to I g (balance_book k).makespan (makespan I y);
    })
compared_on (refused_at e j) g y = no_sheet

abbrev pub busy_on : Reading → Said
busy_on (accepted k) = matched (busy k)
busy_on (refused_at e j) = no_sheet

-- batches as numbers
abbrev pub batch_numbers : List Batch → List ℕ
batch_numbers [] = []
batch_numbers (b ∷ bs) = b.minutes ∷ b.place ∷ mark b.started ∷ length b.list ∷ b.list ++ batch_numbers bs

abbrev pub swapped_on : Book → Call → Call → Said
swapped_on k c d =
    let j = next k c in
    let i = next k d in
    let l = batch_numbers (next j d).batches in
    swapped (independent c d) (answer k c ∷ answer j d ∷ []) (answer i c ∷ answer k d ∷ [])
    (alike (unmarked l) l (batch_numbers (next i c).batches))

abbrev pub written_of : Reading → Said
written_of (accepted k) = file_said (written k)
written_of (refused_at e j) = no_sheet

abbrev pub say : Ask → Said
say (field_of s) = field_said (field (bytes s))
say (reading s) = reading_said (read s)
say (writing s) = written_of (read s)
say (matching d u) = matched (alike (open_columns d) (render d) u)
say (rendering d) = file_said (render d)
say (printing s) = printed (program s)
say (hosting s b) = hosted (host s b)
say (running s c b) = hosted (run_host s c b)
say (leaving s c b) = hosted (write_host s c b)
say (filing s c b) = filed_said (filed s c b)
say (calling s cs) = calls_on (read s) cs
say (comparing s g y) = compared_on (read s) g y
say (confining l g) = lies (marks_of l) (within l g)
say (stirring s) = busy_on (read s)
say (swapping k c d) = swapped_on k c d
say (separating xs ys) = matched (all_independent xs ys)
say (mixing t xs ys) = mixed (interleave t xs ys)

-- a row: the case's number in document 01, what is asked, and what is to be said
pub record Row : Type 0 where
  pub name : ℕ
  pub ask : Ask
  pub says : Said

abbrev pub row : ℕ → Ask → Said → Row
row k a s = record { name = k; ask = a; says = s }

abbrev pub balance_said : ℕ → ℕ → ℕ → ℕ → ℕ → List ℕ → List ℕ → List Move → Answer
balance_said f lb a r b g x l =
    balanced (record { makespan = f; lower_bound = lb; level = a; lifts = r; pushes = b; group = g; assignment = x }) l

abbrev pub settle_said : ℕ → ℕ → List ℕ → List Move → Answer
settle_said f v x l = settled (record { makespan = f; moves = v; assignment = x }) l

abbrev pub went : ℕ → ℕ → ℕ → Move
went b i j = record { batch = b; from = i; to = j }

abbrev pub review_said : List ℕ → ℕ → ℕ → Answer
review_said l f b = reviewed (record { loads = l; makespan = f; improving = b })

abbrev pub described_of : ℕ → Given → List ℕ → Described
described_of t p l = record { minutes = t; list = l; place = p; started = false }

-- the description of three_ways
abbrev pub three_given : Description
three_given = record {
  m = 2;
  calibrations = 0 ∷ 0 ∷ [];
  batches =
      described_of 10 (numbered 2) (1 ∷ 2 ∷ [])
      ∷ described_of 20 (numbered 0) (1 ∷ 2 ∷ [])
      ∷ described_of 30 left_blank (1 ∷ 2 ∷ [])
      ∷ [];
}

-- a file like three_ways, but for the columns of its lines 3 and 4 given here
abbrev pub like_three_ways : String → String → List ℕ
like_three_ways a b = lines ("     2     3" ∷ "     0     0" ∷ a ∷ b ∷ "    30     1     0     2     1     2" ∷ [])

unfoldable pub table : List Row
table =
    row 1 (printing p1)
    (printed
    (lines
    ("    30    30     0     2     2           0"
    ∷ "     0"
    ∷ "     1     2    30"
    ∷ "     2     1    20"
    ∷ "     3     1    10"
    ∷ [])))
    ∷ row 2 (calling p2 (balancing 3 ∷ settling 3 ∷ []))
    (answered (balance_said 30 30 20 0 0 (1 ∷ []) (1 ∷ 1 ∷ 1 ∷ []) [] ∷ settle_said 30 0 (1 ∷ 1 ∷ 1 ∷ []) [] ∷ []))
    ∷ row 3 (calling p3 (balancing 0 ∷ settling 0 ∷ []))
    (answered (balance_said 0 0 0 0 0 [] [] [] ∷ settle_said 0 0 [] [] ∷ []))
    ∷ row 4 (calling p4 (balancing 1 ∷ settling 1 ∷ []))
    (answered (balance_said 1440 1440 0 0 0 [] (1 ∷ []) [] ∷ settle_said 1440 0 (1 ∷ []) [] ∷ []))
    ∷ row 5 (calling p5 (reviewing ∷ [])) (answered (review_said (30 ∷ 20 ∷ []) 30 0 ∷ []))
    ∷ row 6 (calling p6 (reviewing ∷ [])) (answered (review_said (31 ∷ 20 ∷ []) 31 2 ∷ []))
    ∷ row 7 (calling p1 (trying 0 ∷ [])) (answered (tried (passed (2 ∷ 1 ∷ 1 ∷ []) 2 2) ∷ []))
    ∷ row 8 (calling p2 (trying 19 ∷ trying 20 ∷ []))
    (answered (tried (failed (1 ∷ []) 9 12) ∷ tried (passed (1 ∷ 1 ∷ 1 ∷ []) 0 0) ∷ []))
    ∷ row 9 (field_of "    07") (field_said fault)
    ∷ row 9 (field_of "     0") (field_said (value 0))
    ∷ row 10 (reading p4) (reading_said (accepted (record { m = 1; calibrations = 0 ∷ []; batches = waiting 1440 (1 ∷ []) 1 ∷ [] })))
    ∷ row 10 (reading (lines ("     1     1" ∷ "     0" ∷ "  1441     1     0     1     1" ∷ []))) (reading_said (refused_at bad_length 3))
    -- more of reading
    ∷ row 11 (reading []) (reading_said (refused_at malformed 1))
    ∷ row 11 (reading (p3 ++ (32 ∷ []))) (reading_said (refused_at malformed 3))
    ∷ row 11 (reading (lines ("     2   201" ∷ []))) (reading_said (refused_at bad_size 1))
    ∷ row 11 (reading (lines ("     2     1" ∷ "     0     0" ∷ "    10     3     0     2     1     1" ∷ []))) (reading_said (refused_at bad_list 3))
    ∷ row 11 (reading (lines ("     2     1" ∷ "     0     0" ∷ "    10     3     0     2     1     2 " ∷ []))) (reading_said (refused_at malformed 3))
    ∷ row 11 (reading (lines ("     2     1" ∷ "     0     0" ∷ "    10     3     0     2     1     2" ∷ "x" ∷ []))) (reading_said (refused_at bad_place 3))
    ∷ row 11 (reading (lines ("     2     1" ∷ "     0     0" ∷ "    10     2     0     1     1" ∷ []))) (reading_said (refused_at bad_place 3))
    ∷ row 11 (reading (lines ("     2     1" ∷ "     0     0" ∷ "    10     0     0     1     2" ∷ [])))
    (reading_said (accepted (record { m = 2; calibrations = 0 ∷ 0 ∷ []; batches = waiting 10 (2 ∷ []) 2 ∷ [] })))
    ∷ row 12 (writing p1) (file_said p1)
    -- more of trials, balance and settle
    ∷ row 13 (calling alone (trying 0 ∷ trying 20 ∷ trying 30 ∷ trying 31 ∷ []))
    (answered
    (tried (failed (1 ∷ []) 0 0)
    ∷ tried (passed (1 ∷ 1 ∷ 1 ∷ []) 0 0)
    ∷ tried (passed (1 ∷ 1 ∷ 1 ∷ []) 0 0)
    ∷ refused level_above
    ∷ []))
    ∷ row 14 (calling apart (balancing 2 ∷ [])) (answered (balance_said 30 30 0 0 0 [] (1 ∷ 2 ∷ []) [] ∷ []))
    ∷ row 15 (calling again (balancing 3 ∷ []))
    (answered (balance_said 6 5 2 2 2 (1 ∷ 2 ∷ []) (2 ∷ 1 ∷ 1 ∷ []) (went 1 1 2 ∷ []) ∷ []))
    ∷ row 16 (calling uneven (trying 0 ∷ trying 1 ∷ trying 2 ∷ []))
    (answered
    (tried (passed (3 ∷ 2 ∷ 2 ∷ 1 ∷ []) 4 4)
    ∷ tried (failed (1 ∷ 2 ∷ 3 ∷ []) 5 6)
    ∷ tried (passed (2 ∷ 2 ∷ 1 ∷ 1 ∷ []) 0 0)
    ∷ []))
    ∷ row 17 (calling unsettled (reviewing ∷ balancing 4 ∷ settling 4 ∷ reviewing ∷ []))
    (answered
    (review_said (9 ∷ 4 ∷ []) 9 2
    ∷ balance_said 9 7 4 0 0 (1 ∷ 2 ∷ []) (2 ∷ 1 ∷ 1 ∷ 2 ∷ []) []
    ∷ settle_said 7 2 (2 ∷ 2 ∷ 1 ∷ 1 ∷ []) (went 2 1 2 ∷ went 4 2 1 ∷ [])
    ∷ review_said (7 ∷ 6 ∷ []) 7 0
    ∷ []))
    ∷ row 17 (printing unsettled)
    (printed
    (lines
    ("     7     7     4     0     0           2"
    ∷ "     2     1     2"
    ∷ "     1     2     2"
    ∷ "     2     2     4"
    ∷ "     3     1     5"
    ∷ "     4     1     2"
    ∷ [])))
    -- edits in a row, each refusal once
    ∷ row 18 (calling p1
    (editing (withdraw 0)
    ∷ editing (withdraw 4)
    ∷ editing (withdraw 1)
    ∷ editing (move 2 0)
    ∷ editing (move 3 9)
    ∷ editing (move 2 2)
    ∷ editing (requalify 2 (1 ∷ 1 ∷ []))
    ∷ editing (requalify 3 [])
    ∷ editing (requalify 2 (1 ∷ []))
    ∷ editing (add 0 [])
    ∷ editing (add 7 (3 ∷ []))
    ∷ editing (add 7 (2 ∷ 1 ∷ []))
    ∷ editing (add 7 (2 ∷ []))
    ∷ reviewing
    ∷ []))
    (answered
    (refused no_batch
    ∷ refused no_batch
    ∷ done
    ∷ refused bad_place
    ∷ refused no_batch
    ∷ done
    ∷ refused bad_list
    ∷ refused no_batch
    ∷ done
    ∷ refused bad_length
    ∷ refused bad_list
    ∷ refused bad_order
    ∷ done
    ∷ review_said (30 ∷ 7 ∷ []) 30 0
    ∷ []))
    -- the host's buffer
    ∷ row 19 (hosting p3 (replicate 49 1)) (hosted (record { refusal = 9; line = 0; length = 0; buffer = replicate 49 1 }))
    ∷ row 19 (hosting p3 (replicate 51 1))
    (hosted (record {
      refusal = 0;
      line = 0;
      length = 50;
      buffer = lines ("     0     0     0     0     0           0" ∷ "     0" ∷ []) ++ (1 ∷ []);
    }))
    ∷ row 19 (hosting [] []) (hosted (record { refusal = 1; line = 1; length = 0; buffer = [] }))
    ∷ row 19 (printing []) (printed (lines ("     1     1" ∷ [])))
    -- blank: six blanks, in the place alone
    ∷ row 20 (field_of "      ") (field_said blank)
    ∷ row 20 (field_of "     ") (field_said fault)
    ∷ row 20 (field_of "1     ") (field_said fault)
    ∷ row 20 (reading three_ways)
    (reading_said (accepted (record {
      m = 2;
      calibrations = 0 ∷ 0 ∷ [];
      batches = waiting 10 (1 ∷ 2 ∷ []) 2 ∷ waiting 20 (1 ∷ 2 ∷ []) 1 ∷ waiting 30 (1 ∷ 2 ∷ []) 1 ∷ [];
    })))
    ∷ row 20 (rendering three_given) (file_said three_ways)
    ∷ row 20 (reading (lines ("           0" ∷ []))) (reading_said (refused_at malformed 1))
    ∷ row 20 (reading (lines ("     2      " ∷ []))) (reading_said (refused_at malformed 1))
    ∷ row 20 (reading (lines ("     2     1" ∷ "     0     0" ∷ "           1     0     1     1" ∷ []))) (reading_said (refused_at malformed 3))
    ∷ row 20 (reading (lines ("     2     1" ∷ "     0     0" ∷ "    10     1     0           1" ∷ []))) (reading_said (refused_at malformed 3))
    ∷ row 20 (reading (lines ("     2     1" ∷ "     0     0" ∷ "    10     1     0     2     1      " ∷ []))) (reading_said (refused_at malformed 3))
    ∷ row 20 (running p3 (lines ("     5" ∷ "     4     1      " ∷ [])) (1 ∷ []))
    (hosted (record { refusal = 19; line = 2; length = 0; buffer = 1 ∷ [] }))
    -- round lengths: the bound for 2 is reached; not all are multiples of 4, and none is of 0; equal lengths
    ∷ row 21 (comparing rounded 2 (2 ∷ 1 ∷ 1 ∷ []))
    (compared (record { multiples = true; equal = false; permitted = true; finish = 6; other = 4; close = true }))
    ∷ row 21 (comparing rounded 4 (2 ∷ 1 ∷ 1 ∷ []))
    (compared (record { multiples = false; equal = false; permitted = true; finish = 6; other = 4; close = false }))
    ∷ row 21 (comparing rounded 0 (2 ∷ 1 ∷ 1 ∷ []))
    (compared (record { multiples = false; equal = false; permitted = true; finish = 6; other = 4; close = true }))
    ∷ row 21 (comparing equals 6 (1 ∷ 1 ∷ 2 ∷ []))
    (compared (record { multiples = true; equal = true; permitted = true; finish = 12; other = 12; close = true }))
    ∷ row 21 (calling equals (balancing 3 ∷ []))
    (answered (balance_said 12 9 6 2 2 (1 ∷ 2 ∷ []) (2 ∷ 1 ∷ 1 ∷ []) (went 1 1 2 ∷ []) ∷ []))
    -- a sheet written back: every place as it is; another file only where a place was left open
    ∷ row 22 (writing three_ways) (file_said (like_three_ways "    10     2     0     2     1     2" "    20     1     0     2     1     2"))
    ∷ row 22 (matching three_given (like_three_ways "    10     2     0     2     1     2" "    20     1     0     2     1     2")) (matched true)
    ∷ row 22 (matching three_given (like_three_ways "    10     1     0     2     1     2" "    20     1     0     2     1     2")) (matched false)
    ∷ row 22 (matching three_given (like_three_ways "    10     2     0     2     1     2" "    20     1     0     2     2     1")) (matched false)
    ∷ row 22 (matching three_given (like_three_ways "    10     2     0     2     1     2" "    20     1     0     2     1     2 ")) (matched false)
    -- the sheet that a journal leaves, a refused call among its calls; an empty journal; a short buffer; bad files
    ∷ row 22 (leaving p1 (lines ("     7     3" ∷ "     8     3" ∷ "     4     2     2" ∷ "     2     2" ∷ "     1    15     2     1     2" ∷ [])) (replicate 138 1))
    (hosted (record {
      refusal = 0;
      line = 0;
      length = 137;
      buffer =
          lines
          ("     2     3"
          ∷ "     0     0"
          ∷ "    30     2     0     2     1     2"
          ∷ "    10     1     0     2     1     2"
          ∷ "    15     1     0     2     1     2"
          ∷ [])
          ++ (1 ∷ []);
    }))
    ∷ row 22 (leaving p3 [] (replicate 26 1)) (hosted (record { refusal = 0; line = 0; length = 26; buffer = p3 }))
    ∷ row 22 (leaving p3 [] (replicate 25 1)) (hosted (record { refusal = 9; line = 0; length = 0; buffer = replicate 25 1 }))
    ∷ row 22 (leaving p3 (lines ("     5" ∷ "    10" ∷ [])) []) (hosted (record { refusal = 19; line = 2; length = 0; buffer = [] }))
    ∷ row 22 (leaving [] (lines ("     9" ∷ [])) []) (hosted (record { refusal = 1; line = 1; length = 0; buffer = [] }))
    -- settle alone; a list with an entry less than there are batches, which changes nothing; balance after it, and each of them twice
    ∷ row 23 (calling p1 (balancing 2 ∷ settling 2 ∷ settling 3 ∷ balancing 4 ∷ settling 4 ∷ balancing 3 ∷ []))
    (answered
    (refused buffer_short
    ∷ refused buffer_short
    ∷ settle_said 30 1 (2 ∷ 1 ∷ 1 ∷ []) (went 1 1 2 ∷ [])
    ∷ balance_said 30 30 0 0 0 [] (2 ∷ 1 ∷ 1 ∷ []) []
    ∷ settle_said 30 0 (2 ∷ 1 ∷ 1 ∷ []) []
    ∷ balance_said 30 30 0 0 0 [] (2 ∷ 1 ∷ 1 ∷ []) []
    ∷ []))
    -- a batch that settles away and returns has two moves and no record
    ∷ row 23 (calling returning (settling 4 ∷ [])) (answered (settle_said 5 3 (3 ∷ 3 ∷ 2 ∷ 1 ∷ []) (went 4 3 1 ∷ []) ∷ []))
    -- as lines of a journal; a line without the number of entries
    ∷ row 23 (running p1 (lines ("     7     2" ∷ "     7     3" ∷ "     8     3" ∷ [])) (replicate 106 1))
    (hosted (record {
      refusal = 0;
      line = 0;
      length = 105;
      buffer =
          lines
          ("     9"
          ∷ "     0    30    30     0     2     2     0     1     1     1     2"
          ∷ "     0    30           0     0"
          ∷ [])
          ++ (1 ∷ []);
    }))
    ∷ row 23 (running p1 (lines ("     5" ∷ "     7" ∷ [])) (1 ∷ []))
    (hosted (record { refusal = 19; line = 2; length = 0; buffer = 1 ∷ [] }))
    -- on a file, with the sheet written back; a short list, a short buffer, a bad sheet
    ∷ row 23 (filing p1 (settling 3) (replicate 132 1))
    (filed_said (record {
      hosted = record {
        refusal = 0;
        line = 0;
        length = 131;
        buffer =
            lines
            ("     2     3"
            ∷ "     0     0"
            ∷ "    30     2     0     2     1     2"
            ∷ "    20     1     0     1     1"
            ∷ "    10     1     0     2     1     2"
            ∷ [])
            ++ (1 ∷ []);
      };
      answer = settle_said 30 1 (2 ∷ 1 ∷ 1 ∷ []) (went 1 1 2 ∷ []);
    }))
    ∷ row 23 (filing p1 (balancing 2) [])
    (filed_said (record { hosted = record { refusal = 9; line = 0; length = 0; buffer = [] }; answer = refused buffer_short }))
    ∷ row 23 (filing p1 (balancing 3) (replicate 130 1))
    (filed_said (record { hosted = record { refusal = 9; line = 0; length = 0; buffer = replicate 130 1 }; answer = refused buffer_short }))
    ∷ row 23 (filing [] (balancing 0) [])
    (filed_said (record { hosted = record { refusal = 1; line = 1; length = 0; buffer = [] }; answer = refused malformed }))
    -- a list's marks, and whether it lies in a group: it does, all but its last instrument does, nothing is listed
    ∷ row 24 (confining (4 ∷ 5 ∷ 24 ∷ []) (4 ∷ 5 ∷ 6 ∷ 24 ∷ []))
    (lies (0 ∷ 0 ∷ 0 ∷ 1 ∷ 1 ∷ 0 ∷ 0 ∷ 0 ∷ 0 ∷ 0 ∷ 0 ∷ 0 ∷ 0 ∷ 0 ∷ 0 ∷ 0 ∷ 0 ∷ 0 ∷ 0 ∷ 0 ∷ 0 ∷ 0 ∷ 0 ∷ 1 ∷ []) true)
    ∷ row 24 (confining (4 ∷ 24 ∷ []) (4 ∷ 5 ∷ 6 ∷ []))
    (lies (0 ∷ 0 ∷ 0 ∷ 1 ∷ 0 ∷ 0 ∷ 0 ∷ 0 ∷ 0 ∷ 0 ∷ 0 ∷ 0 ∷ 0 ∷ 0 ∷ 0 ∷ 0 ∷ 0 ∷ 0 ∷ 0 ∷ 0 ∷ 0 ∷ 0 ∷ 0 ∷ 1 ∷ []) false)
    ∷ row 24 (confining [] []) (lies (replicate 24 0) true)
    -- line 2: 240 is read, 241 is refused before what follows it is looked at; a blank, one too few, one too many, no line 2
    ∷ row 25 (reading (lines ("     2     0" ∷ "   240     0" ∷ [])))
    (reading_said (accepted (record { m = 2; calibrations = 240 ∷ 0 ∷ []; batches = [] })))
    ∷ row 25 (reading (lines ("     2     0" ∷ "   241     x" ∷ []))) (reading_said (refused_at bad_calibration 2))
    ∷ row 25 (reading (lines ("     2     0" ∷ "     x   241" ∷ []))) (reading_said (refused_at malformed 2))
    ∷ row 25 (reading (lines ("     2     0" ∷ "           0" ∷ []))) (reading_said (refused_at malformed 2))
    ∷ row 25 (reading (lines ("     2     0" ∷ "     0" ∷ []))) (reading_said (refused_at malformed 2))
    ∷ row 25 (reading (lines ("     2     0" ∷ "     0     0     0" ∷ []))) (reading_said (refused_at malformed 2))
    ∷ row 25 (reading (lines ("     2     1" ∷ "    30     1     2     1     2" ∷ []))) (reading_said (refused_at malformed 2))
    ∷ row 25 (reading (lines ("     2     0" ∷ []))) (reading_said (refused_at malformed 2))
    ∷ row 25 (writing calibrated) (file_said calibrated)
    -- a calibration counts in the total, in trials and in what is confined to a group, and has no place among those shown
    ∷ row 25 (calling calibrated (trying 19 ∷ trying 20 ∷ trying 30 ∷ trying 31 ∷ balancing 1 ∷ balancing 2 ∷ reviewing ∷ []))
    (answered
    (tried (failed (1 ∷ []) 9 12)
    ∷ tried (passed (1 ∷ 1 ∷ []) 0 0)
    ∷ tried (passed (1 ∷ 1 ∷ []) 0 0)
    ∷ refused level_above
    ∷ refused buffer_short
    ∷ balance_said 30 30 20 0 0 (1 ∷ []) (1 ∷ 1 ∷ 1 ∷ []) []
    ∷ review_said (30 ∷ 0 ∷ []) 30 0
    ∷ []))
    ∷ row 25 (printing slow_start) (printed (lines ("    40    40    10     2     2           0" ∷ "     2     1     2" ∷ "     1     1    20" ∷ [])))
    -- it stays with its instrument when batches come and go
    ∷ row 25 (calling slow_start (editing (add 5 (1 ∷ [])) ∷ editing (withdraw 3) ∷ editing (withdraw 1) ∷ reviewing ∷ []))
    (answered (done ∷ refused no_batch ∷ done ∷ review_said (15 ∷ 40 ∷ []) 40 0 ∷ []))
    ∷ row 25 (calling idle (trying 0 ∷ trying 50 ∷ trying 51 ∷ balancing 0 ∷ settling 0 ∷ reviewing ∷ []))
    (answered
    (tried (passed [] 0 0)
    ∷ tried (passed [] 0 0)
    ∷ refused level_above
    ∷ balance_said 30 30 0 0 0 [] (1 ∷ 2 ∷ []) []
    ∷ settle_said 30 0 (1 ∷ 2 ∷ []) []
    ∷ review_said (30 ∷ 20 ∷ []) 30 0
    ∷ []))
    ∷ row 25 (stirring p3) (matched false)
    ∷ row 25 (stirring p4) (matched true)
    ∷ row 25 (stirring idle) (matched true)
    -- round and equal lengths are those of calibrations too
    ∷ row 25 (comparing slow_start 20 (1 ∷ 1 ∷ 2 ∷ []))
    (compared (record { multiples = false; equal = false; permitted = true; finish = 40; other = 40; close = true }))
    ∷ row 25 (comparing slow_start 10 (2 ∷ 1 ∷ 2 ∷ []))
    (compared (record { multiples = true; equal = false; permitted = true; finish = 40; other = 60; close = true }))
    ∷ row 25 (comparing slow_start 10 (1 ∷ 2 ∷ 2 ∷ []))
    (compared (record { multiples = true; equal = false; permitted = false; finish = 40; other = 50; close = true }))
    -- the mark: 0 or 1, judged after the length and before the count
    ∷ row 26 (reading on_second)
    (reading_said (accepted (record { m = 2; calibrations = 0 ∷ 0 ∷ []; batches = begun (waiting 10 (1 ∷ 2 ∷ []) 2) ∷ [] })))
    ∷ row 26 (reading (single "    10     1     2     9     1")) (reading_said (refused_at malformed 3))
    ∷ row 26 (reading (single "    10     1     1     9     1")) (reading_said (refused_at bad_list 3))
    ∷ row 26 (reading (single "  1441     1     2     1     1")) (reading_said (refused_at bad_length 3))
    ∷ row 26 (reading (single "    10     1           1     1")) (reading_said (refused_at malformed 3))
    -- started without a place, or off the list, judged last
    ∷ row 26 (reading (single "    10     0     1     1     1")) (reading_said (refused_at bad_place 3))
    ∷ row 26 (reading (single "    10           1     1     1")) (reading_said (refused_at bad_place 3))
    ∷ row 26 (reading (single "    10     2     1     1     1")) (reading_said (refused_at bad_place 3))
    ∷ row 26 (reading (single "    10     0     1     2     1     1")) (reading_said (refused_at bad_list 3))
    ∷ row 26 (reading (single "    10     0     1     1     1 ")) (reading_said (refused_at malformed 3))
    -- lines without a mark, as they were
    ∷ row 26 (reading (single "    10     1     2     1     2")) (reading_said (refused_at malformed 3))
    ∷ row 26 (reading (single "    10     1     1     1")) (reading_said (refused_at malformed 3))
    -- the file has the whole list, and the mark is no place that may be left open
    ∷ row 26 (writing loaded) (file_said loaded)
    ∷ row 26 (matching three_given (like_three_ways "    10     2     0     2     1     2" "    20     1     1     2     1     2")) (matched false)
    ∷ row 26 (rendering (record {
      m = 2;
      calibrations = 0 ∷ 0 ∷ [];
      batches = record { minutes = 10; list = 1 ∷ 2 ∷ []; place = numbered 2; started = true } ∷ [];
    }))
    (file_said on_second)
    -- 6 before 11, and 11 before 4 and 5
    ∷ row 26 (calling loaded
    (editing (withdraw 4)
    ∷ editing (requalify 4 [])
    ∷ editing (move 4 0)
    ∷ editing (start 4)
    ∷ editing (start 0)
    ∷ editing (withdraw 1)
    ∷ editing (requalify 1 [])
    ∷ editing (requalify 1 (1 ∷ []))
    ∷ editing (move 1 0)
    ∷ editing (move 1 2)
    ∷ editing (start 1)
    ∷ []))
    (answered
    (refused no_batch
    ∷ refused no_batch
    ∷ refused no_batch
    ∷ refused no_batch
    ∷ refused no_batch
    ∷ refused has_started
    ∷ refused has_started
    ∷ refused has_started
    ∷ refused has_started
    ∷ refused has_started
    ∷ refused has_started
    ∷ []))
    -- the number of a started batch falls; add gives one that has not started
    ∷ row 26 (calling loaded
    (editing (start 3)
    ∷ editing (move 3 2)
    ∷ editing (withdraw 2)
    ∷ editing (withdraw 2)
    ∷ editing (add 7 (1 ∷ 2 ∷ []))
    ∷ editing (move 3 2)
    ∷ editing (requalify 3 (2 ∷ []))
    ∷ reviewing
    ∷ editing (withdraw 3)
    ∷ []))
    (answered
    (done
    ∷ refused has_started
    ∷ done
    ∷ refused has_started
    ∷ done
    ∷ done
    ∷ done
    ∷ review_said (40 ∷ 7 ∷ []) 40 0
    ∷ done
    ∷ []))
    -- it counts as qualified on its place alone: for gains, in trials, for the group and what is confined to it, and in plans compared with
    ∷ row 26 (calling loaded (reviewing ∷ trying 0 ∷ trying 29 ∷ balancing 3 ∷ settling 3 ∷ reviewing ∷ []))
    (answered
    (review_said (60 ∷ 0 ∷ []) 60 3
    ∷ tried (failed (1 ∷ 2 ∷ []) 4 6)
    ∷ tried (passed (1 ∷ 1 ∷ 2 ∷ []) 4 6)
    ∷ balance_said 50 50 20 4 6 (1 ∷ []) (1 ∷ 1 ∷ 2 ∷ []) (went 3 1 2 ∷ [])
    ∷ settle_said 50 0 (1 ∷ 1 ∷ 2 ∷ []) []
    ∷ review_said (50 ∷ 10 ∷ []) 50 0
    ∷ []))
    ∷ row 26 (comparing loaded 10 (1 ∷ 1 ∷ 2 ∷ []))
    (compared (record { multiples = true; equal = false; permitted = true; finish = 50; other = 50; close = true }))
    ∷ row 26 (comparing loaded 10 (2 ∷ 1 ∷ 1 ∷ []))
    (compared (record { multiples = true; equal = false; permitted = false; finish = 50; other = 30; close = true }))
    ∷ row 26 (comparing on_second 10 (2 ∷ []))
    (compared (record { multiples = true; equal = true; permitted = true; finish = 10; other = 10; close = true }))
    ∷ row 26 (comparing on_second 10 (1 ∷ []))
    (compared (record { multiples = true; equal = true; permitted = false; finish = 10; other = 10; close = true }))
    ∷ row 26 (comparing stuck 20 (1 ∷ 2 ∷ 3 ∷ []))
    (compared (record { multiples = true; equal = true; permitted = false; finish = 60; other = 20; close = false }))
    -- as a line of a journal; a line without the number; a start keeps place and list
    ∷ row 26 (running loaded (lines ("     9     1" ∷ "     9     3" ∷ "     9     4" ∷ [])) (replicate 22 1))
    (hosted (record { refusal = 0; line = 0; length = 21; buffer = lines ("    11" ∷ "     0" ∷ "     6" ∷ []) ++ (1 ∷ []) }))
    ∷ row 26 (running loaded (lines ("     5" ∷ "     9" ∷ [])) (1 ∷ []))
    (hosted (record { refusal = 19; line = 2; length = 0; buffer = 1 ∷ [] }))
    ∷ row 26 (leaving p1 (lines ("     9     1" ∷ "     7     3" ∷ "     8     3" ∷ [])) (replicate 131 1))
    (hosted (record {
      refusal = 0;
      line = 0;
      length = 131;
      buffer =
          lines
          ("     2     3"
          ∷ "     0     0"
          ∷ "    30     1     1     2     1     2"
          ∷ "    20     1     0     1     1"
          ∷ "    10     2     0     2     1     2"
          ∷ []);
    }))
    -- edits of different batches, in either order: made, refused for every reason, and without a batch
    ∷ row 27 (swapping loaded_book (editing (move 3 2)) (editing (start 2))) (swapped true (done ∷ done ∷ []) (done ∷ done ∷ []) true)
    ∷ row 27 (swapping loaded_book (editing (requalify 3 (2 ∷ []))) (editing (requalify 2 [])))
    (swapped true (done ∷ refused bad_list ∷ []) (done ∷ refused bad_list ∷ []) true)
    ∷ row 27 (swapping loaded_book (editing (move 1 2)) (editing (move 2 2)))
    (swapped true (refused has_started ∷ refused bad_place ∷ []) (refused has_started ∷ refused bad_place ∷ []) true)
    ∷ row 27 (swapping loaded_book (editing (start 0)) (editing (move 1 1)))
    (swapped true (refused no_batch ∷ refused has_started ∷ []) (refused no_batch ∷ refused has_started ∷ []) true)
    ∷ row 27 (swapping loaded_book (editing (start 4)) (editing (start 3))) (swapped true (refused no_batch ∷ done ∷ []) (refused no_batch ∷ done ∷ []) true)
    -- of one batch the order counts, in the sheet or in an answer
    ∷ row 27 (swapping loaded_book (editing (move 3 2)) (editing (start 3)))
    (swapped false (done ∷ done ∷ []) (refused has_started ∷ done ∷ []) false)
    ∷ row 27 (swapping loaded_book (editing (move 3 2)) (editing (move 3 1))) (swapped false (done ∷ done ∷ []) (done ∷ done ∷ []) false)
    ∷ row 27 (swapping loaded_book (editing (requalify 3 (1 ∷ []))) (editing (move 3 2)))
    (swapped false (done ∷ refused bad_place ∷ []) (done ∷ done ∷ []) true)
    -- with an addition it may count, of whatever kind the other edit is
    ∷ row 27 (swapping loaded_book (editing (add 5 (1 ∷ []))) (editing (add 6 (1 ∷ [])))) (swapped false (done ∷ done ∷ []) (done ∷ done ∷ []) false)
    ∷ row 27 (swapping loaded_book (editing (add 5 (1 ∷ []))) (editing (withdraw 4)))
    (swapped false (done ∷ done ∷ []) (done ∷ refused no_batch ∷ []) false)
    ∷ row 27 (swapping loaded_book (editing (add 5 (1 ∷ []))) (editing (requalify 4 (2 ∷ []))))
    (swapped false (done ∷ done ∷ []) (done ∷ refused no_batch ∷ []) false)
    ∷ row 27 (swapping loaded_book (editing (add 5 (1 ∷ 2 ∷ []))) (editing (move 4 2)))
    (swapped false (done ∷ done ∷ []) (done ∷ refused no_batch ∷ []) false)
    ∷ row 27 (swapping loaded_book (editing (add 5 (1 ∷ []))) (editing (start 4)))
    (swapped false (done ∷ done ∷ []) (done ∷ refused no_batch ∷ []) false)
    -- and so with a withdrawal of another batch
    ∷ row 27 (swapping loaded_book (editing (withdraw 2)) (editing (withdraw 3)))
    (swapped false (done ∷ refused no_batch ∷ []) (done ∷ done ∷ []) false)
    ∷ row 27 (swapping loaded_book (editing (withdraw 2)) (editing (requalify 3 (2 ∷ []))))
    (swapped false (done ∷ refused no_batch ∷ []) (done ∷ done ∷ []) false)
    ∷ row 27 (swapping loaded_book (editing (withdraw 2)) (editing (move 3 2)))
    (swapped false (done ∷ refused no_batch ∷ []) (done ∷ done ∷ []) false)
    ∷ row 27 (swapping loaded_book (editing (withdraw 2)) (editing (start 3)))
    (swapped false (done ∷ refused no_batch ∷ []) (done ∷ done ∷ []) false)
    -- other calls are not among those that the law is about
    ∷ row 27 (swapping loaded_book reviewing (editing (move 3 2)))
    (swapped false (review_said (60 ∷ 0 ∷ []) 60 3 ∷ done ∷ []) (review_said (50 ∷ 10 ∷ []) 50 0 ∷ done ∷ []) true)
    -- lists: every pair counts, and nothing is asked of one beside an empty one
    ∷ row 27 (separating (editing (move 1 1) ∷ editing (start 3) ∷ []) (editing (start 2) ∷ editing (requalify 4 []) ∷ [])) (matched true)
    ∷ row 27 (separating (editing (move 1 1) ∷ editing (start 3) ∷ []) (editing (start 2) ∷ editing (requalify 3 []) ∷ [])) (matched false)
    ∷ row 27 (separating (editing (move 1 1) ∷ editing (withdraw 3) ∷ []) (editing (start 2) ∷ [])) (matched false)
    ∷ row 27 (separating (reviewing ∷ []) []) (matched true)
    -- by turns, and what is left where one list is used up, or there is no turn more
    ∷ row 27 (mixing (true ∷ false ∷ false ∷ true ∷ []) (1 ∷ 2 ∷ 3 ∷ []) (4 ∷ 5 ∷ 6 ∷ [])) (mixed (1 ∷ 4 ∷ 5 ∷ 2 ∷ 3 ∷ 6 ∷ []))
    ∷ row 27 (mixing (false ∷ true ∷ true ∷ false ∷ []) (1 ∷ []) (4 ∷ 5 ∷ 6 ∷ [])) (mixed (4 ∷ 1 ∷ 5 ∷ 6 ∷ []))
    ∷ row 27 (mixing (false ∷ false ∷ []) (1 ∷ 2 ∷ []) (4 ∷ [])) (mixed (4 ∷ 1 ∷ 2 ∷ []))
    -- lists ascend; a place not given is the lowest of its list
    ∷ row 28 (reading (on_three "    10     0     0     3     1     2     3"))
    (reading_said (accepted (record { m = 3; calibrations = 0 ∷ 0 ∷ 0 ∷ []; batches = waiting 20 (2 ∷ 3 ∷ []) 2 ∷ waiting 10 (1 ∷ 2 ∷ 3 ∷ []) 1 ∷ [] })))
    ∷ row 28 (reading (on_three "    10     1     0     2     2     1")) (reading_said (refused_at bad_order 4))
    ∷ row 28 (reading (on_three "    10     1     0     3     1     3     2")) (reading_said (refused_at bad_order 4))
    -- judged after every field of the list: equal neighbours, a repeat, an instrument that does not exist and a field without a number come before it
    ∷ row 28 (reading (on_three "    10     1     0     2     1     1")) (reading_said (refused_at bad_list 4))
    ∷ row 28 (reading (on_three "    10     1     0     3     3     1     1")) (reading_said (refused_at bad_list 4))
    ∷ row 28 (reading (on_three "    10     1     0     3     3     1     3")) (reading_said (refused_at bad_list 4))
    ∷ row 28 (reading (on_three "    10     1     0     3     2     1     4")) (reading_said (refused_at bad_list 4))
    ∷ row 28 (reading (on_three "    10     1     0     3     2     1     x")) (reading_said (refused_at malformed 4))
    ∷ row 28 (reading (on_three "    10     1     0     3     2     1")) (reading_said (refused_at malformed 4))
    -- so do the line's other fields
    ∷ row 28 (reading (on_three "  1441     1     0     2     2     1")) (reading_said (refused_at bad_length 4))
    ∷ row 28 (reading (on_three "    10     1     2     2     2     1")) (reading_said (refused_at malformed 4))
    ∷ row 28 (reading (on_three "    10     1     0     4     2     1")) (reading_said (refused_at bad_list 4))
    -- the LF and the place come after it
    ∷ row 28 (reading (on_three "    10     1     0     2     2     1 ")) (reading_said (refused_at bad_order 4))
    ∷ row 28 (reading (on_three "    10     1     0     2     2     1     3")) (reading_said (refused_at bad_order 4))
    ∷ row 28 (reading (on_three "    10     3     0     2     2     1")) (reading_said (refused_at bad_order 4))
    ∷ row 28 (reading (on_three "    10           1     2     2     1")) (reading_said (refused_at bad_order 4))
    ∷ row 28 (reading (on_three "    10     3     0     2     1     2 ")) (reading_said (refused_at malformed 4))
    ∷ row 28 (reading (on_three "    10     3     0     2     1     2")) (reading_said (refused_at bad_place 4))
    -- edits: 3 and 4 before it, and 6, 11 and 4; a list with one instrument has no order
    ∷ row 28 (calling (on_three "    10     1     1     2     1     2")
    (editing (add 0 (2 ∷ 1 ∷ []))
    ∷ editing (add 5 (2 ∷ 1 ∷ 2 ∷ []))
    ∷ editing (add 5 (2 ∷ 1 ∷ 4 ∷ []))
    ∷ editing (add 5 (2 ∷ 2 ∷ []))
    ∷ editing (add 5 (1 ∷ 3 ∷ 2 ∷ []))
    ∷ editing (requalify 3 (2 ∷ 1 ∷ []))
    ∷ editing (requalify 2 (2 ∷ 1 ∷ []))
    ∷ editing (requalify 1 (2 ∷ 1 ∷ 2 ∷ []))
    ∷ editing (requalify 1 (3 ∷ 2 ∷ []))
    ∷ editing (requalify 1 (3 ∷ []))
    ∷ editing (requalify 1 (1 ∷ 2 ∷ []))
    ∷ editing (add 5 (2 ∷ 3 ∷ []))
    ∷ reviewing
    ∷ []))
    (answered
    (refused bad_length
    ∷ refused bad_list
    ∷ refused bad_list
    ∷ refused bad_list
    ∷ refused bad_order
    ∷ refused no_batch
    ∷ refused has_started
    ∷ refused bad_list
    ∷ refused bad_order
    ∷ done
    ∷ done
    ∷ done
    ∷ review_said (30 ∷ 5 ∷ 0 ∷ []) 30 1
    ∷ []))
    -- on a full sheet 7 comes before it, and before 3 and 4
    ∷ row 28 (swapping full (editing (add 5 (2 ∷ 1 ∷ []))) (editing (add 0 [])))
    (swapped false (refused sheet_full ∷ refused sheet_full ∷ []) (refused sheet_full ∷ refused sheet_full ∷ []) true)
    -- as lines of a journal
    ∷ row 28 (running p1 (lines ("     1     5     2     2     1" ∷ "     3     3     2     2     1" ∷ "     3     3     1     2" ∷ [])) (replicate 21 1))
    (hosted (record { refusal = 0; line = 0; length = 21; buffer = lines ("    13" ∷ "    13" ∷ "     0" ∷ []) }))
    ∷ []

abbrev pub asked : List Row → List Said
asked t = map (λ (r : Row). say r.ask) t

abbrev pub said : List Row → List Said
said t = map (λ (r : Row). r.says) t
