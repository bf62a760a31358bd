-- A journal: a list of calls as a text in the sheet's own style, a line for each call, and the text of their answers. The documents
-- leave its form open; docs/DECISIONS.md says what was decided.
use Rattle.std.specs.Prelude.{ℕ, zero, suc, List, [], ◌∷◌, ◌++◌, length, eqb}
use Rattle.rules.specs.Fold.{pick}
use Rattle.rules.specs.Refusal.{malformed, number}
use Rattle.rules.specs.Sheet.{Book}
use Rattle.rules.specs.Read.{Part, gives, refuses, and_then, number_at, end_of_line, Reading, accepted, refused_at, read}
use Rattle.rules.specs.Render.{columns, fields, line}
use Rattle.rules.specs.Rewrite.{written}
use Rattle.rules.specs.Edit.{add, withdraw, requalify, move, start}
use Rattle.rules.specs.Run.{Call, editing, reviewing, trying, balancing, settling, Answer, refused, done, reviewed, tried, balanced, settled, book_after, answers, answer_numbers, record_numbers}
use Rattle.rules.specs.Lent.{Due, text, refusal, Hosted, into_buffer}

-- the refusal of a journal that is not of the form below
abbrev pub bad_journal : ℕ
bad_journal = 19

-- ---- a line: the kind of call, its numbers, LF

-- c numbers, a field each
unfoldable pub numbers_at : ℕ → List ℕ → Part (List ℕ)
numbers_at zero r = gives [] r
numbers_at (suc c) r = and_then (number_at r) (λ x r₁. and_then (numbers_at c r₁) (λ l r₂. gives (x ∷ l) r₂))

-- how many, and those numbers
unfoldable pub list_at : List ℕ → Part (List ℕ)
list_at r = and_then (number_at r) (λ c r₁. numbers_at c r₁)

-- the numbers of each kind of call
unfoldable pub add_at : List ℕ → Part Call
add_at r = and_then (number_at r) (λ t r₁. and_then (list_at r₁) (λ l r₂. gives (editing (add t l)) r₂))

unfoldable pub withdraw_at : List ℕ → Part Call
withdraw_at r = and_then (number_at r) (λ b r₁. gives (editing (withdraw b)) r₁)

unfoldable pub requalify_at : List ℕ → Part Call
requalify_at r = and_then (number_at r) (λ b r₁. and_then (list_at r₁) (λ l r₂. gives (editing (requalify b l)) r₂))

unfoldable pub move_at : List ℕ → Part Call
move_at r = and_then (number_at r) (λ b r₁. and_then (number_at r₁) (λ i r₂. gives (editing (move b i)) r₂))

unfoldable pub start_at : List ℕ → Part Call
start_at r = and_then (number_at r) (λ b r₁. gives (editing (start b)) r₁)

unfoldable pub trial_at : List ℕ → Part Call
trial_at r = and_then (number_at r) (λ a r₁. gives (trying a) r₁)

-- the entries of the list lent for records
unfoldable pub balance_at : List ℕ → Part Call
balance_at r = and_then (number_at r) (λ c r₁. gives (balancing c) r₁)

unfoldable pub settle_at : List ℕ → Part Call
settle_at r = and_then (number_at r) (λ c r₁. gives (settling c) r₁)

-- by the kind: 1 add, 2 withdraw, 3 requalify, 4 move, 5 review, 6 trial, 7 balance, 8 settle, 9 start
unfoldable pub call_at : ℕ → List ℕ → Part Call
call_at kind r =
    pick (eqb kind 1) (add_at r)
    (pick (eqb kind 2) (withdraw_at r)
    (pick (eqb kind 3) (requalify_at r)
    (pick (eqb kind 4) (move_at r)
    (pick (eqb kind 5) (gives reviewing r)
    (pick (eqb kind 6) (trial_at r)
    (pick (eqb kind 7) (balance_at r)
    (pick (eqb kind 8) (settle_at r)
    (pick (eqb kind 9) (start_at r)
    (refuses malformed)))))))))

unfoldable pub call_line : List ℕ → Part Call
call_line r = and_then (number_at r) (λ kind r₁. and_then (call_at kind r₁) (λ c r₂. end_of_line r₂ (λ r₃. gives c r₃)))

-- ---- a whole journal: its calls, or the first line that is not of the form

pub data Journal : Type 0 where
  calls : List Call → Journal
  faulty : ℕ → Journal

abbrev pub with_call : Call → Journal → Journal
with_call c (calls cs) = calls (c ∷ cs)
with_call c (faulty j) = faulty j

abbrev pub on_call : ℕ → Part Call → (List ℕ → Journal) → Journal
on_call j (gives c r) next = with_call c (next r)
on_call j (refuses e) next = faulty j

-- lines from number j on, at most f of them; a line has a byte at least, so as many as there are bytes are enough
unfoldable pub lines_by : ℕ → ℕ → List ℕ → Journal
lines_by zero j r = pick (eqb (length r) 0) (calls []) (faulty j)
lines_by (suc f) j r = pick (eqb (length r) 0) (calls []) (on_call j (call_line r) (λ r₁. lines_by f (suc j) r₁))

unfoldable pub journal : List ℕ → Journal
journal s = lines_by (length s) 1 s

-- ---- answers: a line each, the refusal first, 0 for none; six columns for each number, but twelve for the moves of settling

abbrev pub answer_line : Answer → List ℕ
answer_line (refused e) = line (answer_numbers (refused e))
answer_line done = line (answer_numbers done)
answer_line (reviewed v) = line (answer_numbers (reviewed v))
answer_line (tried t) = line (answer_numbers (tried t))
answer_line (balanced b l) = line (answer_numbers (balanced b l))
answer_line (settled z l) = fields (0 ∷ z.makespan ∷ []) ++ columns 12 z.moves ++ line (record_numbers l)

unfoldable pub answer_lines : List Answer → List ℕ
answer_lines [] = []
answer_lines (a ∷ rest) = answer_line a ++ answer_lines rest

-- ---- the host's calls: a sheet, a journal, and a buffer lent for a text

-- The text that the sheet's book and the journal's calls make. The sheet is judged first, then the journal, whole, before its first
-- call is made.
abbrev pub run_due : (Book → List Call → List ℕ) → Reading → Journal → Due
run_due f (accepted k) (calls cs) = text (f k cs)
run_due f (accepted k) (faulty j) = refusal bad_journal j
run_due f (refused_at e j) c = refusal (number e) j

-- the answers of the calls
abbrev pub answer_text : Book → List Call → List ℕ
answer_text k cs = answer_lines (answers k cs)

unfoldable pub run_host : List ℕ → List ℕ → List ℕ → Hosted
run_host s c buffer = into_buffer (run_due answer_text (read s) (journal c)) buffer

-- the sheet as the calls leave it
abbrev pub sheet_text : Book → List Call → List ℕ
sheet_text k cs = written (book_after k cs)

unfoldable pub write_host : List ℕ → List ℕ → List ℕ → Hosted
write_host s c buffer = into_buffer (run_due sheet_text (read s) (journal c)) buffer
