-- The call of a line, and its answer as the code has it: the sheet after the call, and the answer's numbers in 632 entries.
use Rattle.std.specs.Prelude.{Result, Ok, Err, unwrap_or, ℕ, ◌+◌, ◌*◌, ◌<◌, ◌≤◌, ◌^◌, ◌≡◌, Bool, true, false, List, [], ◌∷◌, ◌++◌, ltb, length, get_or, take, drop}
use Rattle.std.specs.List.{AllZip}
use Rattle.rules.specs.Fold.{every}
use Rattle.rules.specs.Sheet.{Book}
use Rattle.rules.specs.Render.{columns, fields, line}
use Rattle.rules.specs.Edit.{add, withdraw, requalify, move, start}
use Rattle.rules.specs.Moves.{records, move_numbers}
use Rattle.rules.specs.Run.{Call, editing, reviewing, trying, balancing, settling, Answer, refused, done, reviewed, tried, balanced, settled, answer, next, answer_numbers, record_numbers}
use Rattle.sheet.specs.declared.Sheet.{Sheet}
use Rattle.sheet.specs.Represent.{padded, sheet_of}
use Rattle.sheet.specs.Answers.{number_of}
use Rattle.sheet.specs.declared.Refusal.{Refusal}
use Rattle.planner.specs.declared.Outcome.{Outcome}
use Rattle.planner.specs.declared.Outcome.TheVariants.{Passed, Failed}
use Rattle.planner.specs.declared.Tried.{Tried}
use Rattle.moves.specs.declared.Change.{Change}
use Rattle.planner.specs.declared.Balanced.{Balanced}
use Rattle.planner.specs.declared.Reviewed.{Reviewed}
use Rattle.journal.specs.Entry.{listed}
use Rattle.journal.specs.declared.entry.Call as E
use Rattle.journal.specs.declared.entry.Call.TheVariants.{Add, Withdraw, Requalify, MoveTo, Start, Review, Trial, Balance, Settle}
use Rattle.journal.specs.declared.answer.Answer as C

-- ---- the call as the rules have it; of a list, the numbers that were kept

unfoldable pub call_said : E.Call → Call
call_said (Add t l) = editing (add t (listed l))
call_said (Withdraw b) = editing (withdraw b)
call_said (Requalify b l) = editing (requalify b (listed l))
call_said (MoveTo b i) = editing (move b i)
call_said (Start b) = editing (start b)
call_said Review = reviewing
call_said (Trial a) = trying a
call_said (Balance c) = balancing c
call_said (Settle c) = settling c

-- the numbers that a list keeps stand in its row
abbrev pub CountStands : E.Call → Type 0
CountStands (Add t l) = l.count ≤ length l.numbers
CountStands (Requalify b l) = l.count ≤ length l.numbers
CountStands c = Unit {0}

-- ---- the answer's numbers in an array, zeros after them

abbrev pub answer_with : List ℕ → Bool → C.Answer
answer_with l p = record { size = length l; numbers = padded 632 l; settle = p }

-- an answer's numbers
abbrev pub said : C.Answer → List ℕ
said a = take a.size a.numbers

-- it has zeros after them
abbrev pub Whole : C.Answer → Type 0
Whole a = a ≡ answer_with (said a) a.settle

-- what numbers of any type convert to stands behind them
pub record Extends {T : Type 0} (converts : T → ℕ → Type 0) (part : List T) (old new : C.Answer) : Type 0 where
  pub values : List ℕ
  pub each : AllZip converts part values
  pub after : new ≡ answer_with (said old ++ values) old.settle

abbrev pub is_settle : Answer → Bool
is_settle (refused e) = false
is_settle done = false
is_settle (reviewed v) = false
is_settle (tried t) = false
is_settle (balanced b l) = false
is_settle (settled z l) = true

-- the sheet after a call, and the answer
pub record Made : Type 0 where
  pub answer : C.Answer
  pub sheet : Sheet

abbrev pub made_with : C.Answer → Sheet → Made
made_with a s = record { answer = a; sheet = s }

-- what a call on the book makes
unfoldable pub made_of : Book → Call → Made
made_of k c = made_with (answer_with (answer_numbers (answer k c)) (is_settle (answer k c))) (sheet_of (next k c))

-- of each reply
abbrev pub review_numbers : ℕ → Reviewed → List ℕ
review_numbers m r = 0 ∷ r.makespan ∷ unwrap_or r.improving 0 ∷ take m r.loads

abbrev pub outcome_numbers : ℕ → ℕ → ℕ → Outcome → List ℕ
outcome_numbers n lifts pushes (Passed places) = 1 ∷ lifts ∷ pushes ∷ take n places
outcome_numbers n lifts pushes (Failed group) = 0 ∷ lifts ∷ pushes ∷ take group.size group.list

abbrev pub trial_numbers : ℕ → Result Tried Refusal → List ℕ
trial_numbers n (Ok t) = 0 ∷ outcome_numbers n t.lifts t.pushes t.outcome
trial_numbers n (Err e) = number_of e ∷ []

-- what it gives stands in its arrays
abbrev pub OutcomeStands : ℕ → Outcome → Type 0
OutcomeStands n (Passed places) = n ≤ length places
OutcomeStands n (Failed group) = (group.size ≤ 24) × (group.size ≤ length group.list)

abbrev pub TrialStands : ℕ → Result Tried Refusal → Type 0
TrialStands n (Ok t) = OutcomeStands n t.outcome
TrialStands n (Err e) = Unit {0}

abbrev pub balanced_numbers : Balanced → List ℕ
balanced_numbers b =
    0 ∷ b.makespan ∷ b.bound ∷ b.level ∷ b.lifts ∷ b.pushes ∷ b.group.size ∷ take b.group.size b.group.list

-- of a change: its records, and how many they are before them
abbrev pub moves_numbers : Change → List ℕ
moves_numbers c = move_numbers (records c.n c.old c.new)

abbrev pub change_numbers : Change → List ℕ
change_numbers c = record_numbers (records c.n c.old c.new)

-- ---- the answer's line: six columns for each number, but twelve for the third of settle's, its moves

abbrev pub line_of : Bool → List ℕ → List ℕ
line_of false l = line l
line_of true l = fields (take 2 l) ++ columns 12 (get_or l 2 0) ++ line (drop 3 l)

abbrev pub line_length : Bool → ℕ → ℕ
line_length false size = 6 * size + 1
line_length true size = 6 * size + 7

-- no number has more than six columns
abbrev pub SixColumns : List ℕ → Type 0
SixColumns l = every (λ (x : ℕ). ltb x 1000000) l ≡ true

-- each number fits its columns, and all fit the array
pub record Fitting (p : Bool) (l : List ℕ) : Type 0 where
  pub few : length l ≤ 632
  pub plain : p ≡ false → SixColumns l
  pub start : p ≡ true → SixColumns (take 2 l)
  pub moves : p ≡ true → get_or l 2 0 < 10 ^ 12
  pub rest : p ≡ true → SixColumns (drop 3 l)
  pub least : p ≡ true → 4 ≤ length l

-- the numbers of an answer stand in its array and fit
pub record AnswerFits (a : C.Answer) : Type 0 where
  pub whole : a.size ≤ length a.numbers
  pub fitting : Fitting a.settle (said a)
