-- What review, a trial, balance and settle answer, by the rules: each case with document 01's numbers and values.
use Rattle.std.specs.Prelude.{ℕ, zero, suc, ◌≡◌, List, [], ◌∷◌, length, take, Option, None, Some, Result, Ok, Err}
use Rattle.rules.specs.Sheet.{Book, size}
use Rattle.rules.specs.Load as L
use Rattle.rules.specs.Group as G
use Rattle.rules.specs.Plan as P
use Rattle.rules.specs.Run.{Answer, answer, answer_numbers, balance_book, settle_book, with_places}
use Rattle.rules.specs.Run as R
use Rattle.sheet.specs.declared.Refusal.{Refusal}
use Rattle.sheet.specs.Represent.{padded, sheet_of}
use Rattle.sheet.specs.Answers.{number_of, coded}
use Rattle.scans.specs.declared.group.Members.{Members}
use Rattle.planner.specs.declared.Outcome.{Outcome}
use Rattle.planner.specs.declared.Outcome.TheVariants.{Passed, Failed}
use Rattle.planner.specs.declared.Tried.{Tried}
use Rattle.planner.specs.declared.Balanced.{Balanced}
use Rattle.planner.specs.declared.Settled.{Settled}
use Rattle.planner.specs.declared.Reviewed.{Reviewed}

-- a list of machines in 24 entries, with its size
abbrev pub members_as : List ℕ → Members
members_as g = record { list = padded 24 g; size = length g }

-- a trial's places, or the group of a failure
abbrev pub tried_as : G.Tried → Tried
tried_as (G.passed x r b) = record { outcome = Passed (padded 200 x); lifts = r; pushes = b }
tried_as (G.failed g r b) = record { outcome = Failed (members_as g); lifts = r; pushes = b }

-- what an answer that is none to a trial is taken for
abbrev pub no_trial : Result Tried Refusal
no_trial = Ok (record { outcome = Failed (members_as []); lifts = 0; pushes = 0 })

abbrev pub trial_answer : Answer → Result Tried Refusal
trial_answer (R.refused e) = Err (coded e)
trial_answer R.done = no_trial
trial_answer (R.reviewed v) = no_trial
trial_answer (R.tried t) = Ok (tried_as t)
trial_answer (R.balanced b l) = no_trial
trial_answer (R.settled z l) = no_trial

-- the answer to a trial at level a on the book
unfoldable pub trial_of : Book → ℕ → Result Tried Refusal
trial_of k a = trial_answer (answer k (R.trying a))

-- a number from 1 on, none for 0
abbrev pub numbered : ℕ → Option ℕ
numbered zero = None
numbered (suc b) = Some (suc b)

-- and 0 for none
abbrev pub number_or_zero : Option ℕ → ℕ
number_or_zero None = 0
number_or_zero (Some b) = b

abbrev pub reviewed_as : L.Review → Reviewed
reviewed_as v = record { loads = padded 24 v.loads; makespan = v.makespan; improving = numbered v.improving }

-- the answer to a review of the book
unfoldable pub review_of : Book → Reviewed
review_of k = reviewed_as (L.review (Rattle.rules.specs.Instance.instance k) (Rattle.rules.specs.Instance.places k))

-- balance's figures, and the sheet of the book with its places
abbrev pub balanced_as : Book → P.Balanced → Balanced
balanced_as k b = record {
  makespan = b.makespan;
  bound = b.lower_bound;
  level = b.level;
  lifts = b.lifts;
  pushes = b.pushes;
  group = members_as b.group;
  sheet = sheet_of (with_places k b.assignment);
}

-- balance on the book
unfoldable pub balance_of : Book → Balanced
balance_of k = balanced_as k (balance_book k)

-- settle's
abbrev pub settled_as : Book → P.Rested → Settled
settled_as k z = record { makespan = z.makespan; moves = z.moves; sheet = sheet_of (with_places k z.assignment) }

-- settle on the book
unfoldable pub settle_of : Book → Settled
settle_of k = settled_as k (settle_book k)

-- ---- replies as document 01's numbers: the refusal first, 0 for none, and then the values; k is the book before the call

abbrev pub review_numbers : Book → Reviewed → List ℕ
review_numbers k r = 0 ∷ r.makespan ∷ number_or_zero r.improving ∷ take k.m r.loads

-- 1 for a pass, 0 for a failure; lifts, pushes; the places, or the group
abbrev pub outcome_figures : Book → ℕ → ℕ → Outcome → List ℕ
outcome_figures k r b (Passed x) = 1 ∷ r ∷ b ∷ take (size k) x
outcome_figures k r b (Failed g) = 0 ∷ r ∷ b ∷ take g.size g.list

abbrev pub tried_figures : Book → Tried → List ℕ
tried_figures k t = outcome_figures k t.lifts t.pushes t.outcome

abbrev pub trial_numbers : Book → Result Tried Refusal → List ℕ
trial_numbers k (Ok t) = 0 ∷ tried_figures k t
trial_numbers k (Err e) = number_of e ∷ []

-- ---- what review and a trial promise: the answer is the rules', and as those numbers too

pub record ReviewAnswered (k : Book) (r : Reviewed) : Type 0 where
  pub is : r ≡ review_of k
  pub numbers : review_numbers k r ≡ answer_numbers (answer k R.reviewing)

pub record TrialAnswered (k : Book) (a : ℕ) (r : Result Tried Refusal) : Type 0 where
  pub is : r ≡ trial_of k a
  pub numbers : trial_numbers k r ≡ answer_numbers (answer k (R.trying a))
