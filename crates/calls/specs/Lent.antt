-- What balance and settle promise, with a list lent for the records of moves.
use Rattle.std.specs.Prelude.{ℕ, ◌≤◌, ◌≡◌, List, [], ◌∷◌, ◌++◌, map, length, take, Result, Ok, Err}
use Rattle.rules.specs.Sheet.{Book}
use Rattle.rules.specs.Lent.{at_front}
use Rattle.rules.specs.Moves.{records}
use Rattle.rules.specs.Run.{Answer, answer, next, answer_numbers, records_in}
use Rattle.rules.specs.Run as R
use Rattle.sheet.specs.declared.Sheet.{Sheet}
use Rattle.sheet.specs.declared.Refusal.{Refusal}
use Rattle.sheet.specs.Represent.{sheet_of}
use Rattle.sheet.specs.Answers.{number_of, coded}
use Rattle.moves.specs.declared.Move.{Move}
use Rattle.moves.specs.declared.Change.{Change}
use Rattle.moves.specs.Filled.{move_as}
use Rattle.planner.specs.declared.Balanced.{Balanced}
use Rattle.planner.specs.declared.Settled.{Settled}
use Rattle.planner.specs.Calls.{members_as}
use Rattle.calls.specs.declared.Reply.{Reply}
use Rattle.calls.specs.declared.cores.Planning.{Planning}

-- ---- the replies, by the rules' answer and the sheet after the call

-- what an answer that is none to balance is taken for, which none is: figures of 0
abbrev pub no_balance : Sheet → Result (Reply Balanced) Refusal
no_balance s = Ok (record {
  planned = record { makespan = 0; bound = 0; level = 0; lifts = 0; pushes = 0; group = members_as []; sheet = s };
  records = 0;
})

abbrev pub balance_as : Answer → Sheet → Result (Reply Balanced) Refusal
balance_as (R.refused e) s = Err (coded e)
balance_as R.done s = no_balance s
balance_as (R.reviewed v) s = no_balance s
balance_as (R.tried t) s = no_balance s
balance_as (R.balanced b l) s = Ok (record {
  planned = record {
    makespan = b.makespan;
    bound = b.lower_bound;
    level = b.level;
    lifts = b.lifts;
    pushes = b.pushes;
    group = members_as b.group;
    sheet = s;
  };
  records = length l;
})
balance_as (R.settled z l) s = no_balance s

abbrev pub no_settle : Sheet → Result (Reply Settled) Refusal
no_settle s = Ok (record { planned = record { makespan = 0; moves = 0; sheet = s }; records = 0 })

abbrev pub settle_as : Answer → Sheet → Result (Reply Settled) Refusal
settle_as (R.refused e) s = Err (coded e)
settle_as R.done s = no_settle s
settle_as (R.reviewed v) s = no_settle s
settle_as (R.tried t) s = no_settle s
settle_as (R.balanced b l) s = no_settle s
settle_as (R.settled z l) s = Ok (record { planned = record { makespan = z.makespan; moves = z.moves; sheet = s }; records = length l })

-- the reply to a call with so many entries in the lent list
unfoldable pub balance_reply : Book → ℕ → Result (Reply Balanced) Refusal
balance_reply k c = balance_as (answer k (R.balancing c)) (sheet_of (next k (R.balancing c)))

unfoldable pub settle_reply : Book → ℕ → Result (Reply Settled) Refusal
settle_reply k c = settle_as (answer k (R.settling c)) (sheet_of (next k (R.settling c)))

-- the sheet s after a call with that reply: a refusal leaves it as it was
abbrev pub balance_left : Sheet → Result (Reply Balanced) Refusal → Sheet
balance_left s (Ok r) = r.planned.sheet
balance_left s (Err e) = s

abbrev pub settle_left : Sheet → Result (Reply Settled) Refusal → Sheet
settle_left s (Ok r) = r.planned.sheet
settle_left s (Err e) = s

-- ---- as document 01's numbers, with the records that the lent list has at its front

unfoldable pub list_numbers : List Move → List ℕ
list_numbers [] = []
list_numbers (v ∷ vs) = v.batch ∷ v.from ∷ v.to ∷ list_numbers vs

abbrev pub balance_numbers : Result (Reply Balanced) Refusal → List Move → List ℕ
balance_numbers (Ok r) list =
    0 ∷ r.planned.makespan ∷ r.planned.bound ∷ r.planned.level ∷ r.planned.lifts ∷ r.planned.pushes ∷ r.planned.group.size
    ∷ take r.planned.group.size r.planned.group.list ++ (r.records ∷ list_numbers (take r.records list))
balance_numbers (Err e) list = number_of e ∷ []

abbrev pub settle_numbers : Result (Reply Settled) Refusal → List Move → List ℕ
settle_numbers (Ok r) list = 0 ∷ r.planned.makespan ∷ r.planned.moves ∷ r.records ∷ list_numbers (take r.records list)
settle_numbers (Err e) list = number_of e ∷ []

-- ---- what each call promises: its reply and its list afterwards are the rules', and as those numbers too

-- the lent list after a call: the answer's records at its front, and what was there past them
abbrev pub lent_after : Answer → List Move → List Move
lent_after a list = at_front (map move_as (records_in a)) list

pub record BalanceAnswered (k : Book) (before : List Move) (r : Result (Reply Balanced) Refusal) (after : List Move) : Type 0 where
  pub is : r ≡ balance_reply k (length before)
  pub list : after ≡ lent_after (answer k (R.balancing (length before))) before
  pub numbers : balance_numbers r after ≡ answer_numbers (answer k (R.balancing (length before)))

pub record SettleAnswered (k : Book) (before : List Move) (r : Result (Reply Settled) Refusal) (after : List Move) : Type 0 where
  pub is : r ≡ settle_reply k (length before)
  pub list : after ≡ lent_after (answer k (R.settling (length before))) before
  pub numbers : settle_numbers r after ≡ answer_numbers (answer k (R.settling (length before)))

-- ---- the cores: the reply, and a change with the answer's records, of no more batches than the list has entries

pub record ChangeIs (a : Answer) (c : ℕ) (d : Change) : Type 0 where
  pub few : d.n ≤ 200
  pub room : d.n ≤ c
  pub records : records d.n d.old d.new ≡ records_in a

-- the reply of a core
abbrev pub replied : {P : Type 0} → Result (Planning P) Refusal → Result (Reply P) Refusal
replied (Ok r) = Ok r.reply
replied (Err e) = Err e

pub record PlanningIs {P : Type 0} (due : Result (Reply P) Refusal) (a : Answer) (c : ℕ) (r : Result (Planning P) Refusal) : Type 0 where
  pub reply : replied r ≡ due
  pub change : (p : Planning P) → r ≡ Ok p → ChangeIs a c p.change
  pub refused : (e : Refusal) → r ≡ Err e → records_in a ≡ []
