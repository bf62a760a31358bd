-- What balance and settle promise on a file, with a list lent for the records and a buffer for the sheet.
use Rattle.std.specs.Prelude.{ℕ, ◌≡◌, List, [], length, replicate, Result, Ok, Err}
use Rattle.rules.specs.Lent.{Hosted}
use Rattle.rules.specs.Filed.{Filed, filed}
use Rattle.rules.specs.Run.{Answer, records_in}
use Rattle.rules.specs.Run as R
use Rattle.sheet.specs.declared.Fault.{Fault}
use Rattle.sheet.specs.Represent.{padded}
use Rattle.sheet.specs.Answers.{number_of}
use Rattle.planner.specs.declared.Balanced.{Balanced}
use Rattle.planner.specs.declared.Settled.{Settled}
use Rattle.moves.specs.declared.Move.{Move}
use Rattle.calls.specs.Lent.{ChangeIs, lent_after}
use Rattle.filing.specs.declared.BalanceFiled.{BalanceFiled}
use Rattle.filing.specs.declared.SettleFiled.{SettleFiled}
use Rattle.filing.specs.declared.Filing.{Filing}

-- ---- what each answers, by the rules

-- nothing but a refusal and its line
abbrev pub no_balance : ℕ → ℕ → BalanceFiled
no_balance e j = record {
  refusal = e;
  line = j;
  length = 0;
  makespan = 0;
  bound = 0;
  level = 0;
  lifts = 0;
  pushes = 0;
  size = 0;
  group = replicate 24 0;
  records = 0;
}

abbrev pub balance_with : Hosted → Answer → BalanceFiled
balance_with h (R.refused e) = no_balance h.refusal h.line
balance_with h R.done = no_balance h.refusal h.line
balance_with h (R.reviewed v) = no_balance h.refusal h.line
balance_with h (R.tried t) = no_balance h.refusal h.line
balance_with h (R.balanced b l) = record {
  refusal = h.refusal;
  line = h.line;
  length = h.length;
  makespan = b.makespan;
  bound = b.lower_bound;
  level = b.level;
  lifts = b.lifts;
  pushes = b.pushes;
  size = length b.group;
  group = padded 24 b.group;
  records = length l;
}
balance_with h (R.settled z l) = no_balance h.refusal h.line

abbrev pub balance_filed : Filed → BalanceFiled
balance_filed f = balance_with f.hosted f.answer

abbrev pub no_settle : ℕ → ℕ → SettleFiled
no_settle e j = record { refusal = e; line = j; length = 0; makespan = 0; moves = 0; records = 0 }

abbrev pub settle_with : Hosted → Answer → SettleFiled
settle_with h (R.refused e) = no_settle h.refusal h.line
settle_with h R.done = no_settle h.refusal h.line
settle_with h (R.reviewed v) = no_settle h.refusal h.line
settle_with h (R.tried t) = no_settle h.refusal h.line
settle_with h (R.balanced b l) = no_settle h.refusal h.line
settle_with h (R.settled z l) = record {
  refusal = h.refusal;
  line = h.line;
  length = h.length;
  makespan = z.makespan;
  moves = z.moves;
  records = length l;
}

abbrev pub settle_filed : Filed → SettleFiled
settle_filed f = settle_with f.hosted f.answer

-- ---- what the calls promise: their answer, the list and the buffer afterwards

pub record BalanceIs (s : List ℕ) (before : List Move) (buffer : List ℕ) (r : BalanceFiled) (after : List Move) (out : List ℕ) : Type 0 where
  pub is : r ≡ balance_filed (filed s (R.balancing (length before)) buffer)
  pub list : after ≡ lent_after (filed s (R.balancing (length before)) buffer).answer before
  pub sheet : out ≡ (filed s (R.balancing (length before)) buffer).hosted.buffer

pub record SettleIs (s : List ℕ) (before : List Move) (buffer : List ℕ) (r : SettleFiled) (after : List Move) (out : List ℕ) : Type 0 where
  pub is : r ≡ settle_filed (filed s (R.settling (length before)) buffer)
  pub list : after ≡ lent_after (filed s (R.settling (length before)) buffer).answer before
  pub sheet : out ≡ (filed s (R.settling (length before)) buffer).hosted.buffer

-- ---- the cores, for a list of c entries: the answer, as the host is given it, the buffer, and a change with the answer's records

abbrev pub filed_balance : Result (Filing Balanced) Fault → BalanceFiled
filed_balance (Ok f) =
    let r = f.planning.reply in
    record {
      refusal = 0;
      line = 0;
      length = f.length;
      makespan = r.planned.makespan;
      bound = r.planned.bound;
      level = r.planned.level;
      lifts = r.planned.lifts;
      pushes = r.planned.pushes;
      size = r.planned.group.size;
      group = r.planned.group.list;
      records = r.records;
    }
filed_balance (Err f) = no_balance (number_of f.refusal) f.line

abbrev pub filed_settle : Result (Filing Settled) Fault → SettleFiled
filed_settle (Ok f) =
    let r = f.planning.reply in
    record {
      refusal = 0;
      line = 0;
      length = f.length;
      makespan = r.planned.makespan;
      moves = r.planned.moves;
      records = r.records;
    }
filed_settle (Err f) = no_settle (number_of f.refusal) f.line

pub record BalanceFilingIs (s : List ℕ) (c : ℕ) (buffer : List ℕ) (r : Result (Filing Balanced) Fault) (out : List ℕ) : Type 0 where
  pub reply : filed_balance r ≡ balance_filed (filed s (R.balancing c) buffer)
  pub sheet : out ≡ (filed s (R.balancing c) buffer).hosted.buffer
  pub change : (f : Filing Balanced) → r ≡ Ok f → ChangeIs (filed s (R.balancing c) buffer).answer c f.planning.change
  pub refused : (f : Fault) → r ≡ Err f → records_in (filed s (R.balancing c) buffer).answer ≡ []

pub record SettleFilingIs (s : List ℕ) (c : ℕ) (buffer : List ℕ) (r : Result (Filing Settled) Fault) (out : List ℕ) : Type 0 where
  pub reply : filed_settle r ≡ settle_filed (filed s (R.settling c) buffer)
  pub sheet : out ≡ (filed s (R.settling c) buffer).hosted.buffer
  pub change : (f : Filing Settled) → r ≡ Ok f → ChangeIs (filed s (R.settling c) buffer).answer c f.planning.change
  pub refused : (f : Fault) → r ≡ Err f → records_in (filed s (R.settling c) buffer).answer ≡ []
