-- Document 01, "Planning", as document 02, C-14 divides it: balance, which ends before settling, and settle. A plan is both, one after the
-- other.
use Rattle.std.specs.Prelude.{ℕ, List}
use Rattle.rules.specs.Instance.{Instance, Assignment}
use Rattle.rules.specs.Load.{makespan}
use Rattle.rules.specs.Settle.{Settled, settle}
use Rattle.rules.specs.Balance.{Search, balance}
use Rattle.rules.specs.LowerBound.{lower_bound}

-- what balance answers, and the assignment that it leaves
pub record Balanced : Type 0 where
  pub makespan : ℕ
  pub lower_bound : ℕ
  pub level : ℕ
  pub lifts : ℕ
  pub pushes : ℕ
  pub group : List ℕ
  pub assignment : Assignment

-- the numbers of a search
abbrev pub balanced_from : Instance → Search → Balanced
balanced_from I w = record {
  makespan = makespan I w.assignment;
  lower_bound = lower_bound I w.group;
  level = w.level;
  lifts = w.lifts;
  pushes = w.pushes;
  group = w.group;
  assignment = w.assignment;
}

unfoldable pub balanced : Instance → Assignment → Balanced
balanced I x = balanced_from I (balance I x)

-- what settle answers, and the assignment that it leaves
pub record Rested : Type 0 where
  pub makespan : ℕ
  pub moves : ℕ
  pub assignment : Assignment

abbrev pub rested_from : Instance → Settled → Rested
rested_from I z = record { makespan = makespan I z.assignment; moves = z.moves; assignment = z.assignment }

unfoldable pub rested : Instance → Assignment → Rested
rested I x = rested_from I (settle I x)

-- ---- both: the makespan and the moves are settle's, the rest is balance's

pub record Plan : Type 0 where
  pub makespan : ℕ
  pub lower_bound : ℕ
  pub level : ℕ
  pub lifts : ℕ
  pub pushes : ℕ
  pub moves : ℕ
  pub group : List ℕ
  pub assignment : Assignment

abbrev pub plan_from : Balanced → Rested → Plan
plan_from b z = record {
  makespan = z.makespan;
  lower_bound = b.lower_bound;
  level = b.level;
  lifts = b.lifts;
  pushes = b.pushes;
  moves = z.moves;
  group = b.group;
  assignment = z.assignment;
}

unfoldable pub plan : Instance → Assignment → Plan
plan I x = let b = balanced I x in plan_from b (rested I b.assignment)
