-- Document 01, "Planning": the search over levels. f is the highest level known to fail, −1 at first, and is kept as
-- f + 1; p is the level of the assignment kept.
use Rattle.std.specs.Prelude.{ℕ, zero, suc, ◌+◌, ◌-◌, ◌/◌, Bool, true, false, List, [], ltb}
use Rattle.rules.specs.Instance.{Instance, Assignment}
use Rattle.rules.specs.Load.{makespan}
use Rattle.rules.specs.Group.{Tried, passed, failed, trial}

-- p with its assignment and counts, and f + 1 with its group, which is empty while no trial has failed
pub record Search : Type 0 where
  pub failed1 : ℕ
  pub group : List ℕ
  pub level : ℕ
  pub assignment : Assignment
  pub lifts : ℕ
  pub pushes : ℕ

-- half way between f and p, rounded down
abbrev pub middle : Search → ℕ
middle w = (w.failed1 + w.level - 1) / 2

-- what a trial at level a adds: a pass becomes p, a failure becomes f
abbrev pub learn : Search → ℕ → Tried → Search
learn w a (passed x r b) = record {
  failed1 = w.failed1;
  group = w.group;
  level = a;
  assignment = x;
  lifts = r;
  pushes = b;
}
learn w a (failed g r b) = record {
  failed1 = suc a;
  group = g;
  level = w.level;
  assignment = w.assignment;
  lifts = w.lifts;
  pushes = w.pushes;
}

-- while p − f exceeds 1
abbrev pub open-gap : Search → Bool
open-gap w = ltb w.failed1 w.level

-- At most t trials more, each from the standing assignment x. The gap is at least halved each time, so as many trials as
-- p is at first are enough (theory, Balancing).
unfoldable pub search_by : Instance → Assignment → ℕ → Search → Bool → Search
search_by I x zero w more = w
search_by I x (suc t) w false = w
search_by I x (suc t) w true =
    let v = learn w (middle w) (trial I x (middle w)) in search_by I x t v (open-gap v)

-- p is the standing makespan at first, with the standing assignment and no counts
abbrev pub standing : Instance → Assignment → Search
standing I x = record { failed1 = 0; group = []; level = makespan I x; assignment = x; lifts = 0; pushes = 0 }

unfoldable pub balance : Instance → Assignment → Search
balance I x = search_by I x (makespan I x) (standing I x) (open-gap (standing I x))
