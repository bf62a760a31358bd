-- The listing's texts over plain numbers and lists, as the code has them.
use Rattle.std.specs.Prelude.{ℕ, zero, suc, ◌<◌, ◌^◌, List, [], ◌∷◌, ◌++◌, length, take}
use Rattle.rules.specs.Fold.{at}
use Rattle.rules.specs.Render.{line}
use Rattle.rules.specs.Plan.{Plan}
use Rattle.rules.specs.Listing.{first_line, group_line}
use Rattle.listing.specs.declared.plan.Planned.{Planned}

-- a plan's numbers and its group
abbrev pub without_places : Plan → Plan
without_places p = record {
  makespan = p.makespan;
  lower_bound = p.lower_bound;
  level = p.level;
  lifts = p.lifts;
  pushes = p.pushes;
  moves = p.moves;
  group = p.group;
  assignment = [];
}

-- as the code has them: the makespan and the moves are settle's, and the rest is balance's
abbrev pub figures_of : Planned → Plan
figures_of r = record {
  makespan = r.settled.makespan;
  lower_bound = r.balanced.bound;
  level = r.balanced.level;
  lifts = r.balanced.lifts;
  pushes = r.balanced.pushes;
  moves = r.settled.moves;
  group = take r.balanced.group.size r.balanced.group.list;
  assignment = [];
}

-- six columns for each number, but twelve for the moves
pub record InColumns (p : Plan) : Type 0 where
  pub makespan : p.makespan < 1000000
  pub bound : p.lower_bound < 1000000
  pub level : p.level < 1000000
  pub lifts : p.lifts < 1000000
  pub pushes : p.pushes < 1000000
  pub moves : p.moves < 10 ^ 12

-- a line for each of the first n batches: number, place, length
unfoldable pub rows_to : List ℕ → List ℕ → ℕ → List ℕ
rows_to minutes places zero = []
rows_to minutes places (suc b) =
    rows_to minutes places b ++ line (suc b ∷ at places (suc b) ∷ at minutes (suc b) ∷ [])

-- the whole listing: the plan's numbers, its group, the batches
unfoldable pub listing_text : Plan → List ℕ → List ℕ → List ℕ
listing_text p minutes places = first_line p ++ group_line p ++ rows_to minutes places (length minutes)
