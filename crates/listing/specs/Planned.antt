-- A plan as the code has it.
use Rattle.std.specs.Prelude.{◌≡◌}
use Rattle.rules.specs.Sheet.{Book}
use Rattle.rules.specs.Run.{with_places}
use Rattle.rules.specs.Listing.{plan_book}
use Rattle.sheet.specs.Represent.{sheet_of}
use Rattle.planner.specs.Calls.{members_as}
use Rattle.listing.specs.declared.plan.Planned.{Planned}

-- the plan of the book: its numbers, its group, and the sheet of the book with its places
pub record IsPlanOf (k : Book) (r : Planned) : Type 0 where
  pub makespan : r.settled.makespan ≡ (plan_book k).makespan
  pub bound : r.balanced.bound ≡ (plan_book k).lower_bound
  pub level : r.balanced.level ≡ (plan_book k).level
  pub lifts : r.balanced.lifts ≡ (plan_book k).lifts
  pub pushes : r.balanced.pushes ≡ (plan_book k).pushes
  pub moves : r.settled.moves ≡ (plan_book k).moves
  pub group : r.balanced.group ≡ members_as (plan_book k).group
  pub sheet : r.settled.sheet ≡ sheet_of (with_places k (plan_book k).assignment)
