-- The figures and places of balance and of settle over arrays.
use Rattle.std.specs.Prelude.{ℕ, ◌≡◌, take}
use Rattle.rules.specs.Instance.{Instance, Assignment}
use Rattle.rules.specs.Plan.{balanced, rested}
use Rattle.scans.specs.Grouping.{HoldsList}
use Rattle.planner.specs.declared.drawn.Drawn.{Drawn}
use Rattle.planner.specs.declared.drawn.Rested.{Rested}

-- what the rules' balance from x gives
pub record Draws (I : Instance) (c : ℕ) (x : Assignment) (d : Drawn) : Type 0 where
  pub makespan : d.makespan ≡ (balanced I x).makespan
  pub bound : d.bound ≡ (balanced I x).lower_bound
  pub level : d.level ≡ (balanced I x).level
  pub lifts : d.lifts ≡ (balanced I x).lifts
  pub pushes : d.pushes ≡ (balanced I x).pushes
  pub group : HoldsList (balanced I x).group d.group.list d.group.size
  pub places : take c d.places ≡ (balanced I x).assignment

-- what the rules' settle from x gives
pub record Rests (I : Instance) (c : ℕ) (x : Assignment) (z : Rested) : Type 0 where
  pub makespan : z.makespan ≡ (rested I x).makespan
  pub moves : z.moves ≡ (rested I x).moves
  pub places : take c z.places ≡ (rested I x).assignment
