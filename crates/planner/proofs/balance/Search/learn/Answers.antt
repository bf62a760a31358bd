-- Both cases as the definition has them.
use mathlib.Core.Path.{refl}
use Rattle.planner.specs.Search.{learned}
use Rattle.planner.proofs.balance.Search.learn.Goals as goal

pub returns-in-Some : goal.returns-in-Some
unfolding learned
returns-in-Some c = rw c.in-Some.is refl

pub returns-in-None : goal.returns-in-None
unfolding learned
returns-in-None c = rw c.in-None.is refl
