use mathlib.Core.Path.{refl}
use native.Mathlib.Numerals.{add-one}
use Rattle.rules.specs.Fold.{◌and◌}
use Rattle.settling.specs.Settling.{other}
use Rattle.settling.proofs.improve.is_other.Goals as goal

pub returns-then-is_in : goal.returns-then-is_in
unfolding other ◌and◌
returns-then-is_in c = rw (← c.is_in.ensures, c.if-is_in.true, c.from.ensures, add-one) refl

pub returns-else-is_in : goal.returns-else-is_in
unfolding other ◌and◌
returns-else-is_in c = rw (← c.is_in.ensures, c.if-is_in.false) refl
