use Rattle.std.proofs.Common.{arith}
use Rattle.std.proofs.lemmas.Bool.Decides.{nat_tests}
use Rattle.rules.specs.Fold.{◌and◌}
use Rattle.fields.proofs.with_digit.Goals as goal

pub returns-in-48-to-57 : goal.returns-in-48-to-57
unfolding ◌and◌
returns-in-48-to-57 c = grind (arith, nat_tests)

pub returns-in_default : goal.returns-in_default
unfolding ◌and◌
returns-in_default c = grind (arith, nat_tests)

pub returns-in_default-2 : goal.returns-in_default-2
unfolding ◌and◌
returns-in_default-2 c = grind (arith, nat_tests)
