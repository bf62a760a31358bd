use Rattle.rules.specs.Fold.{◌and◌}
use Rattle.std.proofs.Common.{arith}
use Rattle.std.proofs.lemmas.Bool.Decides.{nat_tests}
use Rattle.sheet.proofs.within.Goals as goal

pub returns-then-x-ge1 : goal.returns-then-x-ge1
unfolding ◌and◌
returns-then-x-ge1 c = grind (arith, nat_tests)

pub returns-else-x-ge1 : goal.returns-else-x-ge1
unfolding ◌and◌
returns-else-x-ge1 c = grind (arith, nat_tests)
