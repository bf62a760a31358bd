use Rattle.rules.specs.Fold.{◌and◌}
use Rattle.std.proofs.Common.{arith}
use Rattle.std.proofs.lemmas.Bool.Decides.{nat_tests}
use Rattle.sheet.proofs.place_or.Goals as goal

pub returns-then-p-eq0 : goal.returns-then-p-eq0
unfolding ◌and◌
returns-then-p-eq0 c = grind (arith, nat_tests)

pub returns-else-started-ne1 : goal.returns-else-started-ne1
unfolding ◌and◌
returns-else-started-ne1 c = grind (arith, nat_tests)
