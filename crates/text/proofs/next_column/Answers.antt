-- A blank before the last column where nothing is left of the number, and a digit otherwise.
use Rattle.std.proofs.Common.{arith}
use Rattle.std.proofs.lemmas.Bool.Decides.{nat_tests}
use Rattle.rules.specs.Fold.{◌and◌}
use Rattle.text.proofs.next_column.Goals as goal

pub returns-then-rest-eq0 : goal.returns-then-rest-eq0
unfolding ◌and◌
returns-then-rest-eq0 c = grind (arith, nat_tests)

pub returns-else-done-gt0 : goal.returns-else-done-gt0
unfolding ◌and◌
returns-else-done-gt0 c = grind (arith, nat_tests)
