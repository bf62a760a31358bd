use Rattle.std.proofs.Common.{rules, eqb, suc}
use Rattle.rules.specs.Fold.{at, ◌and◌}
use borrow.Author.Tests.{tests}
use Rattle.theory.proofs.View.{none-zero}
use Rattle.arrays.specs.Sets.{has}
use Rattle.arrays.proofs.Found.{found-by_find}
use Rattle.scans.proofs.scan.machine_below.Goals as goal

pub returns : goal.returns
unfolding ◌and◌
returns c =
    let a = c.args in
    found-by_find (λ i. has a.mask i and eqb a.h (suc (at a.machines.now i))) _ _ _ _ (none-zero _)
    c.find.ensures.ran (λ x b q k. search (rules, tests))
