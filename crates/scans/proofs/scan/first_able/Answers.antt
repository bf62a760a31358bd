use Rattle.std.proofs.Common.{rules, ltb, leb}
use Rattle.rules.specs.Fold.{at, ◌and◌}
use borrow.Author.Tests.{tests}
use Rattle.theory.proofs.View.{none-zero}
use Rattle.arrays.proofs.Found.{found-by_find}
use Rattle.scans.proofs.scan.first_able.Goals as goal

pub returns : goal.returns
unfolding ◌and◌
returns c =
    let a = c.args in
    found-by_find (λ i. ltb (at a.high.now i) (at a.loads.now i) and leb (at a.heights.now i) a.top) _ _ _ _ (none-zero _)
    c.find.ensures.ran (λ x b q k. search (rules, tests))
