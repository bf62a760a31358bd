use Rattle.std.proofs.Common.{rules, ltb}
use Rattle.rules.specs.Fold.{at}
use borrow.Author.Tests.{tests}
use Rattle.theory.proofs.View.{none-zero}
use Rattle.arrays.proofs.Found.{found-by_find}
use Rattle.scans.proofs.scan.first_overloaded.Goals as goal

pub returns : goal.returns
returns c =
    found-by_find (λ i. ltb (at c.args.high.now i) (at c.args.loads.now i)) _ _ _ _ (none-zero _)
    c.find.ensures.ran (λ x b q k. search (rules, tests))
