use Rattle.std.proofs.Common.{rules, leb}
use Rattle.rules.specs.Fold.{at}
use borrow.Author.Tests.{tests}
use Rattle.arrays.proofs.Found.{any-by_range}
use Rattle.scans.proofs.scan.some_underloaded.Goals as goal

pub returns : goal.returns
returns c =
    let a = c.args in
    any-by_range (λ i. leb (at a.loads.now i) (at a.low.now i)) _ _ _ _ c.any.ensures.ran (λ x b q k. search (rules, tests))
