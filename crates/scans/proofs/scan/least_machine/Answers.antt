use Rattle.std.proofs.Common.{rules}
use borrow.Author.Tests.{tests}
use Rattle.rules.specs.Fold.{at}
use Rattle.arrays.specs.Sets.{has}
use Rattle.arrays.proofs.Least.{least-by_key}
use Rattle.scans.proofs.scan.least_machine.Goals as goal

pub returns : goal.returns
returns c =
    let a = c.args in
    let f = c.filter.ensures in
    least-by_key (λ i. has a.mask i) (λ i. at a.machines.now i) a.m _ _ _ _ c.min_by_key.ensures.ran f.source f.closure
    (λ x b q k. search (rules, tests)) (λ x k q e. search (rules, tests))
