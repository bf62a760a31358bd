use Rattle.std.proofs.Common.{rules, eqb}
use borrow.Author.Tests.{tests}
use Rattle.rules.specs.Fold.{at}
use Rattle.arrays.proofs.Least.{least-by_key}
use Rattle.scans.proofs.scan.least_job.Goals as goal

pub returns : goal.returns
returns c =
    let a = c.args in
    let f = c.filter.ensures in
    least-by_key (λ b. eqb (at a.places.now b) a.i) (λ b. at a.jobs.now b) a.n _ _ _ _ c.min_by_key.ensures.ran f.source f.closure
    (λ x b q k. search (rules, tests)) (λ x k q e. search (rules, tests))
