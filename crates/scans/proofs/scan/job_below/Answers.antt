use Rattle.std.proofs.Common.{rules, eqb, suc}
use Rattle.rules.specs.Fold.{at, ◌and◌}
use borrow.Author.Tests.{tests}
use Rattle.theory.proofs.View.{none-zero}
use Rattle.arrays.proofs.Found.{found-by_find}
use Rattle.scans.proofs.scan.job_below.Goals as goal

pub returns : goal.returns
unfolding ◌and◌
returns c =
    let a = c.args in
    found-by_find (λ b. eqb (at a.places.now b) a.i and eqb a.h (suc (at a.jobs.now b))) _ _ _ _ (none-zero _)
    c.find.ensures.ran (λ x b q k. search (rules, tests))
