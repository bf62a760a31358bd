use Rattle.std.proofs.Common.{rules}
use Rattle.rules.specs.Fold.{◌and◌}
use borrow.Author.Tests.{tests}
use Rattle.arrays.proofs.Found.{found-by_find}
use Rattle.scans.specs.Waits.{waits}
use Rattle.scans.proofs.scan.first_waiting.Goals as goal

pub returns : goal.returns
unfolding ◌and◌
returns c =
    let a = c.args in
    found-by_find (λ b. waits a.places.now a.masks.now b) _ _ _ _ c.requires.3 c.find.ensures.ran (λ x b q k. search (rules, tests))
