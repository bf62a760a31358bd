use Rattle.std.proofs.Common.{◌*◌, rules, arith, eqb}
use borrow.Author.Tests.{tests}
use Rattle.arrays.proofs.Found.{all-by_range}
use Rattle.scans.proofs.MarkWords.{outside, covered-words, lies}
use Rattle.scans.proofs.marks.lies_within.Goals as goal

pub returns : goal.returns
returns c =
    let l = c.args.list.now in
    let g = c.args.group.now in
    lies (covered-words l g (λ i. omega (arith, c.type_inv.list i)) (λ i. omega (arith, c.type_inv.group i)) _
    (all-by_range (λ k. eqb (outside l g (k * 4)) 0) 6 _ _ _ c.all.ensures.ran (λ x b q k. search (rules, tests))))
