use Rattle.std.proofs.Common.{rules, arith, take, ◌∙◌}
use borrow.Author.Tests.{tests}
use lib.ListN.{length-take}
use Rattle.std.proofs.lemmas.Iterator.{YieldsList-from_slice, YieldsList-from_map}
use Rattle.std.proofs.lemmas.Iterator.Adapters.{fits_from_length, at_most_from_yields_List}
use Rattle.std.proofs.lemmas.Iterator.Consumers.{sum_by_from_yields_List}
use Rattle.arrays.proofs.Folds.{sum-front}
use Rattle.arrays.proofs.scan.total_of.Goals as goal

pub sum-requires-clause-fits : goal.sum-requires-clause-fits
sum-requires-clause-fits c =
    let front = take c.args.n c.args.minutes.now in
    fits_from_length _ _ 224 _ (at_most_from_yields_List (YieldsList-from_slice front (cc)) (omega (arith, length-take c.args.n c.args.minutes.now)))
    c.map.ensures.closure (omega arith) (λ x r q k. search (rules, tests))

pub returns : goal.returns
returns c =
    let front = take c.args.n c.args.minutes.now in
    sum_by_from_yields_List (λ x. x) front c.map.result _ c.sum.ensures.ran
    (YieldsList-from_map _ (λ x. x) (YieldsList-from_slice front (cc)) c.map.ensures.closure (λ x r q k. search (rules, tests)))
    ∙ sum-front c.args.minutes.now c.args.n (omega arith)
