use mathlib.Core.Path.{refl, ◌∙◌}
use borrow.Author.Rules.{rules}
use borrow.Author.Tests.{tests}
use Prim.Native.Nat.{suc}
use Rattle.rules.specs.Fold.{at}
use Rattle.std.specs.Ordering.{nat_cmp}
use Rattle.std.proofs.lemmas.Iterator.Consumers.{YieldsList-from_filter, YieldsList-at}
use Rattle.settling.proofs.settle.least_other.Goals as goal
use Rattle.settling.proofs.Placing.{others}
use Rattle.settling.proofs.Picks.{min_is_reduce}
use Rattle.settling.proofs.Ranges.{below, least_range}

pub returns : goal.returns
returns c =
    let j = c.args.jobs.now in
    let p = c.args.placement.now in
    let b = suc c.args.b in
    min_is_reduce nat_cmp (λ i. at p.loads (suc i)) (λ x k q h. search (rules, tests)) c.filter.result c.min_by_key.result c.min_by_key.ensures.ran
    (YieldsList-from_filter _ (λ i. others j p b (suc i)) (YieldsList-at c.filter.ensures.source (below j.m refl)) c.filter.ensures.closure
    (λ x t q h. search (rules, tests)))
    ∙ least_range (others j p b) (at p.loads) j.m
