use Prim.Native.Nat.{suc}
use mathlib.Core.Path.{refl, ◌∙◌}
use native.Mathlib.Omega.{arith}
use borrow.Author.Rules.{rules}
use borrow.Author.Tests.{tests}
use Rattle.rules.specs.Fold.{◌and◌}
use Rattle.std.proofs.iter.Serving.{serving}
use Rattle.std.proofs.lemmas.Iterator.Search.{any_from_yields_List}
use Rattle.settling.proofs.Placing.{sooner-at, in_lists, improves-at}
use Rattle.settling.proofs.Ranges.{below, any_range}
use Rattle.settling.proofs.improve.improves.Goals as goal

pub bounds-minutes-b : goal.bounds-minutes-b
bounds-minutes-b c = let v = c.requires.1 in omega (arith, v.timed, c.requires.2)

pub bounds-masks-b : goal.bounds-masks-b
bounds-masks-b c = let v = c.requires.1 in omega (arith, v.listed, c.requires.2)

pub bounds-places-b : goal.bounds-places-b
bounds-places-b c = let v = c.requires.1 in let k = in_lists v.reads v.placing c.args.b (omega (arith, c.requires.2)) in omega arith

pub overflow_sub-top : goal.overflow_sub-top
overflow_sub-top c = let v = c.requires.1 in let k = in_lists v.reads v.placing c.args.b (omega (arith, c.requires.2)) in omega arith

pub bounds-loads-from : goal.bounds-loads-from
bounds-loads-from c = let v = c.requires.1 in let k = in_lists v.reads v.placing c.args.b (omega (arith, c.requires.2)) in omega arith

pub any-requires-clause-callable : goal.any-requires-clause-callable
any-requires-clause-callable c =
    let v = c.requires.1 in
    let k = in_lists v.reads v.placing c.args.b (omega (arith, c.requires.2)) in
    let s = k.small in grind (arith, serving)

pub returns : goal.returns
unfolding ◌and◌
returns c =
    let a = c.args in
    let b = suc a.b in
    λ I n r d u.
    any_from_yields_List (λ i. sooner-at a.minutes.now a.masks.now a.places.now a.loads.now b (suc i)) _ _ _ c.any.ensures.ran (below a.m refl)
    (λ x t q h. search (rules, tests))
    ∙ any_range (sooner-at a.minutes.now a.masks.now a.places.now a.loads.now b) a.m
    ∙ improves-at r d b (omega arith) u
