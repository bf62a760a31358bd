use Rattle.std.proofs.Common.{ℕ, ◌≡◌, ◌+◌, ◌-◌, ◌*◌, suc, rules, arith, ◌∙◌, Bool}
use borrow.Author.Tests.{tests}
use Rattle.std.proofs.lemmas.Iterator.{YieldsList-from_range, YieldsList-from_map}
use Rattle.std.proofs.lemmas.Iterator.Adapters.{fits_from_length, at_most_from_yields_List, at_most_from_Filter}
use Rattle.std.proofs.lemmas.Iterator.Consumers.{YieldsList-at, YieldsList-from_filter, sum_by_from_yields_List}
use Rattle.std.proofs.lemmas.List.FromFn.{length-range_with_len}
use Rattle.rules.specs.Fold.{at}
use Rattle.arrays.proofs.Folds.{those, sum-those}
use Rattle.scans.proofs.Within.{lies_in, marked_minutes, marked-small, marked-confined}
use Rattle.scans.proofs.group.confined_of.Goals as goal

pub sum-requires-clause-fits : goal.sum-requires-clause-fits
sum-requires-clause-fits c =
    let n = c.args.n in
    fits_from_length _ _ 224 _
    (at_most_from_Filter _ (at_most_from_yields_List (YieldsList-from_range 0 n n (cc) (omega arith)) (omega (arith, length-range_with_len 0 n))))
    c.map.ensures.closure (omega arith) (λ x r q k. let h = c.type_inv.minutes x in search (rules, tests))

total : (c : goal.After-sum) → c.sum.result ≡ marked_minutes c.args.minutes.now c.args.marks.now c.args.group.now c.args.n
total c =
    let n = c.args.n in
    let p : ℕ → Bool = lies_in c.args.marks.now c.args.group.now in
    sum_by_from_yields_List (λ x. at c.args.minutes.now (suc x)) (those p n) c.map.result _ c.sum.ensures.ran
    (YieldsList-from_map _ (λ x. at c.args.minutes.now (suc x))
    (YieldsList-at c.map.ensures.source
    (YieldsList-from_filter _ (λ x. p (suc x)) (YieldsList-from_range 0 n n c.filter.ensures.source (omega arith)) c.filter.ensures.closure
    (λ x b q k. let z : (x + 1) * 24 - x * 24 ≡ 24 = omega arith in search (rules, tests, z))))
    c.map.ensures.closure (λ x r q k. search (rules, tests)))
    ∙ sum-those p (λ b. at c.args.minutes.now b) n

pub returns-clause-upper_bound : goal.returns-clause-upper_bound
returns-clause-upper_bound c =
    let a = c.args in
    omega (arith, total c, marked-small a.minutes.now a.marks.now a.group.now a.n c.requires.0 (λ k. omega (arith, c.type_inv.minutes k)))

pub returns-clause-value : goal.returns-clause-value
returns-clause-value c = λ I m sets list r w e. total c ∙ marked-confined r c.args.marks.now w list e
