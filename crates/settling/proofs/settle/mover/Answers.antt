use mathlib.Core.Path.{refl, sym, ap, ◌∙◌}
use borrow.Author.Rules.{rules}
use borrow.Author.Tests.{tests}
use Prim.Native.Nat.{ℕ, suc}
use lib.ListN.{take}
use Rattle.rules.specs.Fold.{at, greatest_to}
use Rattle.rules.specs.Instance.{minutes_of}
use Rattle.rules.specs.Load.{improves}
use Rattle.rules.specs.Settle.{mover}
use Rattle.arrays.specs.Found.{found}
use Rattle.std.specs.Ordering.{nat_cmp}
use Rattle.std.proofs.lemmas.Iterator.{serves_from_Range}
use Rattle.std.proofs.lemmas.Iterator.Consumers.{YieldsList-from_filter, YieldsList-at}
use Rattle.settling.proofs.settle.mover.Goals as goal
use Rattle.settling.specs.Settling.{placed}
use Rattle.settling.proofs.Picks.{min_is_reduce}
use Rattle.settling.proofs.Ranges.{below, greatest_range, greatest-ext}

pub min_by_key-requires-clause-can : goal.min_by_key-requires-clause-can
min_by_key-requires-clause-can c = (tt, tt, serves_from_Range (λ x q h. search rules) (λ x l u. let k = c.requires in search rules))

pub returns : goal.returns
unfolding mover
returns c =
    let j = c.args.jobs.now in
    let p = placed c.args.places.now c.args.loads.now in
    λ I r d.
    let passes = improves I (take j.n p.places) in
    min_is_reduce (λ a b. nat_cmp b.0 a.0) (λ b. record { 0 = at j.minutes.now (suc b) }) (λ x k q h. search (rules, tests)) c.filter.result
    c.min_by_key.result c.min_by_key.ensures.ran
    (YieldsList-from_filter _ (λ b. passes (suc b)) (YieldsList-at c.filter.ensures.source (below j.n refl)) c.filter.ensures.closure
    (λ x t q h. search (rules, tests)))
    ∙ greatest_range passes (at j.minutes.now) j.n
    ∙ ap found
    (greatest-ext j.n passes (at j.minutes.now) (minutes_of I) r.minutes ∙ ap (λ (k : ℕ). greatest_to k passes (minutes_of I)) (sym r.jobs))
