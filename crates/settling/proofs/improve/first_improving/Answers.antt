use mathlib.Core.Path.{refl, sym, ◌∙◌}
use Prim.Native.Nat.{suc}
use lib.ListN.{take}
use borrow.Author.Rules.{rules}
use borrow.Author.Tests.{tests}
use Rattle.rules.specs.Load.{improves}
use Rattle.std.proofs.lemmas.Iterator.Adapters.{option_map_id}
use Rattle.std.proofs.lemmas.Iterator.{serves_from_Range}
use Rattle.std.proofs.lemmas.Iterator.Search.{find_from_yields_List}
use Rattle.settling.specs.Settling.{placed}
use Rattle.settling.proofs.Ranges.{below, find_range}
use Rattle.settling.proofs.improve.first_improving.Goals as goal

pub find-requires-clause-callable : goal.find-requires-clause-callable
find-requires-clause-callable c = serves_from_Range (λ x q h. search rules) (λ x l u. let k = c.requires in search rules)

pub returns : goal.returns
returns c =
    let j = c.args.jobs.now in
    let p = placed c.args.places.now c.args.loads.now in
    λ I r d.
    sym (option_map_id c.find.result)
    ∙ find_from_yields_List (λ b. improves I (take j.n p.places) (suc b)) _ _ c.find.result c.find.ensures.ran
    (below j.n refl) (λ x b q h. search (rules, tests))
    ∙ find_range (λ b. improves I (take j.n p.places) b) j.n
