use Rattle.std.proofs.Common.{◌∙◌, sym, leb, rules, tests}
use borrow.Author.Tests.{eq-eqb, ne_eqb}
use Rattle.std.proofs.lemmas.Iterator.{YieldsList-from_slice}
use Rattle.std.proofs.lemmas.Iterator.Search.{all_from_yields_List}
use Rattle.rules.specs.Fold.{◌and◌}
use Rattle.rules.specs.Sheet.{good_calibration, good_calibrations}
use Rattle.sheet.proofs.Scan.{every-all}
use Rattle.sheet.proofs.bare.good_calibrations.Goals as goal

pub returns-then-l-m : goal.returns-then-l-m
unfolding good_calibrations good_calibration ◌and◌
returns-then-l-m c =
    let l = c.args.l.now in
    rw (eq-eqb _ _ c.if-l-m.true)
    (all_from_yields_List (λ t. leb t 240) _ _ _ c.all.ensures.ran (YieldsList-from_slice l cc) (λ x b q k. search (rules, tests))
    ∙ sym (every-all (λ t. leb t 240) l))

pub returns-else-l-m : goal.returns-else-l-m
unfolding good_calibrations ◌and◌
returns-else-l-m c = rw (ne_eqb _ _ c.if-l-m.false)
