-- Refused for m, then for the calibrations; otherwise a sheet without a batch.
use mathlib.Core.Path.{sym, ◌∙◌}
use Rattle.rules.specs.Sheet.{good_instruments}
use Rattle.theory.proofs.Worklist.{given}
use Rattle.sheet.proofs.Scan.{in-range}
use Rattle.sheet.proofs.Rows.{calibrations-fit, bare-is}
use Rattle.sheet.proofs.Sheet.bare.Goals as goal

pub returns-then-not-within : goal.returns-then-not-within
unfolding given good_instruments
returns-then-not-within c = rw (c.from.ensures, sym c.within.ensures ∙ c.if-not-within.true)

pub returns-then-not-good_calibrations : goal.returns-then-not-good_calibrations
unfolding given good_instruments
returns-then-not-good_calibrations c =
    rw (c.from-then-not-good_calibrations.ensures, sym c.within.ensures ∙ c.if-not-within.false, sym c.good_calibrations.ensures ∙ c.if-not-good_calibrations.true)

pub row_of-requires : goal.row_of-requires
row_of-requires c =
    let f = calibrations-fit c.args.m c.args.calibrations.now (in-range c.args.m 24 (sym c.within.ensures ∙ c.if-not-within.false)).1
    (sym c.good_calibrations.ensures ∙ c.if-not-good_calibrations.false) in
    record { fact_1 = f.0; fact_2 = f.1 }

pub returns : goal.returns
unfolding good_instruments
returns c =
    rw (c.empty.ensures, c.row_of.ensures)
    (sym (bare-is c.args.m c.args.calibrations.now (sym c.within.ensures ∙ c.if-not-within.false)
    (sym c.good_calibrations.ensures ∙ c.if-not-good_calibrations.false)))
