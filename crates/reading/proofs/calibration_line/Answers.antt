-- Each field in its turn, and then the LF.
use mathlib.Core.Path.{sym, ap, ◌∙◌}
use native.Mathlib.Omega.{arith}
use Rattle.std.specs.Prelude.{Err}
use Rattle.reading.proofs.CalibrationsRead.{calibration-missing, calibration-bad, calibration-more, calibrations-unended, calibrations_end}
use Rattle.reading.proofs.calibration_line.Goals as goal

pub returns-in_default : goal.returns-in_default
returns-in_default c = ap Err c.refused.ensures ∙ calibration-missing _ _ _ c.loop-i.invariant c.loop-i-test.true c.field_at.ensures c.in_default.not-Value

pub returns-then-t-gt-CALIBRATION : goal.returns-then-t-gt-CALIBRATION
returns-then-t-gt-CALIBRATION c =
    ap Err c.refused-then-t-gt-CALIBRATION.ensures ∙ calibration-bad _ _ _ c.loop-i.invariant c.loop-i-test.true c.field_at.ensures c.in-Value.is c.if-t-gt-CALIBRATION.true

pub loop-i-preserved : goal.loop-i-preserved
loop-i-preserved c =
    calibration-more _ _ _ c.loop-i.invariant c.loop-i-test.true c.field_at.ensures c.in-Value.is c.requires.1 c.if-t-gt-CALIBRATION.false

pub returns-then-not-ends_at : goal.returns-then-not-ends_at
returns-then-not-ends_at c =
    ap Err c.refused-then-not-ends_at.ensures ∙ calibrations-unended _ _ _ c.loop-i.invariant c.loop-i-test.false (sym c.ends_at.ensures ∙ c.if-not-ends_at.true)

pub returns : goal.returns
returns c =
    calibrations_end _ _ _ c.loop-i.invariant c.loop-i-test.false (omega (arith, c.requires)) (sym c.ends_at.ensures ∙ c.if-not-ends_at.false)
