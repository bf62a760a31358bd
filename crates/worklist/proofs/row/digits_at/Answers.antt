-- Digit by digit.
use native.Mathlib.Omega.{arith}
use Rattle.worklist.proofs.Digits.{none_yet, value-fits, one_more, then-ended, all_read}
use Rattle.worklist.proofs.row.digits_at.Goals as goal

pub loop-i-init : goal.loop-i-init
loop-i-init c = none_yet _ _ c.requires

pub returns-in_default : goal.returns-in_default
returns-in_default c = then-ended _ _ _ _ _ c.loop-i.invariant c.in_default.ensures

pub overflow_mul-value : goal.overflow_mul-value
overflow_mul-value c =
    omega (arith, value-fits _ _ _ _ _ c.loop-i.invariant c.in-Some.d c.in-Some.after.now c.loop-i-test.true c.in-Some.ensures)

pub overflow_add-value : goal.overflow_add-value
overflow_add-value c =
    omega (arith, value-fits _ _ _ _ _ c.loop-i.invariant c.in-Some.d c.in-Some.after.now c.loop-i-test.true c.in-Some.ensures)

pub loop-i-preserved : goal.loop-i-preserved
loop-i-preserved c = one_more _ _ _ _ _ c.loop-i.invariant _ _ c.loop-i-test.true c.in-Some.ensures

pub returns : goal.returns
returns c = all_read _ _ _ _ _ c.loop-i.invariant c.loop-i-test.false
