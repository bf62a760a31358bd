-- By the first digit: none, a lone zero, or one that up to five follow.
use mathlib.Core.Path.{◌∙◌}
use Rattle.worklist.proofs.Digits.{no_number, digit-few, lone-zero, five-more}
use Rattle.worklist.proofs.row.number_at.Goals as goal

pub returns-in_err-d : goal.returns-in_err-d
returns-in_err-d c = rw c.from_residual.ensures (no_number _ c.in_err-d.ensures)

pub returns-then-d-eq0 : goal.returns-then-d-eq0
returns-then-d-eq0 c = lone-zero _ _ _ c.in_ok-d.ensures c.if-d-eq0.true

pub digits_at-requires : goal.digits_at-requires
digits_at-requires c = digit-few _ _ _ c.in_ok-d.ensures

pub returns : goal.returns
returns c = c.digits_at.ensures ∙ five-more _ _ _ c.in_ok-d.ensures c.if-d-eq0.false
