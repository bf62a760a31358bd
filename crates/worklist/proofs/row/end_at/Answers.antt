-- By what stands there.
use mathlib.Core.Path.{sym, ◌∙◌}
use borrow.Author.Tests.{eqb-true, eqb-false}
use Rattle.worklist.proofs.Reading.{end-here, no-cr, then-lf}
use Rattle.worklist.proofs.row.end_at.Goals as goal

pub returns-then-is_empty : goal.returns-then-is_empty
returns-then-is_empty c = end-here _ (eqb-true _ 0 (sym c.if-is_empty.ensures))

pub returns-in_err-rest : goal.returns-in_err-rest
returns-in_err-rest c =
    rw c.from_residual.ensures (no-cr _ (eqb-false _ 0 (sym c.if-is_empty.ensures)) c.in_err-rest.ensures)

pub returns : goal.returns
returns c = c.behind-2.ensures ∙ then-lf _ _ c.in_ok-rest.ensures
