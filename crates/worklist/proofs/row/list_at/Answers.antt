-- By whether a quote stands in front: one number, or numbers up to the closing quote.
use mathlib.Core.Path.{◌∙◌}
use Rattle.worklist.proofs.Listing.{one-listed, none-listed, unclosed, closed}
use Rattle.worklist.proofs.row.list_at.Goals as goal

pub returns-in_default : goal.returns-in_default
returns-in_default c = c.one_at.ensures ∙ one-listed _ c.in_default.ensures

pub returns-in_err-members : goal.returns-in_err-members
returns-in_err-members c = rw c.from_residual.ensures (none-listed c.args.s.now _ c.in-Some.ensures c.in_err-members.ensures)

pub returns-in_err-behind : goal.returns-in_err-behind
returns-in_err-behind c =
    rw c.from_residual-in_err-behind.ensures
    (unclosed c.args.s.now _ c.in-Some.ensures c.in_ok-members.members c.in_ok-members.rest.now c.in_ok-members.ensures c.in_err-behind.ensures)

pub returns : goal.returns
returns c =
    closed c.args.s.now _ c.in-Some.ensures c.in_ok-members.members c.in_ok-members.rest.now c.in_ok-members.ensures _ c.in_ok-behind.ensures
