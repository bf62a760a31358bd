-- The count, and the numbers after it.
use mathlib.Core.Path.{refl}
use Rattle.rules.specs.Journal.{list_at}
use Rattle.journal.proofs.entry.list_at.Goals as goal

pub returns-in_err-count : goal.returns-in_err-count
unfolding list_at
returns-in_err-count c = rw (c.from_residual.ensures, c.in_err-count.ensures) refl

pub returns : goal.returns
unfolding list_at
returns c = rw c.in_ok-count.ensures.0 c.numbers_at.ensures
