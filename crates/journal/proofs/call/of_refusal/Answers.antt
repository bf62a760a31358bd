-- Its number.
use Rattle.journal.proofs.call.of_refusal.Goals as goal

pub returns : goal.returns
returns c = rw (c.from-2.ensures, c.from.ensures) at c.of.ensures
