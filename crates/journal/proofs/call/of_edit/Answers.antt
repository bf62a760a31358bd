-- 0, or the refusal's number.
use Rattle.journal.proofs.call.of_edit.Goals as goal

pub returns-in-Ok : goal.returns-in-Ok
returns-in-Ok c = rw c.in-Ok.is c.of.ensures

pub returns-in-Err : goal.returns-in-Err
returns-in-Err c = rw c.in-Err.is c.of_refusal.ensures
