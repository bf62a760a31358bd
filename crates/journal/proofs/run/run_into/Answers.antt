-- A refusal, or the run.
use mathlib.Core.Path.{◌∙◌}
use Rattle.journal.proofs.Hosting.{run-refused, run-went, went-sound}
use Rattle.journal.proofs.run.run_into.Goals as goal

pub run_on-requires : goal.run_on-requires
run_on-requires c = went-sound c.args.sheet.now c.args.journal.now c.in-Ok.sheet c.in-Ok.ensures

pub returns-in-Ok : goal.returns-in-Ok
returns-in-Ok c = c.run_on.ensures ∙ run-went c.args.sheet.now c.args.journal.now c.in-Ok.sheet c.in-Ok.ensures c.args.answers.now

pub returns-in-Err : goal.returns-in-Err
returns-in-Err c = rw c.into.ensures (run-refused c.args.sheet.now c.args.journal.now c.in-Err.refused c.args.answers.now c.in-Err.ensures)
