-- The machine takes a job off, or is lifted, by what the two searches find.
use mathlib.Core.Path.{sym, ◌∙◌}
use native.Mathlib.Omega.{arith}
use borrow.Author.Rules.{rules}
use Rattle.trials.proofs.MachineActing.{few, off-room, job-off, some-job, least-low, machine-lifted}
use Rattle.trials.proofs.step.machine_step.Goals as goal

pub take_off-requires : goal.take_off-requires
take_off-requires c = off-room c.requires.acts.2 _ c.in-Some.ensures (search rules)

pub returns-in-Some : goal.returns-in-Some
returns-in-Some c = λ I a v. rw c.take_off.ensures (job-off v _ c.in-Some.ensures (search rules) (search rules))

pub unwrap-lowest-requires : goal.unwrap-lowest-requires
unwrap-lowest-requires c = rw c.least_job.ensures (some-job c.requires.acts.2 c.in_default.ensures)

pub bounds-t-lowest : goal.bounds-t-lowest
bounds-t-lowest c = (least-low c.requires.acts.2 c.in_default.ensures _ (sym c.unwrap-lowest.ensures ∙ c.least_job.ensures)).0

pub overflow_add-t : goal.overflow_add-t
overflow_add-t c = omega (arith, least-low c.requires.acts.2 c.in_default.ensures _ (sym c.unwrap-lowest.ensures ∙ c.least_job.ensures))

pub overflow_add-t-2 : goal.overflow_add-t-2
overflow_add-t-2 c = omega (arith, few c.requires.acts.2)

pub returns : goal.returns
returns c = λ I a v. machine-lifted v c.in_default.ensures _ (sym c.unwrap-lowest.ensures ∙ c.least_job.ensures)
