-- The lowest job that waits is put on a machine, or lifted, by what the two searches find.
use mathlib.Core.Path.{sym, ◌∙◌}
use native.Mathlib.Omega.{arith}
use borrow.Author.Rules.{rules}
use Rattle.trials.proofs.JobActing.{lowest, few, goal-within, room, job-placed, some-goal, least-low, job-lifted}
use Rattle.trials.proofs.step.job_step.Goals as goal

pub place-requires : goal.place-requires
place-requires c =
    let v = c.requires.acts.2 in
    record { within = (c.requires.within, goal-within v _ c.in-Some.ensures); room = room v _ c.in-Some.ensures; none = lowest v }

pub returns-in-Some : goal.returns-in-Some
returns-in-Some c = λ I a v. rw c.place.ensures (job-placed v _ c.in-Some.ensures (search rules))

pub unwrap-lowest-requires : goal.unwrap-lowest-requires
unwrap-lowest-requires c = rw c.least_machine.ensures (some-goal c.requires.acts.2 c.in_default.ensures)

pub bounds-t-lowest : goal.bounds-t-lowest
bounds-t-lowest c = (least-low c.requires.acts.2 c.in_default.ensures _ (sym c.unwrap-lowest.ensures ∙ c.least_machine.ensures)).0

pub overflow_add-t : goal.overflow_add-t
overflow_add-t c = omega (arith, least-low c.requires.acts.2 c.in_default.ensures _ (sym c.unwrap-lowest.ensures ∙ c.least_machine.ensures))

pub overflow_add-t-2 : goal.overflow_add-t-2
overflow_add-t-2 c = omega (arith, few c.requires.acts.2)

pub returns : goal.returns
returns c = λ I a v. job-lifted v c.in_default.ensures _ (sym c.unwrap-lowest.ensures ∙ c.least_machine.ensures)
