-- Who acts, by the searches; or nothing does.
use Rattle.trials.proofs.Stepping.{none-light, job-acts, none-able, machine-acts}
use Rattle.trials.proofs.JobActing.{job-in}
use Rattle.trials.proofs.MachineActing.{machine-in}
use Rattle.trials.proofs.step.step.Goals as goal

pub returns-then-not-some_underloaded : goal.returns-then-not-some_underloaded
returns-then-not-some_underloaded c = λ I a v. none-light v c.if-not-some_underloaded.ensures

pub job_step-requires : goal.job_step-requires
job_step-requires c =
    let (I, a, v) = c.requires.trying in
    let acts = job-acts v c.if-not-some_underloaded.ensures _ c.in-Some.is in
    record { within = job-in acts; acts = (I, a, acts) }

pub returns-in-Some : goal.returns-in-Some
returns-in-Some c = λ I a v. c.job_step.ensures I a (job-acts v c.if-not-some_underloaded.ensures _ c.in-Some.is)

pub machine_step-requires : goal.machine_step-requires
machine_step-requires c =
    let (I, a, v) = c.requires.trying in
    let acts = machine-acts v c.if-not-some_underloaded.ensures c.in_default.is _ c.in-Some-first_able.ensures in
    record { within = machine-in acts; acts = (I, a, acts) }

pub returns-in-Some-first_able : goal.returns-in-Some-first_able
returns-in-Some-first_able c =
    λ I a v. c.machine_step.ensures I a (machine-acts v c.if-not-some_underloaded.ensures c.in_default.is _ c.in-Some-first_able.ensures)

pub returns-in-None : goal.returns-in-None
returns-in-None c = λ I a v. none-able v c.if-not-some_underloaded.ensures c.in_default.is c.in-None.ensures
