use native.Mathlib.Omega.{arith}
use Rattle.settling.proofs.Placing.{known_in}
use Rattle.settling.proofs.improve.job_improves.Goals as goal

pub improves-requires : goal.improves-requires
improves-requires c = (_, known_in c.requires.0 (omega arith) (omega arith), c.requires.1)

pub returns : goal.returns
returns c = record { within = c.requires.1; same = λ I r d. c.improves.ensures I _ r d c.requires.1 }
