-- A machine is in one set or the other.
use Rattle.arrays.proofs.Words.{set-with}
use Rattle.arrays.proofs.sets.with.Goals as goal

pub returns : goal.returns
returns c = set-with _ c.requires.1 c.requires.2 _ c.requires.0
