use Rattle.arrays.proofs.Filling.{filled_none}
use Rattle.arrays.proofs.sets.masks_of.Goals as goal

pub loop-b-init : goal.loop-b-init
loop-b-init c = filled_none _ _
