-- Each job's flags as a set, one after the other.
use Rattle.arrays.specs.Sets.{SetsOf}
use Rattle.arrays.proofs.sets.masks_of.Given as goal

abbrev pub invariant-loop-b : goal.invariant-loop-b
invariant-loop-b l = SetsOf l.eligible l.m l.b l.masks
