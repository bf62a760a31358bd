-- The invariant: the loads by the jobs passed.
use Rattle.arrays.proofs.Loads.{Loaded}
use Rattle.arrays.proofs.scan.loads_of.Given as goal

abbrev pub invariant-loop-b : goal.invariant-loop-b
invariant-loop-b l = Loaded l.minutes l.places l.m l.b l.loads
