-- The invariant: `x` is `g` and what the jobs passed add.
use Rattle.scans.proofs.Reaching.{Joined}
use Rattle.scans.proofs.group.reach_once.Given as goal

abbrev pub invariant-loop-b : goal.invariant-loop-b
invariant-loop-b l = Joined l.places l.masks l.g l.m l.b l.x
