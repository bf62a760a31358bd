-- The invariant: x is the set that the flags passed spell.
use Prim.Native.Nat.{◌-◌, ◌+◌}
use lib.ListN.{get_or}
use lib.Dec.{leb, eqb}
use Rattle.rules.specs.Fold.{◌and◌}
use Rattle.arrays.specs.Sets.{SetOf}
use Rattle.arrays.proofs.sets.mask_at.Given as goal

abbrev pub invariant-loop-j : goal.invariant-loop-j
invariant-loop-j l = SetOf (λ k. leb k l.j and eqb (get_or l.eligible (l.base + (k - 1)) 0) 1) l.x
