-- The invariant: the rounds left lead from here to the closure. A round that adds nothing has reached it.
use Prim.Native.Nat.{ℕ, ◌-◌}
use mathlib.Core.List.{List}
use lib.ListN.{take}
use Rattle.rules.specs.Instance.{Instance}
use Rattle.arrays.specs.Reads.{Reads}
use Rattle.scans.proofs.Reaching.{Toward}
use Rattle.scans.proofs.group.closure_of.Given as goal

abbrev pub invariant-loop : goal.invariant-loop
invariant-loop l = (I : Instance) (lengths : List ℕ) → Reads I l.m l.n lengths l.masks → Toward I (take l.n l.places) l.i (l.m - l.counter) l.g
