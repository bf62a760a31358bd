-- A shift brings the digit to the end.
use Prim.Native.Nat.{suc, ◌-◌}
use mathlib.Core.Path.{◌≡◌}
use native.Mathlib.Omega.{arith}
use Rattle.arrays.specs.Sets.{has}
use Rattle.arrays.proofs.sets.is_in.Goals as goal

pub returns : goal.returns
unfolding has
returns c =
    let i = c.args.i in
    let e : suc i - 1 ≡ i = omega arith in
    rw e
