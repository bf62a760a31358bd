-- Entries of a list's front part, by number.
use Prim.Native.Nat.{ℕ, zero, suc, ◌≤◌}
use mathlib.Core.Path.{◌≡◌, refl}
use mathlib.Core.List.{List}
use native.Mathlib.Omega.{arith}
use lib.ListN.{length, take, length-take}
use lib.Seq.{get_or-take, take-set-lt}
use Rattle.rules.specs.Fold.{at, put}

pub at_take : (k : ℕ) (l : List ℕ) (i : ℕ) → i ≤ k → at (take k l) i ≡ at l i
at_take k l zero h = refl
at_take k l (suc i) h = get_or-take k l i 0 h

pub take_put : (k : ℕ) (l : List ℕ) (i v : ℕ) → i ≤ k → take k (put l i v) ≡ put (take k l) i v
take_put k l zero v h = refl
take_put k l (suc i) v h = take-set-lt k l i v h

pub take_long : (k : ℕ) (l : List ℕ) → length (take k l) ≡ k → k ≤ length l
take_long k l e = omega (arith, length-take k l, e)
