-- The front of a list is as long as asked.
use Prim.Native.Nat.{ℕ, ◌≤◌, ◌<◌}
use mathlib.Core.List.{List}
use native.Mathlib.Omega.{arith}
use lib.ListN.{length, take}
use lib.Seq.{length-take-le}

pub front-short : (n m : ℕ) (l : List ℕ) → n ≤ length l → n < m → length (take n l) < m
front-short n m l h k = omega (arith, length-take-le n l h)
