-- No sets entered yet.
use Prim.Native.Nat.{ℕ, suc}
use mathlib.Core.List.{List}
use native.Mathlib.Omega.{arith}
use lib.ListN.{replicate, length-replicate}
use lib.Dec.{lit<}
use Rattle.theory.proofs.Heights.{at-zeros}
use Rattle.arrays.specs.Sets.{SetsOf}

pub filled_none : (flags : List ℕ) (m : ℕ) → SetsOf flags m 0 (replicate 224 0)
filled_none flags m = record {
  long = length-replicate {A = ℕ} 224 0;
  each = λ b h. absurd (omega arith);
  small = λ b. rw (at-zeros 224 (suc b)) (lit< tt);
}
