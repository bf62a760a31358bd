-- Entries of a list by number, from 1, and by index, from 0.
use Prim.Native.Nat.{ℕ, zero, suc, ◌-◌, ◌≤◌, ◌<◌}
use mathlib.Core.Path.{◌≡◌, refl}
use mathlib.Core.List.{List}
use native.Mathlib.Omega.{arith}
use lib.ListN.{get_or, set}
use lib.Seq.{set-set}
use Rattle.rules.specs.Fold.{at, put}

-- entry number k is the one at index k − 1
pub at-index : (l : List ℕ) (k : ℕ) → 0 < k → at l k ≡ get_or l (k - 1) 0
at-index l zero h = absurd (omega arith)
at-index l (suc k) h = let e : suc k - 1 ≡ k = omega arith in rw e

pub put-index : (l : List ℕ) (k v : ℕ) → 0 < k → put l k v ≡ set l (k - 1) v
put-index l zero v h = absurd (omega arith)
put-index l (suc k) v h = let e : suc k - 1 ≡ k = omega arith in rw e

-- put twice
pub put-put : (l : List ℕ) (k u v : ℕ) → put (put l k u) k v ≡ put l k v
put-put l zero u v = refl
put-put l (suc k) u v = set-set l k u v

-- each entry is at most c
pub at_small : (l : List ℕ) (c : ℕ) → ((k : ℕ) → get_or l k 0 ≤ c) → (j : ℕ) → at l j ≤ c
at_small l c h zero = omega arith
at_small l c h (suc k) = h k
