-- The makespan and the longest job: each is the greatest of what it ranges over, and no job is longer than the makespan.
use Prim.Native.Nat.{ℕ, zero, suc, ◌+◌, ◌≤◌, ◌<◌}
use mathlib.Core.Path.{◌≡◌, refl}
use native.Mathlib.Nat.{le_refl, le_trans}
use native.Mathlib.Omega.{arith}
use native.Mathlib.Decide.{ℕ_discrete}
use lib.Dec.{ltb}
use borrow.Author.Tests.{ltb-false, eq-eqb}
use Rattle.rules.specs.Fold.{at, sum_to, most, max_to}
use Rattle.rules.specs.Instance.{Instance, Assignment, n, minutes_of}
use Rattle.rules.specs.Load.{load, makespan, longest}
use Rattle.theory.proofs.Logic.{by_test}
use Rattle.theory.proofs.View.{upto, max-ge}
use Rattle.theory.proofs.Valid.{Valid, Permitted, on-machine}
use Rattle.theory.proofs.Load.{part}

-- ---- the folds

most-le : (a b c : ℕ) → a ≤ c → b ≤ c → most a b ≤ c
unfolding most
most-le a b c p q = by_test (ltb a b) (λ t. rw t q) (λ t. rw t p)

-- what bounds every part bounds the greatest
pub max-le : (k : ℕ) (f : ℕ → ℕ) (c : ℕ) → ((i : ℕ) → 0 < i → i ≤ k → f i ≤ c) → max_to k f ≤ c
unfolding max_to
max-le zero f c h = omega arith
max-le (suc k) f c h =
    most-le _ _ _ (max-le k f c (λ i l u. h i l (omega arith))) (h (suc k) (omega arith) (le_refl (suc k)))

-- the greatest is one of the parts
pub max-some : (k : ℕ) (f : ℕ → ℕ) → 0 < k → (i : ℕ) × (0 < i) × (i ≤ k) × (f i ≡ max_to k f)
unfolding max_to most
max-some zero f h = absurd (omega arith)
max-some (suc k) f h =
    by_test (ltb (max_to k f) (f (suc k)))
    (λ t. (suc k, omega arith, le_refl (suc k), rw t))
    (λ t. rw t (elim (ℕ_discrete k 0) [
      | yes e ↦
          let z : max_to k f ≡ 0 = rw e in
          (suc k, omega arith, le_refl (suc k), omega (arith, ltb-false))
      | no ne ↦ let r = max-some k f (omega arith) in (r.0, r.1, omega (arith, r.2), r.3)
    ]))

-- no part is more than the sum
pub sum-ge : (k : ℕ) (f : ℕ → ℕ) (i : ℕ) → 0 < i → i ≤ k → f i ≤ sum_to k f
unfolding sum_to
sum-ge zero f i l u = absurd (omega arith)
sum-ge (suc k) f i l u =
    upto (λ i. f i ≤ sum_to k f + f (suc k)) (λ i l u. omega (arith, sum-ge k f i l u)) (omega arith) i l u

-- ---- the makespan

pub makespan-ge : (I : Instance) (x : Assignment) (i : ℕ) → 0 < i → i ≤ I.m → load I x i ≤ makespan I x
unfolding makespan
makespan-ge I x i l u = max-ge I.m (load I x) i l u

pub makespan-le : (I : Instance) (x : Assignment) (c : ℕ) → ((i : ℕ) → 0 < i → i ≤ I.m → load I x i ≤ c) → makespan I x ≤ c
unfolding makespan
makespan-le I x c h = max-le I.m (load I x) c h

-- ---- the longest job

pub longest-ge : (I : Instance) (b : ℕ) → 0 < b → b ≤ n I → minutes_of I b ≤ longest I
unfolding longest
longest-ge I b l u = max-ge (n I) (minutes_of I) b l u

pub longest-le : (I : Instance) (c : ℕ) → ((b : ℕ) → 0 < b → b ≤ n I → minutes_of I b ≤ c) → longest I ≤ c
unfolding longest
longest-le I c h = max-le (n I) (minutes_of I) c h

pub longest-some : (I : Instance) → 0 < n I → (b : ℕ) × (0 < b) × (b ≤ n I) × (minutes_of I b ≡ longest I)
unfolding longest
longest-some I h = max-some (n I) (minutes_of I) h

-- ---- jobs and loads

-- a job takes no more than the load of its machine
pub load-ge : (I : Instance) (x : Assignment) (b i : ℕ) → 0 < b → b ≤ n I → at x b ≡ i → minutes_of I b ≤ load I x i
unfolding load
load-ge I x b i l u e =
    rw (eq-eqb (at x b) i e) at (sum-ge (n I) (part I x i) b l u)

pub longest-makespan : {I : Instance} {x : Assignment} → Valid I → Permitted I x → longest I ≤ makespan I x
longest-makespan {I} {x} v w =
    longest-le I (makespan I x) (λ b l u.
    let r = on-machine v w b l u in
    le_trans (load-ge I x b (at x b) l u refl) (makespan-ge I x (at x b) r.0 r.1))
