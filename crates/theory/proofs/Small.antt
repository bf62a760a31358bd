-- Numbers of an instance of at most 24 machines and 224 jobs, each of at most 1440 minutes.
use Prim.Native.Nat.{ℕ, zero, suc, ◌+◌, ◌*◌, ◌≤◌}
use mathlib.Core.Path.{◌≡◌}
use mathlib.Core.Bool.{Bool, true, false}
use native.Mathlib.Nat.{le_refl, le_trans, mul-le-mul_right, mul-le-mul_left}
use native.Mathlib.Omega.{arith}
use lib.ListN.{length}
use lib.Dec.{eqb}
use borrow.Author.Tests.{eqb-true, ne_eqb}
use Rattle.rules.specs.Fold.{pick, at, sum_to}
use Rattle.rules.specs.Instance.{Instance, Assignment, n, minutes_of, list_of}
use Rattle.rules.specs.Load.{load, longest, makespan, total}
use Rattle.rules.specs.Settle.{squares}
use Rattle.rules.specs.Trial.{lift_bound, push_bound}
use Rattle.theory.proofs.Logic.{by_test}
use Rattle.theory.proofs.Fold.{sum_to-bound, sum_to-mono, sum_to-scale, sum_to-swap, sum_to-zero}
use Rattle.theory.proofs.Makespan.{makespan-le, longest-le}

-- a job's minutes count on one machine at most
once : (k p w : ℕ) → sum_to k (λ i. pick (eqb p i) w 0) ≤ w
unfolding sum_to
once zero p w = omega arith
once (suc k) p w =
    by_test (eqb p (suc k))
    (λ t. let e : p ≡ suc k = eqb-true p (suc k) t in
    let z = sum_to-zero k (λ i. pick (eqb p i) w 0) (λ i l u. rw (ne_eqb p i (λ q. absurd (omega arith)))) in
    rw (z, t) (omega arith))
    (λ t. rw t (omega (arith, once k p w)))

loads-total : (I : Instance) (x : Assignment) → sum_to I.m (load I x) ≤ total I
unfolding load total
loads-total I x =
    rw (sum_to-swap I.m (n I) (λ i b. pick (eqb (at x b) i) (minutes_of I b) 0))
    (sum_to-mono (n I) _ (λ b. minutes_of I b) (λ b l u. once I.m (at x b) (minutes_of I b)))

pub record Small (I : Instance) : Type 0 where
  pub machines : I.m ≤ 24
  pub jobs : n I ≤ 224
  pub short : (b : ℕ) → minutes_of I b ≤ 1440
  pub lists : sum_to (n I) (λ b. length (list_of I b)) ≤ 5376

module _ {I : Instance} (s : Small I) where
  pub load-small : (x : Assignment) (i : ℕ) → load I x i ≤ 322560
  unfolding load
  load-small x i =
      le_trans (sum_to-bound (n I) (λ b. pick (eqb (at x b) i) (minutes_of I b) 0) 1440 (λ b p q. one (eqb (at x b) i) (minutes_of I b) (s.short b)))
      (le_trans (mul-le-mul_right 1440 s.jobs) (le_refl 322560))
    where
      one : (t : Bool) (w : ℕ) → w ≤ 1440 → pick t w 0 ≤ 1440
      one true w h = h
      one false w h = omega arith

  pub makespan-small : (x : Assignment) → makespan I x ≤ 322560
  makespan-small x = makespan-le I x 322560 (λ i l u. load-small x i)

  pub longest-small : longest I ≤ 1440
  longest-small = longest-le I 1440 (λ b l u. s.short b)

  pub total-small : total I ≤ 322560
  unfolding total
  total-small = omega (arith, sum_to-bound (n I) (λ b. minutes_of I b) 1440 (λ b p q. s.short b), s.jobs)

  pub lifts-small : lift_bound I ≤ 12376
  unfolding lift_bound
  lifts-small =
      let x : I.m * (2 * I.m + 1) ≤ 24 * (2 * I.m + 1) = mul-le-mul_right (2 * I.m + 1) s.machines in
      let y : n I * (2 * I.m + 2) ≤ 224 * (2 * I.m + 2) = mul-le-mul_right (2 * I.m + 2) s.jobs in
      omega (arith, x, y, s.machines)

  pub pushes-small : push_bound I ≤ 537600
  unfolding push_bound
  pushes-small =
      let x : 4 * I.m + 4 ≤ 100 = omega (arith, s.machines) in
      le_trans (mul-le-mul_left (4 * I.m + 4) s.lists) (le_trans (mul-le-mul_right 5376 x) (le_refl 537600))

  -- all loads together are at most the total, which a load is at most too
  pub squares-small : (x : Assignment) → squares I x ≤ 322560 * 322560
  unfolding squares
  squares-small x =
      le_trans (sum_to-mono I.m (λ i. load I x i * load I x i) (λ i. 322560 * load I x i) (λ i l u. mul-le-mul_right (load I x i) (load-small x i)))
      (rw (sum_to-scale I.m (load I x) 322560) (mul-le-mul_left 322560 (le_trans (loads-total I x) total-small)))
