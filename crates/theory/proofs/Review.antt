-- Review answers settled exactly where no job improves, and otherwise names the lowest job that does.
use Prim.Native.Nat.{ℕ, suc, ◌+◌, ◌≤◌, ◌<◌}
use mathlib.Core.Path.{◌≡◌}
use mathlib.Core.Bool.{true, false, not}
use mathlib.Core.Logic.{◌≢◌}
use native.Mathlib.Omega.{arith}
use borrow.Author.Tests.{eqb-false, ne_eqb, ltb-true, lt-ltb, not-true}
use Rattle.rules.specs.Fold.{at}
use Rattle.rules.specs.Instance.{Instance, Assignment, n, minutes_of, eligible}
use Rattle.rules.specs.Load.{load, elsewhere, improves_at, improves, equilibrium, review}
use Rattle.theory.proofs.Logic.{by_test, conflict, not-mk, and_left, and_right, and-mk}
use Rattle.theory.proofs.View.{First, first, nowhere, found, first-miss, Some, here, any_some, any_at, all-at, all-mk}

-- machine i is another one of job b, and the job would finish earlier there
pub record Better (I : Instance) (x : Assignment) (b i : ℕ) : Type 0 where
  pub listed : eligible I b i ≡ true
  pub other : i ≢ at x b
  pub sooner : load I x i + minutes_of I b < load I x (at x b)

-- job b improves: some machine is better
pub record Improves (I : Instance) (x : Assignment) (b : ℕ) : Type 0 where
  pub machine : ℕ
  pub low : 0 < machine
  pub high : machine ≤ I.m
  pub better : Better I x b machine

module _ (I : Instance) (x : Assignment) where
  -- ---- elsewhere

  pub elsewhere-is : (b i : ℕ) → elsewhere I x b i ≡ true → (eligible I b i ≡ true) × (i ≢ at x b)
  unfolding elsewhere
  elsewhere-is b i e =
      (and_left _ _ e, eqb-false i (at x b) (not-true _ (and_right (eligible I b i) _ e)))

  pub is-elsewhere : (b i : ℕ) → eligible I b i ≡ true → i ≢ at x b → elsewhere I x b i ≡ true
  unfolding elsewhere
  is-elsewhere b i e ne = and-mk _ _ e (not-mk (ne_eqb i (at x b) ne))

  -- ---- the test and its meaning

  better-is : (b i : ℕ) → improves_at I x b i ≡ true → Better I x b i
  unfolding improves_at
  better-is b i e =
      let r = elsewhere-is b i (and_left _ _ e) in
      record {
        listed = r.0;
        other = r.1;
        sooner = ltb-true _ _ (and_right (elsewhere I x b i) _ e);
      }

  is-better : (b i : ℕ) → Better I x b i → improves_at I x b i ≡ true
  unfolding improves_at
  is-better b i r = and-mk _ _ (is-elsewhere b i r.listed r.other) (lt-ltb _ _ r.sooner)

  pub improves-is : (b : ℕ) → improves I x b ≡ true → Improves I x b
  unfolding improves
  improves-is b e = from (any_some I.m (λ i. improves_at I x b i) e)
    where
      from : Some I.m (λ i. improves_at I x b i) → Improves I x b
      from (here i l u t) = record { machine = i; low = l; high = u; better = better-is b i t }

  pub is-improves : (b : ℕ) → Improves I x b → improves I x b ≡ true
  unfolding improves
  is-improves b r = any_at I.m (λ i. improves_at I x b i) r.machine r.low r.high (is-better b r.machine r.better)

  pub improves-not : (b : ℕ) → improves I x b ≡ false → Improves I x b → ⊥
  improves-not b e r = conflict (is-improves b r) e

  pub not-improves : (b : ℕ) → (Improves I x b → ⊥) → improves I x b ≡ false
  not-improves b h = by_test (improves I x b) (λ t. absurd (h (improves-is b t))) (λ t. t)

  -- ---- settled

  pub settled-none : equilibrium I x ≡ true → (b : ℕ) → 0 < b → b ≤ n I → Improves I x b → ⊥
  unfolding equilibrium
  settled-none e b l u = improves-not b (not-true _ (all-at (n I) (λ b. not (improves I x b)) b l u e))

  pub none-settled : ((b : ℕ) → 0 < b → b ≤ n I → Improves I x b → ⊥) → equilibrium I x ≡ true
  unfolding equilibrium
  none-settled h = all-mk (n I) (λ b. not (improves I x b)) (λ b l u. not-mk (not-improves b (h b l u)))

  -- ---- review

  pub review-settled : (review I x).improving ≡ 0 → equilibrium I x ≡ true
  unfolding review
  review-settled e = from (first (n I) (improves I x)) e
    where
      from : {r : ℕ} → First (n I) (improves I x) r → r ≡ 0 → equilibrium I x ≡ true
      from (nowhere h) z = none-settled (λ b l u. improves-not b (h b l u))
      from (found j l t h) z = absurd (omega arith)

  pub settled-review : equilibrium I x ≡ true → (review I x).improving ≡ 0
  unfolding review
  settled-review e = first-miss (n I) (improves I x) (λ b l u. not-improves b (settled-none e b l u))

  pub review-first : (b : ℕ) → (review I x).improving ≡ suc b
      → (b < n I) × Improves I x (suc b) × ((c : ℕ) → 0 < c → c ≤ b → Improves I x c → ⊥)
  unfolding review
  review-first b e = from (first (n I) (improves I x)) e
    where
      from : {r : ℕ} → First (n I) (improves I x) r → r ≡ suc b
          → (b < n I) × Improves I x (suc b) × ((c : ℕ) → 0 < c → c ≤ b → Improves I x c → ⊥)
      from (nowhere h) z = absurd (omega arith)
      from (found j l t h) z =
          let q : j ≡ b = omega arith in
          (omega arith, rw (← q) (improves-is (suc j) t), λ c v w. improves-not c (h c v (omega arith)))
