-- Searches whose tests, and whose numbers, agree find the same; and what a search that finds something, or nothing, says.
use Prim.Native.Nat.{ℕ, zero, suc, ◌≤◌, ◌<◌}
use mathlib.Core.Path.{◌≡◌, refl}
use mathlib.Core.Bool.{Bool, true, false}
use native.Mathlib.Nat.{le_refl}
use native.Mathlib.Omega.{arith}
use Rattle.rules.specs.Fold.{first_to, any_to, all_to, lesser, least_to}
use Rattle.theory.proofs.Logic.{by_test, conflict}
use Rattle.theory.proofs.View.{None, First, first, Least, least, Some, here, any_some, any_at}

pub first-ext : (k : ℕ) (p q : ℕ → Bool) → ((i : ℕ) → 0 < i → i ≤ k → p i ≡ q i) → first_to k p ≡ first_to k q
unfolding first_to
first-ext zero p q h = refl
first-ext (suc k) p q h = rw (first-ext k p q (λ i l u. h i l (omega arith)), h (suc k) (omega arith) (le_refl (suc k)))

pub any-ext : (k : ℕ) (p q : ℕ → Bool) → ((i : ℕ) → 0 < i → i ≤ k → p i ≡ q i) → any_to k p ≡ any_to k q
unfolding any_to
any-ext zero p q h = refl
any-ext (suc k) p q h = rw (any-ext k p q (λ i l u. h i l (omega arith)), h (suc k) (omega arith) (le_refl (suc k)))

pub all-ext : (k : ℕ) (p q : ℕ → Bool) → ((i : ℕ) → 0 < i → i ≤ k → p i ≡ q i) → all_to k p ≡ all_to k q
unfolding all_to
all-ext zero p q h = refl
all-ext (suc k) p q h = rw (all-ext k p q (λ i l u. h i l (omega arith)), h (suc k) (omega arith) (le_refl (suc k)))

pub least-le : (k : ℕ) (p : ℕ → Bool) (f : ℕ → ℕ) → least_to k p f ≤ k
least-le k p f = from (least k p f)
  where
    from : {r : ℕ} → Least k p f r → r ≤ k
    from (Least.nowhere z) = omega arith
    from (Least.found j l e y d) = l

lesser-ext : (f g : ℕ → ℕ) (k a : ℕ) (t : Bool) → a ≤ k → ((i : ℕ) → 0 < i → i ≤ suc k → f i ≡ g i) → lesser f a t (suc k) ≡ lesser g a t (suc k)
unfolding lesser
lesser-ext f g k a false h e = refl
lesser-ext f g k zero true h e = refl
lesser-ext f g k (suc a) true h e = rw (e (suc k) (omega arith) (le_refl (suc k)), e (suc a) (omega arith) (omega arith))

pub least-ext : (k : ℕ) (p q : ℕ → Bool) (f g : ℕ → ℕ) → ((i : ℕ) → 0 < i → i ≤ k → p i ≡ q i) → ((i : ℕ) → 0 < i → i ≤ k → f i ≡ g i)
    → least_to k p f ≡ least_to k q g
unfolding least_to
least-ext zero p q f g h e = refl
least-ext (suc k) p q f g h e =
    rw (least-ext k p q f g (λ i l u. h i l (omega arith)) (λ i l u. e i l (omega arith)), h (suc k) (omega arith) (le_refl (suc k)))
    (lesser-ext f g k (least_to k q g) (q (suc k)) (least-le k q g) e)

-- ---- nothing, or something

pub any-miss : (k : ℕ) (p : ℕ → Bool) → None k p → any_to k p ≡ false
any-miss k p h = by_test (any_to k p) (λ t. from (any_some k p t)) (λ t. t)
  where
    from : Some k p → any_to k p ≡ false
    from (here i l u e) = conflict e (h i l u)

pub first-none : (k : ℕ) (p : ℕ → Bool) → first_to k p ≡ 0 → None k p
first-none k p e = from (rw e at (first k p))
  where
    from : First k p 0 → None k p
    from (First.nowhere z) = z

-- what is found passes, and none below it does
pub record Found (k : ℕ) (p : ℕ → Bool) (i : ℕ) : Type 0 where
  pub within : i < k
  pub passes : p (suc i) ≡ true
  pub lowest : None i p

pub first_found : (k : ℕ) (p : ℕ → Bool) (i : ℕ) → first_to k p ≡ suc i → Found k p i
first_found k p i e = from (rw e at (first k p))
  where
    from : First k p (suc i) → Found k p i
    from (First.found j l t z) = record { within = l; passes = t; lowest = z }

pub first_any : (k : ℕ) (p : ℕ → Bool) (i : ℕ) → first_to k p ≡ suc i → any_to k p ≡ true
first_any k p i e = let f = first_found k p i e in any_at k p (suc i) (omega arith) f.within f.passes

pub first-le : (k : ℕ) (p : ℕ → Bool) (r : ℕ) → r ≡ first_to k p → r ≤ k
first-le k p r e = rw e (from (first k p))
  where
    from : {r : ℕ} → First k p r → r ≤ k
    from (First.nowhere z) = omega arith
    from (First.found j l y z) = l
