-- One more turn of the searches for the least and the greatest.
use Prim.Native.Nat.{ℕ, zero, suc, ◌+◌, ◌≤◌, ◌<◌}
use mathlib.Core.Path.{◌≡◌, refl, ◌∙◌}
use mathlib.Core.Bool.{Bool, true, false}
use native.Mathlib.Nat.{le_refl}
use native.Mathlib.Numerals.{add-one}
use native.Mathlib.Omega.{arith}
use borrow.Author.Tests.{lt-ltb, le-ltb}
use Rattle.rules.specs.Fold.{lesser, least_to, greater, greatest_to}
use Rattle.theory.proofs.View.{Greatest, greatest}

-- ---- of two

module _ (f : ℕ → ℕ) where
  pub lesser-new : (a k : ℕ) → (0 < a → f k < f a) → lesser f a true k ≡ k
  unfolding lesser
  lesser-new zero k h = refl
  lesser-new (suc a) k h = rw (lt-ltb (f k) (f (suc a)) (h (omega arith)))

  pub lesser-stay : (a k : ℕ) → 0 < a → f a ≤ f k → lesser f a true k ≡ a
  unfolding lesser
  lesser-stay zero k l h = absurd (omega arith)
  lesser-stay (suc a) k l h = rw (le-ltb (f k) (f (suc a)) h)

  pub greater-new : (a k : ℕ) → (0 < a → f a < f k) → greater f a true k ≡ k
  unfolding greater
  greater-new zero k h = refl
  greater-new (suc a) k h = rw (lt-ltb (f (suc a)) (f k) (h (omega arith)))

  pub greater-stay : (a k : ℕ) → 0 < a → f k ≤ f a → greater f a true k ≡ a
  unfolding greater
  greater-stay zero k l h = absurd (omega arith)
  greater-stay (suc a) k l h = rw (le-ltb (f (suc a)) (f k) h)

greater-agree : (f g : ℕ → ℕ) (a k : ℕ) → (0 < a → f a ≡ g a) → f k ≡ g k → greater f a true k ≡ greater g a true k
unfolding greater
greater-agree f g zero k h e = refl
greater-agree f g (suc a) k h e = rw (h (omega arith), e)

-- ---- of those of 1 to k that pass; r is the one so far

module _ (k : ℕ) (p : ℕ → Bool) (f : ℕ → ℕ) (r : ℕ) where
  pub least_more : r ≡ least_to k p f → p (suc k) ≡ true → (x : ℕ) → x ≡ lesser f r true (suc k) → x ≡ least_to (k + 1) p f
  unfolding least_to
  least_more e t x h = rw (add-one k, t, ← e) h

  pub least-same : r ≡ least_to k p f → p (suc k) ≡ false → r ≡ least_to (k + 1) p f
  unfolding least_to lesser
  least-same e t = rw (add-one k, t) e

  pub greatest-same : r ≡ greatest_to k p f → p (suc k) ≡ false → r ≡ greatest_to (k + 1) p f
  unfolding greatest_to greater
  greatest-same e t = rw (add-one k, t) e

  pub greatest-le : r ≡ greatest_to k p f → r ≤ k
  greatest-le e = rw e (from (greatest k p f))
    where
      from : {x : ℕ} → Greatest k p f x → x ≤ k
      from (Greatest.nowhere z) = omega arith
      from (Greatest.found j l e h) = l

  -- by values that are the same up to the next
  pub greatest-more : (g : ℕ → ℕ) → ((i : ℕ) → 0 < i → i ≤ suc k → g i ≡ f i) → r ≡ greatest_to k p f → p (suc k) ≡ true → (x : ℕ)
      → x ≡ greater g r true (suc k) → x ≡ greatest_to (k + 1) p f
  unfolding greatest_to
  greatest-more g same e t x h =
      rw (add-one k, t, ← e)
      (h ∙ greater-agree g f r (suc k) (λ l. same r l (omega (arith, greatest-le e))) (same (suc k) (omega arith) (le_refl (suc k))))
