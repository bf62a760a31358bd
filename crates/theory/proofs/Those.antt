-- The list of those of 1 to m that pass.
use Prim.Native.Nat.{ℕ, zero, suc, ◌+◌, ◌≤◌, ◌<◌}
use mathlib.Core.Path.{◌≡◌, refl, sym, ap, ◌∙◌}
use mathlib.Core.Bool.{Bool, true, false}
use mathlib.Core.Logic.{◌≢◌}
use mathlib.Core.List.{[], ◌∷◌}
use native.Mathlib.Nat.{le_refl}
use native.Mathlib.Omega.{arith}
use native.Mathlib.Decide.{ℕ_discrete}
use lib.ListN.{length, length-append}
use borrow.Author.Tests.{ne_eqb}
use Rattle.rules.specs.Fold.{pick, mem, sum_to, those_to}
use Rattle.theory.proofs.Logic.{by_test, conflict, or_cases, or-false, or-skip}
use Rattle.theory.proofs.Member.{mem-append, mem-one, mem-head, mem-none}

-- the last of the list, where it passes
last_mem : (t : Bool) (x i : ℕ) → mem i (pick t (x ∷ []) []) ≡ true → (i ≡ x) × (t ≡ true)
unfolding mem
last_mem true x i e = (mem-one x i e, refl)
last_mem false x i e = conflict e refl

pub those-range : (m : ℕ) (p : ℕ → Bool) (i : ℕ) → mem i (those_to m p) ≡ true → (0 < i) × (i ≤ m)
unfolding those_to mem
those-range zero p i e = conflict e refl
those-range (suc m) p i e =
    or_cases (mem i (those_to m p)) (mem i (pick (p (suc m)) (suc m ∷ []) [])) (sym (mem-append (those_to m p) _ i) ∙ e)
    (λ t. let r = those-range m p i t in omega (arith, r))
    (λ t. let r = last_mem (p (suc m)) (suc m) i t in omega (arith, r.0))

last-other : (t : Bool) (x i : ℕ) → x ≢ i → mem i (pick t (x ∷ []) []) ≡ false
unfolding mem
last-other true x i ne = rw (ne_eqb x i ne) (or-false false)
last-other false x i ne = refl

last-own : (t : Bool) (x : ℕ) → mem x (pick t (x ∷ []) []) ≡ t
last-own true x = mem-head x []
last-own false x = mem-none x

-- a number above m is not on the list
above : (m : ℕ) (p : ℕ → Bool) (i : ℕ) → m < i → mem i (those_to m p) ≡ false
above m p i h =
    by_test (mem i (those_to m p)) (λ t. absurd (let r = those-range m p i t in omega (arith, r))) (λ t. t)

-- the list names exactly those that pass
pub those-mem : (m : ℕ) (p : ℕ → Bool) (i : ℕ) → 0 < i → i ≤ m → mem i (those_to m p) ≡ p i
unfolding those_to
those-mem zero p i l u = absurd (omega arith)
those-mem (suc m) p i l u =
    mem-append (those_to m p) _ i
    ∙ (elim (ℕ_discrete (suc m) i) [
      | yes e ↦ or-skip _ (above m p i (omega arith)) ∙ (rw (← e) (last-own (p (suc m)) (suc m)))
      | no ne ↦ rw (last-other (p (suc m)) (suc m) i ne) (or-false _ ∙ those-mem m p i l (omega arith))
    ])

pub those-length : (m : ℕ) (p : ℕ → Bool) → length (those_to m p) ≡ sum_to m (λ i. pick (p i) 1 0)
unfolding those_to sum_to
those-length zero p = refl
those-length (suc m) p = length-append (those_to m p) _ ∙ (rw (those-length m p) (ap (λ (c : ℕ). sum_to m (λ i. pick (p i) 1 0) + c) (one (p (suc m)))))
  where
    one : (t : Bool) → length (pick t (suc m ∷ []) []) ≡ pick t 1 0
    one true = refl
    one false = refl

-- two tests that agree
pub those-ext : (k : ℕ) (p q : ℕ → Bool) → ((i : ℕ) → 0 < i → i ≤ k → p i ≡ q i) → those_to k p ≡ those_to k q
unfolding those_to
those-ext zero p q h = refl
those-ext (suc k) p q h = rw (those-ext k p q (λ i l u. h i l (omega arith)), h (suc k) (omega arith) (le_refl (suc k)))

-- the list names those that pass, where none above k does
pub those-all : (k : ℕ) (p : ℕ → Bool) → ((i : ℕ) → p i ≡ true → i ≤ k) → (i : ℕ) → 0 < i → mem i (those_to k p) ≡ p i
those-all k p h i l =
    by_test (p i)
    (λ t. those-mem k p i l (h i t))
    (λ t. by_test (mem i (those_to k p))
    (λ e. let w = those-range k p i e in those-mem k p i l w.1)
    (λ e. e ∙ sym t))
