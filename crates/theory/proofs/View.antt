-- What the searches over 1 to k find, as data to match on.
use Prim.Native.Nat.{ℕ, zero, suc, ◌≤◌, ◌<◌}
use mathlib.Core.Path.{◌≡◌, refl, ap}
use mathlib.Core.Bool.{Bool, true, false}
use native.Mathlib.Nat.{le_refl, le_trans}
use native.Mathlib.Omega.{arith}
use native.Mathlib.Decide.{ℕ_discrete, dec_le}
use lib.Dec.{ltb}
use borrow.Author.Tests.{ltb-true, ltb-false}
use Rattle.rules.specs.Fold.{◌or◌, pick, or_else, first_to, lesser, least_to, greater, greatest_to, any_to, all_to, most, max_to, sum_to}
use Rattle.theory.proofs.Logic.{by_test, conflict, and_left, and_right, and-mk, or_left, or_right}

-- none of 1 to k passes
abbrev pub None : ℕ → (ℕ → Bool) → Type 0
None k p = (i : ℕ) → 0 < i → i ≤ k → p i ≡ false

-- a fact of each of 1 to k, and of k + 1
pub upto {ℓ} : {k : ℕ} (P : ℕ → Type ℓ) → ((i : ℕ) → 0 < i → i ≤ k → P i) → P (suc k) → (i : ℕ) → 0 < i → i ≤ suc k → P i
upto {k = k} P h z i l u = elim (ℕ_discrete i (suc k)) [ yes q ↦ rw q z | no ne ↦ h i l (omega arith) ]

none-suc : {k : ℕ} {p : ℕ → Bool} → None k p → p (suc k) ≡ false → None (suc k) p
none-suc {p = p} h e = upto (λ i. p i ≡ false) h e

pub data First (k : ℕ) (p : ℕ → Bool) : ℕ → Type 0 where
  nowhere : None k p → First k p 0
  found : (j : ℕ) → j < k → p (suc j) ≡ true → None j p → First k p (suc j)

first-suc : {k : ℕ} {p : ℕ → Bool} {r : ℕ} → First k p r → First (suc k) p (or_else r (pick (p (suc k)) (suc k) 0))
unfolding or_else
first-suc {k} {p} (nowhere h) =
    by_test (p (suc k)) (λ e. rw e (found k (le_refl (suc k)) e h)) (λ e. rw e (nowhere (none-suc h e)))
first-suc (found j l e h) = found j (omega arith) e h

pub first : (k : ℕ) (p : ℕ → Bool) → First k p (first_to k p)
unfolding first_to
first zero p = nowhere (λ i l u. absurd (omega arith))
first (suc k) p = first-suc (first k p)

-- r is, of those of 1 to k that pass, the lowest of least f
pub data Least (k : ℕ) (p : ℕ → Bool) (f : ℕ → ℕ) : ℕ → Type 0 where
  nowhere : None k p → Least k p f 0
  found : (j : ℕ) → j < k → p (suc j) ≡ true
      → ((i : ℕ) → 0 < i → i ≤ k → p i ≡ true → f (suc j) ≤ f i)
      → ((i : ℕ) → 0 < i → i ≤ j → p i ≡ true → f (suc j) < f i) → Least k p f (suc j)

least-suc : {k : ℕ} {p : ℕ → Bool} {f : ℕ → ℕ} {r : ℕ} → Least k p f r → (t : Bool) → p (suc k) ≡ t → Least (suc k) p f (lesser f r t (suc k))
unfolding lesser
least-suc (nowhere h) false e = nowhere (none-suc h e)
least-suc {k} {p} {f} (nowhere h) true e =
    found k (le_refl (suc k)) e (upto (λ i. p i ≡ true → f (suc k) ≤ f i) (λ i l u t. conflict t (h i l u)) (λ t. le_refl _))
    (λ i l u t. conflict t (h i l u))
least-suc {k} {p} {f} (found j l q h d) false e =
    found j (omega arith) q (upto (λ i. p i ≡ true → f (suc j) ≤ f i) h (λ t. conflict t e)) d
least-suc {k} {p} {f} (found j l q h d) true e =
    by_test (ltb (f (suc k)) (f (suc j)))
    (λ t. rw t
    (found k (le_refl (suc k)) e
    (upto (λ i. p i ≡ true → f (suc k) ≤ f i) (λ i l u z. omega (arith, h i l u z, ltb-true)) (λ z. le_refl _))
    (λ i l u z. omega (arith, h i l (omega arith) z, ltb-true (f (suc k)) (f (suc j)) t))))
    (λ t. rw t
    (found j (omega arith) q
    (upto (λ i. p i ≡ true → f (suc j) ≤ f i) h (λ z. ltb-false _ _ t)) d))

pub least : (k : ℕ) (p : ℕ → Bool) (f : ℕ → ℕ) → Least k p f (least_to k p f)
unfolding least_to
least zero p f = nowhere (λ i l u. absurd (omega arith))
least (suc k) p f = least-suc (least k p f) (p (suc k)) refl

-- ---- some

pub data Some (k : ℕ) (p : ℕ → Bool) : Type 0 where
  here : (i : ℕ) → 0 < i → i ≤ k → p i ≡ true → Some k p

pub any_some : (k : ℕ) (p : ℕ → Bool) → any_to k p ≡ true → Some k p
unfolding any_to ◌or◌
any_some zero p e = conflict e refl
any_some (suc k) p e =
    by_test (p (suc k))
    (λ t. here (suc k) (omega arith) (le_refl (suc k)) t)
    (λ t. by_test (any_to k p)
    (λ u. more (any_some k p u))
    (λ u. conflict e (rw (u, t))))
  where
    more : Some k p → Some (suc k) p
    more (here i l u e) = here i l (omega arith) e

pub any_at : (k : ℕ) (p : ℕ → Bool) (i : ℕ) → 0 < i → i ≤ k → p i ≡ true → any_to k p ≡ true
unfolding any_to
any_at zero p i l u e = absurd (omega arith)
any_at (suc k) p i l u e =
    elim (ℕ_discrete i (suc k)) [
      | yes q ↦ or_right (any_to k p) (p (suc k)) (rw q at e)
      | no ne ↦ or_left (any_to k p) (p (suc k)) (any_at k p i l (omega arith) e)
    ]

pub any_none : (k : ℕ) (p : ℕ → Bool) → any_to k p ≡ false → None k p
any_none k p e i l u = by_test (p i) (λ t. conflict (any_at k p i l u t) e) (λ t. t)

-- ---- the greatest

pub most-left : (a b : ℕ) → a ≤ most a b
unfolding most
most-left a b = by_test (ltb a b) (λ t. rw t (omega (arith, ltb-true))) (λ t. rw t (le_refl a))

pub most-right : (a b : ℕ) → b ≤ most a b
unfolding most
most-right a b = by_test (ltb a b) (λ t. rw t (le_refl b)) (λ t. rw t (ltb-false _ _ t))

pub max-ge : (k : ℕ) (f : ℕ → ℕ) (i : ℕ) → 0 < i → i ≤ k → f i ≤ max_to k f
unfolding max_to
max-ge zero f i l u = absurd (omega arith)
max-ge (suc k) f i l u =
    upto (λ i. f i ≤ most (max_to k f) (f (suc k)))
    (λ i l u. le_trans (max-ge k f i l u) (most-left (max_to k f) (f (suc k))))
    (most-right (max_to k f) (f (suc k))) i l u

-- ---- a sum that is not 0

pub sum-some : (k : ℕ) (f : ℕ → ℕ) → 0 < sum_to k f → (i : ℕ) × (0 < i) × (i ≤ k) × (0 < f i)
unfolding sum_to
sum-some zero f h = absurd (omega arith)
sum-some (suc k) f h =
    elim (ℕ_discrete (f (suc k)) 0) [
      | yes e ↦ let r = sum-some k f (omega arith) in (r.0, r.1, omega (arith, r.2), r.3)
      | no ne ↦ (suc k, omega arith, le_refl (suc k), omega arith)
    ]

-- ---- what a search loop has shown

pub first-miss : (k : ℕ) (p : ℕ → Bool) → None k p → first_to k p ≡ 0
first-miss k p h = from (first k p)
  where
    from : {r : ℕ} → First k p r → r ≡ 0
    from (nowhere z) = refl
    from (found j l e z) = conflict e (h (suc j) (omega arith) l)

pub first-hit : (k : ℕ) (p : ℕ → Bool) (j : ℕ) → j < k → None j p → p (suc j) ≡ true → first_to k p ≡ suc j
first-hit k p j l h e = from (first k p)
  where
    from : {r : ℕ} → First k p r → r ≡ suc j
    from (nowhere z) = conflict e (z (suc j) (omega arith) l)
    from (found i u w z) =
        elim (ℕ_discrete i j) [
          | yes q ↦ ap suc q
          | no ne ↦ elim (dec_le i j) [
            | yes b ↦ conflict w (h (suc i) (omega arith) (omega arith))
            | no b ↦ conflict e (z (suc j) (omega arith) (omega arith))
          ]
        ]

pub none_more : (k : ℕ) (p : ℕ → Bool) → None k p → p (suc k) ≡ false → None (suc k) p
none_more k p h e = none-suc {p = p} h e

pub none-zero : (p : ℕ → Bool) → None 0 p
none-zero p i l u = absurd (omega arith)

-- ---- all

pub all-at : (k : ℕ) (p : ℕ → Bool) (i : ℕ) → 0 < i → i ≤ k → all_to k p ≡ true → p i ≡ true
unfolding all_to
all-at zero p i l u e = absurd (omega arith)
all-at (suc k) p i l u e =
    elim (ℕ_discrete i (suc k)) [
      | yes q ↦ rw q (and_right (all_to k p) (p (suc k)) e)
      | no ne ↦ all-at k p i l (omega arith) (and_left (all_to k p) (p (suc k)) e)
    ]

pub all-mk : (k : ℕ) (p : ℕ → Bool) → ((i : ℕ) → 0 < i → i ≤ k → p i ≡ true) → all_to k p ≡ true
unfolding all_to
all-mk zero p h = refl
all-mk (suc k) p h =
    and-mk (all_to k p) (p (suc k)) (all-mk k p (λ i l u. h i l (omega arith))) (h (suc k) (omega arith) (le_refl (suc k)))

-- ---- the greatest number that passes, by f

-- r is, of those of 1 to k that pass, one of greatest f
pub data Greatest (k : ℕ) (p : ℕ → Bool) (f : ℕ → ℕ) : ℕ → Type 0 where
  nowhere : None k p → Greatest k p f 0
  found : (j : ℕ) → j < k → p (suc j) ≡ true
      → ((i : ℕ) → 0 < i → i ≤ k → p i ≡ true → f i ≤ f (suc j)) → Greatest k p f (suc j)

greatest-suc : {k : ℕ} {p : ℕ → Bool} {f : ℕ → ℕ} {r : ℕ} → Greatest k p f r → (t : Bool) → p (suc k) ≡ t
    → Greatest (suc k) p f (greater f r t (suc k))
unfolding greater
greatest-suc (nowhere h) false e = nowhere (none-suc h e)
greatest-suc {k} {p} {f} (nowhere h) true e =
    found k (le_refl (suc k)) e (upto (λ i. p i ≡ true → f i ≤ f (suc k)) (λ i l u t. conflict t (h i l u)) (λ t. le_refl _))
greatest-suc {k} {p} {f} (found j l q h) false e =
    found j (omega arith) q (upto (λ i. p i ≡ true → f i ≤ f (suc j)) h (λ t. conflict t e))
greatest-suc {k} {p} {f} (found j l q h) true e =
    by_test (ltb (f (suc j)) (f (suc k)))
    (λ t. rw t
    (found k (le_refl (suc k)) e
    (upto (λ i. p i ≡ true → f i ≤ f (suc k)) (λ i l u z. omega (arith, h i l u z, ltb-true)) (λ z. le_refl _))))
    (λ t. rw t
    (found j (omega arith) q
    (upto (λ i. p i ≡ true → f i ≤ f (suc j)) h (λ z. ltb-false _ _ t))))

pub greatest : (k : ℕ) (p : ℕ → Bool) (f : ℕ → ℕ) → Greatest k p f (greatest_to k p f)
unfolding greatest_to
greatest zero p f = nowhere (λ i l u. absurd (omega arith))
greatest (suc k) p f = greatest-suc (greatest k p f) (p (suc k)) refl
