-- Laws of lists by number from 1 and of the folds over 1 to k.
use Prim.Native.Nat.{ℕ, zero, suc, ◌+◌, ◌*◌, ◌≤◌, ◌<◌}
use mathlib.Core.Path.{◌≡◌, refl, sym, ap, ap₂, ◌∙◌}
use mathlib.Core.Bool.{Bool, true, false}
use mathlib.Core.Logic.{◌≢◌}
use mathlib.Core.List.{List}
use native.Mathlib.Nat.{not-suc-le-zero, le_refl}
use native.Mathlib.Omega.{arith}
use native.Mathlib.Decide.{ℕ_discrete}
use lib.ListN.{length, length-set}
use lib.Seq.{get_or-set_same, get_or-set_other}
use borrow.Author.Tests.{lt-ltb, le-ltb}
use Rattle.rules.specs.Fold.{pick, at, put, most, sum_to, max_to}

-- ---- at, put

pub length-put : (l : List ℕ) (k v : ℕ) → length (put l k v) ≡ length l
length-put l zero v = refl
length-put l (suc k) v = length-set l k v

pub at-put-same : (l : List ℕ) (k v : ℕ) → 0 < k → k ≤ length l → at (put l k v) k ≡ v
at-put-same l zero v p h = absurd (not-suc-le-zero p)
at-put-same l (suc k) v p h = get_or-set_same l k v 0 h

pub at-put-other : (l : List ℕ) (k j v : ℕ) → j ≢ k → at (put l k v) j ≡ at l j
at-put-other l zero j v ne = refl
at-put-other l (suc k) zero v ne = refl
at-put-other l (suc k) (suc j) v ne = get_or-set_other l k j v 0 (λ e. ne (ap suc e))

-- ---- sum_to

pub sum_to-ext : (k : ℕ) (f g : ℕ → ℕ) → ((i : ℕ) → 0 < i → i ≤ k → f i ≡ g i) → sum_to k f ≡ sum_to k g
unfolding sum_to
sum_to-ext zero f g h = refl
sum_to-ext (suc k) f g h =
    ap₂ ◌+◌ (sum_to-ext k f g (λ i p q. h i p (omega arith))) (h (suc k) (omega arith) (le_refl (suc k)))

-- two functions that differ at b alone
pub sum_to-one : (k : ℕ) (f g : ℕ → ℕ) (b : ℕ) → 0 < b → b ≤ k
    → ((i : ℕ) → i ≢ b → f i ≡ g i) → sum_to k f + g b ≡ sum_to k g + f b
unfolding sum_to
sum_to-one zero f g b p q h = omega arith
sum_to-one (suc k) f g b p q h =
    elim (ℕ_discrete b (suc k)) [
      | yes e ↦
          rw e
          (let r = sum_to-ext k f g (λ i p q. h i (omega arith)) in omega arith)
      | no ne ↦
          let r = sum_to-one k f g b p (omega arith) h in
          let z = h (suc k) (λ e. ne (sym e)) in
          omega arith
    ]

pub sum_to-mono : (k : ℕ) (f g : ℕ → ℕ) → ((i : ℕ) → 0 < i → i ≤ k → f i ≤ g i) → sum_to k f ≤ sum_to k g
unfolding sum_to
sum_to-mono zero f g h = le_refl 0
sum_to-mono (suc k) f g h =
    let r = sum_to-mono k f g (λ i p q. h i p (omega arith)) in
    omega (arith, h (suc k) (omega arith) (le_refl (suc k)))

-- no part falls, and part b grows
pub sum_to-gain : (k : ℕ) (f g : ℕ → ℕ) (b : ℕ) → 0 < b → b ≤ k → ((i : ℕ) → 0 < i → i ≤ k → f i ≤ g i) → f b < g b → sum_to k f < sum_to k g
unfolding sum_to
sum_to-gain zero f g b p q h e = absurd (omega arith)
sum_to-gain (suc k) f g b p q h e =
    elim (ℕ_discrete b (suc k)) [
      | yes z ↦
          let r = sum_to-mono k f g (λ i p q. h i p (omega arith)) in
          let w : f (suc k) < g (suc k) = rw z at e in
          omega arith
      | no ne ↦
          let r = sum_to-gain k f g b p (omega arith) (λ i p q. h i p (omega arith)) e in
          omega (arith, h (suc k) (omega arith) (le_refl (suc k)))
    ]

pub sum_to-bound : (k : ℕ) (f : ℕ → ℕ) (c : ℕ) → ((i : ℕ) → 0 < i → i ≤ k → f i ≤ c) → sum_to k f ≤ k * c
unfolding sum_to
sum_to-bound zero f c h = omega arith
sum_to-bound (suc k) f c h =
    let r = sum_to-bound k f c (λ i p q. h i p (omega arith)) in
    omega (arith, h (suc k) (omega arith) (le_refl (suc k)))

pub sum_to-scale : (k : ℕ) (f : ℕ → ℕ) (c : ℕ) → sum_to k (λ i. c * f i) ≡ c * sum_to k f
unfolding sum_to
sum_to-scale zero f c = omega arith
sum_to-scale (suc k) f c = let r = sum_to-scale k f c in omega arith

pub sum_to-add : (k : ℕ) (f g : ℕ → ℕ) → sum_to k (λ i. f i + g i) ≡ sum_to k f + sum_to k g
unfolding sum_to
sum_to-add zero f g = omega arith
sum_to-add (suc k) f g = let r = sum_to-add k f g in omega arith

pub sum_to-zero : (k : ℕ) (f : ℕ → ℕ) → ((i : ℕ) → 0 < i → i ≤ k → f i ≡ 0) → sum_to k f ≡ 0
unfolding sum_to
sum_to-zero zero f h = refl
sum_to-zero (suc k) f h =
    omega (arith, sum_to-zero k f (λ i p q. h i p (omega arith)), h (suc k) (omega arith) (le_refl (suc k)))

pub sum_to-single : (k : ℕ) (f : ℕ → ℕ) (p : ℕ) → 0 < p → p ≤ k → ((j : ℕ) → j ≢ p → f j ≡ 0) → sum_to k f ≡ f p
unfolding sum_to
sum_to-single zero f p l u h = absurd (omega arith)
sum_to-single (suc k) f p l u h =
    elim (ℕ_discrete p (suc k)) [
      | yes e ↦ rw e (omega (arith, sum_to-zero k f (λ i q r. h i (omega arith))))
      | no ne ↦ omega (arith, sum_to-single k f p l (omega arith) h, h (suc k) (λ e. ne (sym e)))
    ]

pub sum_to-swap : (m k : ℕ) (f : ℕ → ℕ → ℕ) → sum_to m (λ j. sum_to k (λ b. f j b)) ≡ sum_to k (λ b. sum_to m (λ j. f j b))
unfolding sum_to
sum_to-swap zero k f = sym (sum_to-zero k (λ b. 0) (λ i p q. refl))
sum_to-swap (suc m) k f =
    ap (λ (x : ℕ). x + sum_to k (λ b. f (suc m) b)) (sum_to-swap m k f)
    ∙ sym (sum_to-add k (λ b. sum_to m (λ j. f j b)) (λ b. f (suc m) b))

pub sum_to-pick : (t : Bool) (k : ℕ) (f : ℕ → ℕ) → pick t (sum_to k f) 0 ≡ sum_to k (λ b. pick t (f b) 0)
sum_to-pick true k f = refl
sum_to-pick false k f = sym (sum_to-zero k (λ b. 0) (λ i p q. refl))

-- no part falls, and part b grows by c or more
pub sum_to-gain-by : (k : ℕ) (f g : ℕ → ℕ) (b c : ℕ) → 0 < b → b ≤ k → ((i : ℕ) → 0 < i → i ≤ k → f i ≤ g i) → f b + c ≤ g b
    → sum_to k f + c ≤ sum_to k g
unfolding sum_to
sum_to-gain-by zero f g b c p q h e = absurd (omega arith)
sum_to-gain-by (suc k) f g b c p q h e =
    elim (ℕ_discrete b (suc k)) [
      | yes z ↦
          let r = sum_to-mono k f g (λ i p q. h i p (omega arith)) in
          let w : f (suc k) + c ≤ g (suc k) = rw z at e in
          omega arith
      | no ne ↦
          let r = sum_to-gain-by k f g b c p (omega arith) (λ i p q. h i p (omega arith)) e in
          omega (arith, h (suc k) (omega arith) (le_refl (suc k)))
    ]

-- ---- max_to

-- the greater of a and x, by which is greater
pub most-up : (a x : ℕ) → a < x → most a x ≡ x
unfolding most
most-up a x h = rw (lt-ltb a x h)

pub most-stay : (a x : ℕ) → x ≤ a → most a x ≡ a
unfolding most
most-stay a x h = rw (le-ltb a x h)

pub max_to-ext : (k : ℕ) (f g : ℕ → ℕ) → ((i : ℕ) → 0 < i → i ≤ k → f i ≡ g i) → max_to k f ≡ max_to k g
unfolding max_to
max_to-ext zero f g h = refl
max_to-ext (suc k) f g h =
    rw (max_to-ext k f g (λ i l u. h i l (omega arith)), h (suc k) (omega arith) (le_refl (suc k)))
