-- The set that a row of flags spells, one machine after another.
use Prim.Native.Nat.{ℕ, suc, ◌≤◌, ◌<◌}
use mathlib.Core.Path.{◌≡◌, sym, ◌∙◌}
use mathlib.Core.Bool.{Bool, true, false}
use mathlib.Core.Logic.{◌≢◌}
use native.Mathlib.Omega.{arith}
use native.Mathlib.Decide.{ℕ_discrete}
use lib.Dec.{eqb, leb}
use borrow.Author.Tests.{eq-eqb, ne_eqb, le-leb, lt-leb, leb-true, leb-false}
use Rattle.rules.specs.Fold.{◌and◌, ◌or◌}
use Rattle.theory.proofs.Logic.{by_test, or-skip, or_left, and-no-left, and-no-right}
use Rattle.arrays.specs.Sets.{has, SetOf}
use Rattle.arrays.proofs.Words.{set-none}

-- a set by one test is the set by any that agrees
pub set_same : {p : ℕ → Bool} (q : ℕ → Bool) {x : ℕ} → ((i : ℕ) → 0 < i → i ≤ 24 → p i ≡ q i) → SetOf p x → SetOf q x
set_same q h s = record { small = s.small; each = λ i l u. s.each i l u ∙ h i l u }

leb-other : (k j : ℕ) → k ≢ suc j → leb k (suc j) ≡ leb k j
leb-other k j n =
    by_test (leb k j)
    (λ t. let l = leb-true k j t in le-leb k (suc j) (omega arith) ∙ sym t)
    (λ t. let l = leb-false k j t in lt-leb k (suc j) (omega arith) ∙ sym t)

-- those of the first j that pass
module _ (q : ℕ → Bool) where
  pub mask-none : SetOf (λ k. leb k 0 and q k) 0
  mask-none = set_same (λ k. leb k 0 and q k) (λ k l u. sym (and-no-left (leb k 0) (q k) (lt-leb k 0 l))) set-none

  module _ (j x : ℕ) (s : SetOf (λ k. leb k j and q k) x) where
    other : (k : ℕ) → k ≢ suc j → leb k j and q k ≡ leb k (suc j) and q k
    other k n = rw (leb-other k j n)

    pub mask-add : {r : ℕ} → q (suc j) ≡ true → SetOf (λ k. eqb k (suc j) or has x k) r → SetOf (λ k. leb k (suc j) and q k) r
    unfolding ◌and◌
    mask-add e w =
        set_same (λ k. leb k (suc j) and q k)
        (λ k l u. elim (ℕ_discrete k (suc j)) [
          | yes z ↦
              or_left (eqb k (suc j)) (has x k) (eq-eqb k (suc j) z)
              ∙ sym (rw (le-leb k (suc j) (omega arith), z) e)
          | no n ↦ or-skip (has x k) (ne_eqb k (suc j) n) ∙ s.each k l u ∙ other k n
        ])
        w

    pub mask-skip : q (suc j) ≡ false → SetOf (λ k. leb k (suc j) and q k) x
    mask-skip e =
        set_same (λ k. leb k (suc j) and q k)
        (λ k l u. elim (ℕ_discrete k (suc j)) [
          | yes z ↦ rw z (and-no-right (leb (suc j) j) (q (suc j)) e ∙ sym (and-no-right (leb (suc j) (suc j)) (q (suc j)) e))
          | no n ↦ other k n
        ])
        s
