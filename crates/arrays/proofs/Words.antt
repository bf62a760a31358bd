-- Laws of the sets of machines: what the operations on words make of them.
use Prim.Native.Nat.{ℕ, suc, ◌-◌, ◌*◌, ◌%◌, ◌^◌, ◌≤◌, ◌<◌}
use mathlib.Core.Path.{◌≡◌, sym, ap, ap₂, ◌∙◌}
use mathlib.Core.Bool.{Bool, false}
use native.Mathlib.Nat.{mod-eq_of_lt, one-mul}
use native.Mathlib.Omega.{arith}
use lib.Bits.{bit_or, or_lt}
use lib.Pow.{pow-lt}
use lib.Dec.{eqb}
use borrow.Author.Tests.{eqb-true, eqb-false, eq-eqb, ne_eqb}
use Rattle.rules.specs.Fold.{◌or◌}
use Rattle.theory.proofs.Logic.{by_test}
use Rattle.theory.proofs.View.{None}
use Rattle.arrays.specs.Sets.{has, SetOf}
use Rattle.arrays.proofs.Bits.{bit, bit-shift, bit-or, bit-zero, bit-power, bits_none}

pub has-bit : (x i : ℕ) → has x i ≡ bit x (i - 1)
unfolding has
has-bit x i = bit-shift x (i - 1)

pub has-suc : (x k : ℕ) → has x (suc k) ≡ bit x k
has-suc x k = has-bit x (suc k) ∙ (let e : suc k - 1 ≡ k = omega arith in rw e)

-- ---- the operations

pub has-or : (x y i : ℕ) → has (bit_or x y) i ≡ has x i or has y i
has-or x y i = has-bit (bit_or x y) i ∙ bit-or x y (i - 1) ∙ ap₂ ◌or◌ (sym (has-bit x i)) (sym (has-bit y i))

pub set-none : SetOf (λ i. false) 0
set-none = record { small = omega arith; each = λ i l u. has-bit 0 i ∙ bit-zero (i - 1) }

module _ (i : ℕ) (l : 0 < i) (u : i ≤ 24) where
  -- the set of machine i alone, as the shift leaves it
  pub only-small : 2 ^ (i - 1) < 2 ^ 24
  only-small = pow-lt {i = i - 1} {j = 24} (omega arith)

  pub only-word : 1 * 2 ^ (i - 1) % 4294967296 ≡ 2 ^ (i - 1)
  only-word = rw (one-mul (2 ^ (i - 1))) (mod-eq_of_lt (omega (arith, only-small)))

  same_index : (j : ℕ) → 0 < j → eqb (j - 1) (i - 1) ≡ eqb j i
  same_index j p =
      by_test (eqb j i)
      (λ t. let e = eqb-true j i t in eq-eqb (j - 1) (i - 1) (omega arith) ∙ sym t)
      (λ t. let n = eqb-false j i t in ne_eqb (j - 1) (i - 1) (λ e. n (omega arith)) ∙ sym t)

  has-only : (j : ℕ) → 0 < j → has (2 ^ (i - 1)) j ≡ eqb j i
  has-only j p = has-bit (2 ^ (i - 1)) j ∙ bit-power (i - 1) (j - 1) ∙ same_index j p

  pub set-with : (x : ℕ) → x < 2 ^ 24 → SetOf (λ j. eqb j i or has x j) (bit_or (1 * 2 ^ (i - 1) % 4294967296) x)
  set-with x h = rw only-word record {
    small = or_lt 24 (2 ^ (i - 1)) x only-small h;
    each = λ j p q. has-or (2 ^ (i - 1)) x j ∙ ap (λ (t : Bool). t or has x j) (has-only j p);
  }

-- ---- the empty set

pub set-zero : (x : ℕ) → x ≡ 0 → (i : ℕ) → has x i ≡ false
set-zero x e i = rw e (has-bit 0 i ∙ bit-zero (i - 1))

pub empty-zero : (x : ℕ) → x < 2 ^ 24 → None 24 (λ i. has x i) → x ≡ 0
empty-zero x h n = bits_none 24 x h (λ k l. sym (has-suc x k) ∙ n (suc k) (omega arith) l)
