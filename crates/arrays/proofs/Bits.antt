-- The digits of a word, as tests: those of a disjunction and of a power.
use Prim.Native.Nat.{ℕ, zero, suc, ◌/◌, ◌%◌, ◌^◌, ◌<◌, max}
use mathlib.Core.Path.{◌≡◌, refl, sym, ap, ◌∙◌}
use mathlib.Core.Bool.{Bool, false}
use native.Mathlib.Nat.{mod-lt, pow-suc, div-one, zero-lt-suc}
use native.Mathlib.Numerals.{one-add}
use native.Mathlib.Omega.{arith}
use lib.Arith.{digits_div, digits_mod}
use lib.Bits.{bit_or, or_step}
use lib.Pow.{shr-shr}
use lib.Dec.{eqb, eqb-suc-suc}
use borrow.Author.Tests.{eqb-false, ne_eqb}
use Rattle.rules.specs.Fold.{◌or◌}

-- digit k of x, from 0, is set
unfoldable pub bit : ℕ → ℕ → Bool
bit x zero = eqb (x % 2) 1
bit x (suc k) = bit (x / 2) k

pub bit-shift : (x k : ℕ) → eqb (x / 2 ^ k % 2) 1 ≡ bit x k
unfolding bit
bit-shift x zero = rw (div-one x)
bit-shift x (suc k) = rw (← one-add k, ← shr-shr x 1 k) (bit-shift (x / 2) k)

-- ---- a disjunction, digit by digit

or-digit : (x y : ℕ) → x < 2 → y < 2 → (max x y < 2) × (eqb (max x y) 1 ≡ eqb x 1 or eqb y 1)
unfolding ◌or◌
or-digit zero zero p q = (omega arith, refl)
or-digit zero (suc zero) p q = (omega arith, refl)
or-digit (suc zero) zero p q = (omega arith, refl)
or-digit (suc zero) (suc zero) p q = (omega arith, refl)
or-digit zero (suc (suc y)) p q = absurd (omega arith)
or-digit (suc zero) (suc (suc y)) p q = absurd (omega arith)
or-digit (suc (suc x)) y p q = absurd (omega arith)

low : (a b : ℕ) → (max (a % 2) (b % 2) < 2) × (eqb (max (a % 2) (b % 2)) 1 ≡ eqb (a % 2) 1 or eqb (b % 2) 1)
low a b = or-digit (a % 2) (b % 2) (mod-lt a (zero-lt-suc 1)) (mod-lt b (zero-lt-suc 1))

pub bit-or : (a b k : ℕ) → bit (bit_or a b) k ≡ bit a k or bit b k
unfolding bit
bit-or a b zero = ap (λ (x : ℕ). eqb (x % 2) 1) (or_step a b) ∙ ap (λ (x : ℕ). eqb x 1) (digits_mod _ (low a b).0) ∙ (low a b).1
bit-or a b (suc k) =
    ap (λ (x : ℕ). bit x k) (ap (λ (x : ℕ). x / 2) (or_step a b) ∙ digits_div _ (low a b).0)
    ∙ bit-or (a / 2) (b / 2) k

-- ---- zero and a power

pub bit-zero : (k : ℕ) → bit 0 k ≡ false
unfolding bit
bit-zero zero = refl
bit-zero (suc k) = bit-zero k

pub bit-power : (i k : ℕ) → bit (2 ^ i) k ≡ eqb k i
unfolding bit
bit-power zero zero = refl
bit-power zero (suc k) = bit-zero k ∙ sym (ne_eqb (suc k) 0 (λ e. omega arith))
bit-power (suc i) zero =
    let p = pow-suc 2 i in
    ne_eqb (2 ^ suc i % 2) 1 (λ e. omega arith) ∙ sym (ne_eqb 0 (suc i) (λ e. omega arith))
bit-power (suc i) (suc k) =
    let p = pow-suc 2 i in
    let e : 2 ^ suc i / 2 ≡ 2 ^ i = omega arith in
    ap (λ (x : ℕ). bit x k) e ∙ bit-power i k ∙ sym (eqb-suc-suc k i)

-- ---- a word without a digit that is set

pub bits_none : (w x : ℕ) → x < 2 ^ w → ((k : ℕ) → k < w → bit x k ≡ false) → x ≡ 0
unfolding bit
bits_none zero x h n = omega arith
bits_none (suc w) x h n =
    let p = pow-suc 2 w in
    let r = bits_none w (x / 2) (omega arith) (λ k l. n (suc k) (omega arith)) in
    let z = eqb-false (x % 2) 1 (n 0 (omega arith)) in
    omega arith
