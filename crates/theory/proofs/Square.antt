-- A job that moves to a machine where it finishes earlier lowers the sum of the two squared loads by 2 or more; and sums
-- that differ in two parts.
use Prim.Native.Nat.{ℕ, ◌+◌, ◌*◌, ◌-◌, ◌≤◌, ◌<◌}
use mathlib.Core.Path.{◌≡◌, refl, sym}
use mathlib.Core.Logic.{◌≢◌}
use native.Mathlib.Nat.{one-le-mul}
use native.Mathlib.Omega.{arith}
use lib.Dec.{eqb}
use borrow.Author.Tests.{eq-eqb, ne_eqb, eqb-false}
use Rattle.rules.specs.Fold.{pick, sum_to}
use Rattle.theory.proofs.Logic.{by_test}
use Rattle.theory.proofs.Fold.{sum_to-one}

square-drop : (l t d : ℕ) → 0 < t → 0 < d → (l + d) * (l + d) + (l + t) * (l + t) + 2 ≤ (l + t + d) * (l + t + d) + l * l
square-drop l t d p q = omega (arith, one-le-mul p q)

-- a job of t minutes leaves load a, which becomes c, and joins load z, which becomes d
pub move-drop : (a z t c d : ℕ) → 0 < t → z + t < a → c + t ≡ a → d ≡ z + t → c * c + d * d + 2 ≤ a * a + z * z
move-drop a z t c d p h ec ed =
    let k : ℕ = a - (z + t) in
    let e : z + t + k ≡ a = omega arith in
    let f : z + k ≡ c = omega arith in
    rw (← e) (rw (← f) (rw ed (square-drop z t k p (omega arith))))

-- two functions that differ at a and b alone
pub sum_to-two : (k : ℕ) (f g : ℕ → ℕ) (a b : ℕ) → 0 < a → a ≤ k → 0 < b → b ≤ k → a ≢ b
    → ((i : ℕ) → i ≢ a → i ≢ b → f i ≡ g i) → sum_to k f + (g a + g b) ≡ sum_to k g + (f a + f b)
sum_to-two k f g a b la ua lb ub ne h =
    let r = sum_to-one k f mix a la ua (λ i n. rw (ne_eqb i a n)) in
    let s = sum_to-one k mix g b lb ub (λ i n. by_test (eqb i a) (λ t. rw t) (λ t. rw t (h i (eqb-false i a t) n))) in
    let ma : mix a ≡ g a = rw (eq-eqb a a refl) in
    let mb : mix b ≡ f b = rw (ne_eqb b a (λ e. ne (sym e))) in
    omega arith
  where
    mix : ℕ → ℕ
    mix i = pick (eqb i a) (g i) (f i)
