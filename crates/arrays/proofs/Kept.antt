-- Loads kept beside an assignment, where one job leaves its machine or joins one.
use Prim.Native.Nat.{ℕ, ◌+◌, ◌-◌, ◌≤◌, ◌<◌}
use mathlib.Core.Path.{◌≡◌, sym, ◌∙◌}
use mathlib.Core.List.{List}
use native.Mathlib.Omega.{arith}
use native.Mathlib.Decide.{ℕ_discrete}
use lib.ListN.{length}
use Rattle.rules.specs.Fold.{at, put}
use Rattle.rules.specs.Instance.{Instance, Assignment, n, minutes_of}
use Rattle.theory.proofs.Fold.{at-put-same, at-put-other}
use Rattle.theory.proofs.Move.{load-left, load-joined, load-other}
use Rattle.arrays.specs.Reads.{Kept}

module _ (I : Instance) (x : Assignment) (loads : List ℕ) (b : ℕ) (size : length x ≡ n I) (p : 0 < b) (q : b ≤ n I) (long : I.m ≤ length loads)
    (k : Kept I x loads) (w : ℕ) (e : w ≡ minutes_of I b) where
  -- it leaves machine i
  module _ (i : ℕ) (on : at x b ≡ i) (i0 : 0 < i) (im : i ≤ I.m) where
    pub left-enough : w ≤ at loads i
    left-enough = omega (arith, k i i0 im, rw on at (load-left I x b 0 size p q (λ z. omega arith)), e)

    pub kept_off : Kept I (put x b 0) (put loads i (at loads i - w))
    kept_off j j0 jm =
        elim (ℕ_discrete j i) [
          | yes z ↦
              rw (z, at-put-same loads i (at loads i - w) i0 (omega arith))
              (omega (arith, k i i0 im, rw on at (load-left I x b 0 size p q (λ z. omega arith)), e))
          | no ne ↦
              at-put-other loads i j _ ne ∙ k j j0 jm
              ∙ sym (load-other I x b 0 size p q j (λ z. ne (z ∙ on)) (λ z. omega arith))
        ]

  -- it had no machine, and joins machine i
  pub kept_on : (i : ℕ) → at x b ≡ 0 → 0 < i → i ≤ I.m → Kept I (put x b i) (put loads i (at loads i + w))
  kept_on i off i0 im j j0 jm =
      elim (ℕ_discrete j i) [
        | yes z ↦
            rw (z, at-put-same loads i (at loads i + w) i0 (omega arith), k i i0 im, e)
            (sym (load-joined I x b i size p q (λ y. omega arith)))
        | no ne ↦
            at-put-other loads i j _ ne ∙ k j j0 jm
            ∙ sym (load-other I x b i size p q j (λ y. omega arith) ne)
      ]
