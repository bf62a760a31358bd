-- What the searches over loads and limits find is what the rules say of the machines.
use Prim.Native.Nat.{ℕ, ◌*◌, ◌≤◌, ◌<◌}
use mathlib.Core.Path.{◌≡◌, sym, ap, ◌∙◌}
use mathlib.Core.List.{List}
use native.Mathlib.Omega.{arith}
use lib.ListN.{take}
use lib.Dec.{leb, ltb}
use Rattle.rules.specs.Fold.{◌and◌, at, first_to, any_to}
use Rattle.rules.specs.Instance.{Instance, n}
use Rattle.rules.specs.Trial.{Limits, some_underloaded, underloaded, overloaded}
use Rattle.theory.proofs.Agree.{first-ext, any-ext}
use Rattle.theory.proofs.Acting.{able}
use Rattle.arrays.specs.declared.Jobs.{Jobs}
use Rattle.arrays.specs.Jobs.{Says}
use Rattle.arrays.specs.Reads.{Kept}
use Rattle.arrays.proofs.Take.{at_take}
use Rattle.trials.specs.declared.State.{State}
use Rattle.trials.specs.Track.{state_of}

module _ {I : Instance} {a : Limits} (j : Jobs) (reads : Says I j) (lows highs : List ℕ)
    (low : (i : ℕ) → 0 < i → i ≤ j.m → at lows i ≡ a.low i) (high : (i : ℕ) → 0 < i → i ≤ j.m → at highs i ≡ a.high i) (t : State) (k : Kept I (take (n I) t.placement.places) t.placement.loads) where
  in-bank : (i : ℕ) → i ≤ I.m → i ≤ j.m
  in-bank i h = omega (arith, reads.machines)

  pub some_is : any_to j.m (λ i. leb (at t.placement.loads i) (at lows i)) ≡ some_underloaded I a (state_of I t)
  unfolding some_underloaded underloaded
  some_is =
      ap (λ (q : ℕ). any_to q (λ i. leb (at t.placement.loads i) (at lows i))) (sym reads.machines)
      ∙ any-ext I.m _ _ (λ i p h. rw (k i p h, low i p (in-bank i h)))

  over-is : (i : ℕ) → 0 < i → i ≤ I.m → ltb (at highs i) (at t.placement.loads i) ≡ overloaded I a (state_of I t) i
  unfolding overloaded
  over-is i p h = rw (k i p h, high i p (in-bank i h))

  pub first-overloaded : first_to j.m (λ i. ltb (at highs i) (at t.placement.loads i)) ≡ first_to I.m (λ i. overloaded I a (state_of I t) i)
  first-overloaded =
      ap (λ (q : ℕ). first_to q (λ i. ltb (at highs i) (at t.placement.loads i))) (sym reads.machines)
      ∙ first-ext I.m _ _ over-is

  pub first-able : first_to j.m (λ i. ltb (at highs i) (at t.placement.loads i) and leb (at t.machines i) (2 * j.m)) ≡ first_to I.m (λ i. able I a (state_of I t) i)
  unfolding able
  first-able =
      ap (λ (q : ℕ). first_to q (λ i. ltb (at highs i) (at t.placement.loads i) and leb (at t.machines i) (2 * j.m))) (sym reads.machines)
      ∙ first-ext I.m _ _ (λ i p h.
      rw (over-is i p h, at_take I.m t.machines i h, ap (λ (q : ℕ). 2 * q) (sym reads.machines)))
