-- Heights in a closure fall by at most 2 each round, so around a machine of height above 2m every machine is lifted.
use Prim.Native.Nat.{ℕ, zero, suc, ◌+◌, ◌*◌, ◌≤◌, ◌<◌}
use mathlib.Core.Path.{◌≡◌, refl}
use mathlib.Core.Bool.{true}
use mathlib.Core.List.{List}
use native.Mathlib.Omega.{arith}
use lib.Dec.{eqb}
use Rattle.rules.specs.Fold.{at, mem, those_to}
use Rattle.rules.specs.Instance.{Instance}
use Rattle.rules.specs.Trial.{State}
use Rattle.rules.specs.Group.{reach, reach_by, closure}
use Rattle.theory.proofs.Those.{those-range}
use Rattle.theory.proofs.Heights.{Shape}
use Rattle.theory.proofs.Closure.{group-range, reach-group, Came, before, by, came, seed-only}

module _ (I : Instance) (s : State) (v : Shape I s) (h : ℕ) where
  -- each machine of g is at most c below h
  abbrev Near : ℕ → List ℕ → Type 0
  Near c g = (i : ℕ) → mem i g ≡ true → (0 < i) × (i ≤ I.m) × (h ≤ at s.machine_heights i + c)

  near-reach : (c : ℕ) (g : List ℕ) → Near c g → Near (c + 2) (reach I s.assignment g)
  near-reach c g k i e =
      let w = group-range (reach-group I s.assignment g) i e in
      (w.0, w.1, from w.0 w.1 (came I s.assignment g i e))
    where
      from : 0 < i → i ≤ I.m → Came I s.assignment g i → h ≤ at s.machine_heights i + (c + 2)
      from l u (before t) = omega (arith, k i t)
      from l u (by b p q t w) =
          let z = k (at s.assignment b) t in
          omega (arith, z, v.machine_low b (at s.assignment b) z.0 refl, v.job_low b i l u w)

  near-reach_by : (t c : ℕ) (g : List ℕ) → Near c g → Near (c + 2 * t) (reach_by I s.assignment t g)
  unfolding reach_by
  near-reach_by zero c g k i e = let r = k i e in (r.0, r.1, omega (arith, r.2))
  near-reach_by (suc t) c g k i e =
      let r = near-reach_by t (c + 2) (reach I s.assignment g) (near-reach c g k) i e in
      (r.0, r.1, omega (arith, r.2))

-- every machine in the closure of one above 2m was lifted
pub closure-tall : (I : Instance) (s : State) → Shape I s → (i : ℕ) → 0 < i → i ≤ I.m → 2 * I.m < at s.machine_heights i
    → (j : ℕ) → mem j (closure I s.assignment i) ≡ true → 0 < at s.machine_heights j
unfolding closure
closure-tall I s v i i0 im h j e =
    omega (arith, (near-reach_by I s v (2 * I.m + 1) I.m 0 (those_to I.m (λ k. eqb k i)) seed j e).2)
  where
    seed : (k : ℕ) → mem k (those_to I.m (λ k. eqb k i)) ≡ true
        → (0 < k) × (k ≤ I.m) × (2 * I.m + 1 ≤ at s.machine_heights k + 0)
    seed k t =
        let w = those-range I.m _ k t in
        (w.0, w.1, rw (seed-only I s.assignment i i0 im k t) (omega arith))
