-- Where nothing is overloaded at the start, a trial makes no step. So no pass ends later than the standing assignment.
use Prim.Native.Nat.{ℕ, suc, ◌+◌, ◌≤◌, ◌<◌}
use mathlib.Core.Path.{◌≡◌, refl}
use native.Mathlib.Nat.{le_refl}
use native.Mathlib.Omega.{arith}
use native.Mathlib.Decide.{dec_le}
use Rattle.rules.specs.Instance.{Instance, Assignment}
use Rattle.rules.specs.Load.{load, longest, makespan}
use Rattle.rules.specs.Trial.{Limits, at_level, State, Act, rest, act, start, ended, ended_by, steps_by}
use Rattle.theory.proofs.Valid.{Valid, Permitted, on-machine}
use Rattle.theory.proofs.Makespan.{makespan-ge, makespan-le}
use Rattle.theory.proofs.Step.{Step, step}
use Rattle.theory.proofs.Heights.{unplaced-eq}
use Rattle.theory.proofs.Steps.{stays}
use Rattle.theory.proofs.Underloaded.{overloaded-gt}
use Rattle.theory.proofs.Trial.{Passes}

module _ (I : Instance) (x : Assignment) (v : Valid I) (w : Permitted I x) where
  module _ (a : Limits) (calm : (i : ℕ) → 0 < i → i ≤ I.m → load I x i ≤ a.high i) where
    quiet : {d : Act} → Step I a (start I x) d → d ≡ rest
    quiet (Step.no_underloaded t) = refl
    quiet (Step.stuck t y z) = refl
    quiet (Step.job_push b i lb li u e h) = absurd (omega (arith, unplaced-eq (start I x) (suc b) u, (on-machine v w (suc b) (omega arith) lb).0))
    quiet (Step.job_lift b i lb li u e h y) = absurd (omega (arith, unplaced-eq (start I x) (suc b) u, (on-machine v w (suc b) (omega arith) lb).0))
    quiet (Step.machine_push t f i b li lb u o e h) = absurd (omega (arith, overloaded-gt I a (start I x) (suc i) u, calm (suc i) (omega arith) li))
    quiet (Step.machine_lift f i b li lb u o e h y) = absurd (omega (arith, overloaded-gt I a (start I x) (suc i) u, calm (suc i) (omega arith) li))

    still : (f : ℕ) (s : State) (d : Act) → d ≡ rest → steps_by I a f s d ≡ s
    still f s d e = rw e (stays I a f s)

    -- nothing is overloaded: the trial ends where it starts
    pub quiet-end : ended_by I x a ≡ start I x
    unfolding ended_by
    quiet-end = still _ (start I x) (act I a (start I x)) (quiet (step I a (start I x)))

  -- ---- at a level

  module _ (a : ℕ) (calm : (i : ℕ) → 0 < i → i ≤ I.m → load I x i ≤ a + longest I) where
    level-end : ended I x a ≡ start I x
    unfolding at_level
    level-end = quiet-end (at_level I a) calm

  -- a pass never ends later than the standing assignment
  pub pass-no-later : (a : ℕ) → Passes I x v w a (ended I x a) → makespan I (ended I x a).assignment ≤ makespan I x
  pass-no-later a p =
      elim (dec_le (makespan I x) (a + longest I)) [
        | yes h ↦ rw (level-end a (λ i i0 im. omega (arith, makespan-ge I x i i0 im))) (le_refl _)
        | no h ↦ makespan-le I (ended I x a).assignment (makespan I x) (λ i i0 im. omega (arith, p.loads i i0 im))
      ]
