-- A trial whose steps are bounded comes to rest within the bound, and keeps what each step keeps.
use Prim.Native.Nat.{ℕ, zero, suc, ◌+◌, ◌≤◌}
use mathlib.Core.Path.{◌≡◌, refl}
use native.Mathlib.Omega.{arith}
use Rattle.rules.specs.Instance.{Instance}
use Rattle.rules.specs.Trial.{Limits, State, Act, rest, by_job, by_machine, act, after, steps_by}
use Rattle.theory.proofs.Step.{Step, step}

-- the steps made
abbrev pub made : State → ℕ
made s = s.lifts + s.pushes

abbrev pub Acting : Act → Type 0
Acting rest = ⊥
Acting (by_job b d) = Unit {0}
Acting (by_machine i d) = Unit {0}

one_more : {I : Instance} {a : Limits} {s : State} {x : Act} → Step I a s x → Acting x → made (after s x) ≡ suc (made s)
one_more (Step.no_underloaded t) c = absurd c
one_more (Step.stuck _ y z) c = absurd c
one_more (Step.job_push _ _ _ _ _ _ _) c = omega arith
one_more (Step.job_lift _ _ _ _ _ _ _ _) c = omega arith
one_more (Step.machine_push _ _ _ _ _ _ _ _ _ _) c = omega arith
one_more (Step.machine_lift _ _ _ _ _ _ _ _ _ _) c = omega arith

-- a step that is not a rest counts one
pub adds_one : (I : Instance) (a : Limits) (s : State) (x : Act) → act I a s ≡ x → Acting x → made (after s x) ≡ suc (made s)
adds_one I a s x e c = rw e at (one_more (step I a s) (rw (← e) at c))

module _ (I : Instance) (a : Limits) (Inv : State → Type 0) (keep : (s : State) → Inv s → Inv (after s (act I a s))) where
  -- what each step keeps, the run keeps
  kept : (f : ℕ) (s : State) → Inv s → (x : Act) → act I a s ≡ x → Inv (steps_by I a f s x)
  unfolding steps_by
  kept zero s i x e = i
  kept (suc f) s i rest e = i
  kept (suc f) s i (by_job b d) e = kept f _ (rw e at (keep s i)) _ refl
  kept (suc f) s i (by_machine b d) e = kept f _ (rw e at (keep s i)) _ refl

  pub run-keeps : (f : ℕ) (s : State) → Inv s → Inv (steps_by I a f s (act I a s))
  run-keeps f s i = kept f s i (act I a s) refl

  module _ (most : ℕ) (within : (s : State) → Inv s → made s ≤ most) where
    resting : (f : ℕ) (s : State) → Inv s → most ≤ made s + f → (x : Act) → act I a s ≡ x → act I a (steps_by I a f s x) ≡ rest
    unfolding steps_by
    resting zero s i h rest e = e
    resting zero s i h (by_job b d) e = absurd (omega (arith, adds_one I a s _ e tt, within _ (rw e at (keep s i))))
    resting zero s i h (by_machine b d) e = absurd (omega (arith, adds_one I a s _ e tt, within _ (rw e at (keep s i))))
    resting (suc f) s i h rest e = e
    resting (suc f) s i h (by_job b d) e = resting f _ (rw e at (keep s i)) (omega (arith, adds_one I a s _ e tt)) _ refl
    resting (suc f) s i h (by_machine b d) e = resting f _ (rw e at (keep s i)) (omega (arith, adds_one I a s _ e tt)) _ refl

    -- with as many steps as the bound, the run ends where nothing acts
    pub run-rests : (s : State) → Inv s → made s ≡ 0 → act I a (steps_by I a most s (act I a s)) ≡ rest
    run-rests s i z = resting most s i (omega arith) (act I a s) refl

-- at rest no step is made, however many may be
pub stays : (I : Instance) (a : Limits) (f : ℕ) (s : State) → steps_by I a f s rest ≡ s
unfolding steps_by
stays I a zero s = refl
stays I a (suc f) s = refl
