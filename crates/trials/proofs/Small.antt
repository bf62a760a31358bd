-- Numbers in a trial stay small.
use Prim.Native.Nat.{ℕ, ◌+◌, ◌≤◌, ◌<◌}
use mathlib.Core.List.{List}
use native.Mathlib.Omega.{arith}
use Rattle.rules.specs.Fold.{at}
use Rattle.rules.specs.Instance.{Instance, Assignment, n}
use Rattle.theory.proofs.Small.{load-small, lifts-small, pushes-small}
use Rattle.theory.proofs.Ending.{Counted, made-bound}
use Rattle.arrays.specs.declared.Jobs.{Jobs}
use Rattle.arrays.specs.Jobs.{Says}
use Rattle.arrays.specs.Reads.{Kept}
use Rattle.arrays.proofs.Take.{at_take}
use Rattle.trials.specs.declared.State.{State}
use Rattle.trials.specs.Track.{state_of}

module _ {I : Instance} (j : Jobs) (r : Says I j) where
  pub loads-small : (x : Assignment) (loads : List ℕ) → Kept I x loads → (i : ℕ) → 0 < i → i ≤ j.m → at loads i ≤ 322560
  loads-small x loads k i p q = let l : i ≤ I.m = omega (arith, r.machines) in omega (arith, k i p l, load-small r.small x i)

  module _ (t : State) (k : Counted I (state_of I t)) where
    pub few-steps : t.lifts + t.pushes ≤ 549976
    few-steps = omega (arith, made-bound I (state_of I t) k, lifts-small r.small, pushes-small r.small)

    pub machine-low : (i : ℕ) → i ≤ j.m → at t.machines i ≤ 50
    machine-low i h =
        let l : i ≤ I.m = omega (arith, r.machines) in
        omega (arith, k.caps.machine_cap i, at_take I.m t.machines i l, r.machines, r.few)

    pub job-low : (b : ℕ) → b ≤ j.n → at t.jobs b ≤ 51
    job-low b h =
        let l : b ≤ n I = omega (arith, r.jobs) in
        omega (arith, k.caps.job_cap b, at_take (n I) t.jobs b l, r.machines, r.few)
