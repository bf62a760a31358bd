-- The lifts of a trial: at most m(2m+1) + n(2m+2) (source document 000, Lemma 3.1). Each is paid for by a height that grows.
use Prim.Native.Nat.{ℕ, suc, ◌+◌, ◌*◌, ◌≤◌, min}
use native.Mathlib.Nat.{le_step, le_trans}
use native.Mathlib.Omega.{arith}
use Rattle.rules.specs.Fold.{at, put, sum_to}
use Rattle.rules.specs.Instance.{Instance, n}
use Rattle.rules.specs.Trial.{Limits, State, Act, act, after, lift_bound}
use Rattle.theory.proofs.Fold.{at-put-same, sum_to-gain, sum_to-bound}
use Rattle.theory.proofs.Step.{Step, step}
use Rattle.theory.proofs.Heights.{Shape, unplaced-eq, at-put-up}
use Rattle.theory.proofs.Caps.{Caps, lifted-low}

-- each machine's height up to 2m + 1 and each job's up to 2m + 2
pub climbed : Instance → State → ℕ
climbed I s =
    sum_to I.m (λ i. min (at s.machine_heights i) (2 * I.m + 1)) + sum_to (n I) (λ b. min (at s.job_heights b) (2 * I.m + 2))

climbed-le : (I : Instance) (s : State) → climbed I s ≤ lift_bound I
unfolding climbed lift_bound
climbed-le I s =
    omega (
      arith,
      sum_to-bound I.m (λ i. min (at s.machine_heights i) (2 * I.m + 1)) (2 * I.m + 1) (λ i p q. omega arith),
      sum_to-bound (n I) (λ b. min (at s.job_heights b) (2 * I.m + 2)) (2 * I.m + 2) (λ b p q. omega arith),
    )

paid : {I : Instance} {a : Limits} {s : State} {x : Act} → Step I a s x → Shape I s → Caps I s → s.lifts ≤ climbed I s → (after s x).lifts ≤ climbed I (after s x)
unfolding climbed
paid (Step.no_underloaded t) v c r = r
paid (Step.stuck _ y z) v c r = r
paid (Step.job_push b i lb li u e h) v c r = r
paid {I} {a} {s} (Step.job_lift b i lb li u e h y) v c r =
    let z = unplaced-eq s (suc b) u in
    let t = lifted-low (suc i) (c.waits (suc b) (omega arith) lb z) z h y in
    let w = at-put-same s.job_heights (suc b) (suc (at s.machine_heights (suc i))) (omega arith) (omega (arith, v.heights)) in
    let g = sum_to-gain (n I) (λ b. min (at s.job_heights b) (2 * I.m + 2))
    (λ d. min (at (put s.job_heights (suc b) (suc (at s.machine_heights (suc i)))) d) (2 * I.m + 2))
    (suc b) (omega arith) lb
    (λ d p q. omega (arith, at-put-up s.job_heights (suc b) (suc (at s.machine_heights (suc i))) d (le_step h)))
    (omega arith) in
    omega arith
paid (Step.machine_push _ f i b li lb u o e h) v c r = r
paid {I} {a} {s} (Step.machine_lift f i b li lb u o e h y) v c r =
    let w = at-put-same s.machine_heights (suc i) (suc (at s.job_heights (suc b))) (omega arith) (omega (arith, v.machines)) in
    let g = sum_to-gain I.m (λ b. min (at s.machine_heights b) (2 * I.m + 1))
    (λ d. min (at (put s.machine_heights (suc i) (suc (at s.job_heights (suc b)))) d) (2 * I.m + 1))
    (suc i) (omega arith) li
    (λ d p q. omega (arith, at-put-up s.machine_heights (suc i) (suc (at s.job_heights (suc b))) d (le_step h)))
    (omega arith) in
    omega arith

pub lifts-step : (I : Instance) (a : Limits) (s : State) → Shape I s → Caps I s → s.lifts ≤ climbed I s
    → (after s (act I a s)).lifts ≤ climbed I (after s (act I a s))
lifts-step I a s v c r = paid (step I a s) v c r

pub lifts-bound : (I : Instance) (s : State) → s.lifts ≤ climbed I s → s.lifts ≤ lift_bound I
lifts-bound I s r = le_trans r (climbed-le I s)
