-- Heights stay small: a machine's at most 2m + 2, a job's at most 2m + 3, and a job that waits for a machine is low or can be
-- pushed at once.
use Prim.Native.Nat.{ℕ, suc, ◌+◌, ◌*◌, ◌≤◌, ◌<◌}
use mathlib.Core.Path.{◌≡◌, refl, sym, ◌∙◌}
use mathlib.Core.Bool.{true}
use native.Mathlib.Omega.{arith}
use Rattle.rules.specs.Fold.{at}
use Rattle.rules.specs.Instance.{Instance, Assignment, n, eligible}
use Rattle.rules.specs.Trial.{Limits, State, Act, lift, by_machine, act, after, start, job_arc}
use Rattle.theory.proofs.Logic.{conflict}
use Rattle.theory.proofs.Step.{Step, step, job-can}
use Rattle.theory.proofs.Heights.{Shape, machine_arc-eq, job_arc-mk, job_arc-eligible, unplaced-mk, put-cases, at-zeros}

-- a job that waits: low, or with an arc's end just below it
pub data Waits (I : Instance) (s : State) (b : ℕ) : Type 0 where
  low : at s.job_heights b ≤ 2 * I.m → Waits I s b
  ready : (j : ℕ) → 0 < j → j ≤ I.m → eligible I b j ≡ true → at s.job_heights b ≡ suc (at s.machine_heights j) → Waits I s b

pub record Caps (I : Instance) (s : State) : Type 0 where
  pub waits : (b : ℕ) → 0 < b → b ≤ n I → at s.assignment b ≡ 0 → Waits I s b
  pub machine_cap : (i : ℕ) → at s.machine_heights i ≤ 2 * I.m + 2
  pub job_cap : (b : ℕ) → at s.job_heights b ≤ 2 * I.m + 3

-- a job without a place that is lifted is low
pub lifted-low : {I : Instance} {s : State} {b : ℕ} (i : ℕ) → Waits I s b → at s.assignment b ≡ 0
    → at s.job_heights b ≤ at s.machine_heights i
    → ((j : ℕ) → 0 < j → j ≤ I.m → job_arc I s b j ≡ true → at s.machine_heights i ≤ at s.machine_heights j)
    → at s.job_heights b ≤ 2 * I.m
lifted-low i (low h) e l y = h
lifted-low {I} {s} {b} i (ready j p q r h) e l y =
    absurd (omega (arith, y j p q (job_arc-mk I s b j r (λ z. omega arith))))

-- waiting depends on the job's height and the machines' alone
waits-same : {I : Instance} {s t : State} {b : ℕ} → at t.job_heights b ≡ at s.job_heights b → t.machine_heights ≡ s.machine_heights
    → Waits I s b → Waits I t b
waits-same e f (low g) = low (omega arith)
waits-same {s = s} {t = t} e f (ready j p q r g) = ready j p q r (e ∙ g ∙ (rw f))

keep : {I : Instance} {a : Limits} {s : State} {x : Act} → Step I a s x → Shape I s → Caps I s → Caps I (after s x)
keep (Step.no_underloaded t) v c = c
keep (Step.stuck _ y z) v c = c
keep {I} {a} {s} (Step.job_push b i lb li u e h) v c = record {
  waits = λ d d0 dn r. put-cases s.assignment (suc b) (suc i) d (omega arith) (omega (arith, v.jobs))
      (λ q w. absurd (omega arith))
      (λ ne w. waits-same refl refl (c.waits d d0 dn (sym w ∙ r)));
  machine_cap = c.machine_cap;
  job_cap = c.job_cap;
}
keep {I} {a} {s} (Step.job_lift b i lb li u e h y) v c = record {
  waits = λ d d0 dn r. put-cases s.job_heights (suc b) (suc (at s.machine_heights (suc i))) d (omega arith) (omega (arith, v.heights))
      (λ q w. ready (suc i) (omega arith) li (rw q (job_arc-eligible I s (suc b) (suc i) e)) w)
      (λ ne w. waits-same w refl (c.waits d d0 dn r));
  machine_cap = c.machine_cap;
  job_cap = λ d. put-cases s.job_heights (suc b) (suc (at s.machine_heights (suc i))) d (omega arith) (omega (arith, v.heights))
      (λ q w. omega (arith, w, c.machine_cap (suc i)))
      (λ ne w. omega (arith, w, c.job_cap d));
}
keep {I} {a} {s} (Step.machine_push _ f i b li lb u o e h) v c = record {
  waits = λ d d0 dn r. put-cases s.assignment (suc b) 0 d (omega arith) (omega (arith, v.jobs))
      (λ q w. low (rw q (omega arith)))
      (λ ne w. waits-same refl refl (c.waits d d0 dn (sym w ∙ r)));
  machine_cap = c.machine_cap;
  job_cap = c.job_cap;
}
keep {I} {a} {s} (Step.machine_lift f i b li lb u o e h y) v c = record {
  waits = λ d d0 dn r. still d d0 dn r (c.waits d d0 dn r);
  machine_cap = λ j. put-cases s.machine_heights (suc i) (suc (at s.job_heights (suc b))) j (omega arith) (omega (arith, v.machines))
      (λ q w. let z = machine_arc-eq s (suc i) (suc b) e in
      omega (arith, w, v.job_low (suc b) (suc i) (omega arith) li (v.listed (suc b) (suc i) (omega arith) z)))
      (λ ne w. omega (arith, w, c.machine_cap j));
  job_cap = c.job_cap;
}
  where
    -- a machine acts only where no job that waits can
    still : (d : ℕ) → 0 < d → d ≤ n I → at s.assignment d ≡ 0 → Waits I s d → Waits I (after s (by_machine (suc i) (lift (suc (at s.job_heights (suc b)))))) d
    still d d0 dn z (low g) = low g
    still d d0 dn z (ready j p q r g) =
        conflict (job-can I a s d j (unplaced-mk s d z) p q (job_arc-mk I s d j r (λ w. omega arith)) g) (f d d0 dn)

pub caps-step : (I : Instance) (a : Limits) (s : State) → Shape I s → Caps I s → Caps I (after s (act I a s))
caps-step I a s v c = keep (step I a s) v c

pub caps-start : (I : Instance) (x : Assignment) → Caps I (start I x)
caps-start I x = record {
  waits = λ b p q e. low (omega (arith, at-zeros (n I) b));
  machine_cap = λ i. omega (arith, at-zeros I.m i);
  job_cap = λ b. omega (arith, at-zeros (n I) b);
}
