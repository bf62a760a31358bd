-- Heights in a trial: they never fall, a job is at most one higher than any machine it may run on, and a machine at most one
-- higher than any job on it. Every step keeps this.
use Prim.Native.Nat.{ℕ, zero, suc, ◌≤◌, ◌<◌}
use mathlib.Core.Path.{◌≡◌, refl, sym, ap, ◌∙◌}
use mathlib.Core.Bool.{true, not}
use mathlib.Core.Logic.{◌≢◌}
use mathlib.Core.List.{List, [], ◌∷◌}
use native.Mathlib.Nat.{le_refl, le_step}
use native.Mathlib.Omega.{arith}
use native.Mathlib.Decide.{ℕ_discrete}
use lib.ListN.{length, get_or, set, replicate, length-replicate}
use borrow.Author.Tests.{eqb-true, eq-eqb, ne_eqb}
use Rattle.rules.specs.Fold.{at, put}
use Rattle.rules.specs.Instance.{Instance, Assignment, n, eligible}
use Rattle.rules.specs.Load.{elsewhere}
use Rattle.rules.specs.Trial.{Limits, State, Act, act, after, start, unplaced, job_arc, machine_arc}
use Rattle.theory.proofs.Logic.{and_left, and-mk}
use Rattle.theory.proofs.Fold.{length-put, at-put-same, at-put-other}
use Rattle.theory.proofs.Valid.{Permitted, Partial}
use Rattle.theory.proofs.Step.{Step, step}

-- ---- arcs, as facts

pub machine_arc-eq : (s : State) (i b : ℕ) → machine_arc s i b ≡ true → at s.assignment b ≡ i
unfolding machine_arc
machine_arc-eq s i b e = eqb-true _ _ e

pub machine_arc-mk : (s : State) (i b : ℕ) → at s.assignment b ≡ i → machine_arc s i b ≡ true
unfolding machine_arc
machine_arc-mk s i b e = eq-eqb _ _ e

pub job_arc-eligible : (I : Instance) (s : State) (b i : ℕ) → job_arc I s b i ≡ true → eligible I b i ≡ true
unfolding job_arc elsewhere
job_arc-eligible I s b i e = and_left _ _ e

pub job_arc-mk : (I : Instance) (s : State) (b i : ℕ) → eligible I b i ≡ true → i ≢ at s.assignment b → job_arc I s b i ≡ true
unfolding job_arc elsewhere
job_arc-mk I s b i e ne = and-mk _ _ e (ap not (ne_eqb _ _ ne))

pub unplaced-eq : (s : State) (b : ℕ) → unplaced s b ≡ true → at s.assignment b ≡ 0
unfolding unplaced
unplaced-eq s b e = eqb-true _ _ e

pub unplaced-mk : (s : State) (b : ℕ) → at s.assignment b ≡ 0 → unplaced s b ≡ true
unfolding unplaced
unplaced-mk s b e = eq-eqb _ _ e

-- ---- lists after one entry is put

get_d-set-up : (l : List ℕ) (k v i : ℕ) → get_or l k 0 ≤ v → get_or l i 0 ≤ get_or (set l k v) i 0
get_d-set-up [] k v i h = le_refl 0
get_d-set-up (x ∷ xs) zero v zero h = h
get_d-set-up (x ∷ xs) zero v (suc i) h = le_refl _
get_d-set-up (x ∷ xs) (suc k) v zero h = le_refl _
get_d-set-up (x ∷ xs) (suc k) v (suc i) h = get_d-set-up xs k v i h

-- an entry that grows lets no entry fall
pub at-put-up : (l : List ℕ) (k v i : ℕ) → at l k ≤ v → at l i ≤ at (put l k v) i
at-put-up l zero v i h = le_refl _
at-put-up l (suc k) v zero h = le_refl _
at-put-up l (suc k) v (suc i) h = get_d-set-up l k v i h

-- at number j stands v, where j is k, or what stood there before
pub put-cases {ℓ} : {X : Type ℓ} (l : List ℕ) (k v j : ℕ) → 0 < k → k ≤ length l
    → (j ≡ k → at (put l k v) j ≡ v → X) → (j ≢ k → at (put l k v) j ≡ at l j → X) → X
put-cases l k v j p q f g =
    elim (ℕ_discrete j k) [ yes e ↦ f e (rw e (at-put-same l k v p q)) | no ne ↦ g ne (at-put-other l k j v ne) ]

get_d-in : (l : List ℕ) (c : ℕ) → 0 < get_or l c 0 → c < length l
get_d-in [] c h = absurd (omega arith)
get_d-in (x ∷ xs) zero h = omega arith
get_d-in (x ∷ xs) (suc c) h = let r = get_d-in xs c h in omega arith

pub at_in : (l : List ℕ) (c : ℕ) → 0 < at l c → (0 < c) × (c ≤ length l)
at_in l zero h = absurd (omega arith)
at_in l (suc c) h = (omega arith, get_d-in l c h)

zeros : (c i : ℕ) → ◌≡◌ {A = ℕ} (get_or (replicate c 0) i 0) 0
zeros zero i = refl
zeros (suc c) zero = refl
zeros (suc c) (suc i) = zeros c i

pub at-zeros : (c i : ℕ) → at (replicate c 0) i ≡ 0
at-zeros c zero = refl
at-zeros c (suc i) = zeros c i

-- ---- the shape of a state

pub record Shape (I : Instance) (s : State) : Type 0 where
  pub jobs : length s.assignment ≡ n I
  pub machines : length s.machine_heights ≡ I.m
  pub heights : length s.job_heights ≡ n I
  pub listed : (b i : ℕ) → 0 < i → at s.assignment b ≡ i → eligible I b i ≡ true
  -- a job is at most one higher than a machine of its list, on it or not
  pub job_low : (b i : ℕ) → 0 < i → i ≤ I.m → eligible I b i ≡ true → at s.job_heights b ≤ suc (at s.machine_heights i)
  -- a machine is at most one higher than a job on it
  pub machine_low : (b i : ℕ) → 0 < i → at s.assignment b ≡ i → at s.machine_heights i ≤ suc (at s.job_heights b)

keep : {I : Instance} {a : Limits} {s : State} {x : Act} → Step I a s x → Shape I s → Shape I (after s x)
keep (Step.no_underloaded t) v = v
keep (Step.stuck _ y z) v = v
keep {I} {a} {s} (Step.job_push b i lb li u e h) v = record {
  jobs = length-put s.assignment (suc b) (suc i) ∙ v.jobs;
  machines = v.machines;
  heights = v.heights;
  listed = λ c j j0 r. put-cases s.assignment (suc b) (suc i) c (omega arith) (omega (arith, v.jobs))
      (λ q w. rw (q, sym r ∙ w) (job_arc-eligible I s (suc b) (suc i) e))
      (λ ne w. v.listed c j j0 (sym w ∙ r));
  job_low = v.job_low;
  machine_low = λ c j j0 r. put-cases s.assignment (suc b) (suc i) c (omega arith) (omega (arith, v.jobs))
      (λ q w. let z : j ≡ suc i = sym r ∙ w in rw (z, q) (omega arith))
      (λ ne w. v.machine_low c j j0 (sym w ∙ r));
}
keep {I} {a} {s} (Step.job_lift b i lb li u e h y) v = record {
  jobs = v.jobs;
  machines = v.machines;
  heights = length-put s.job_heights (suc b) _ ∙ v.heights;
  listed = v.listed;
  job_low = λ c j j0 jm r. put-cases s.job_heights (suc b) (suc (at s.machine_heights (suc i))) c (omega arith) (omega (arith, v.heights))
      (λ q w. omega (arith, w, y j j0 jm (job_arc-mk I s (suc b) j (rw q at r) (λ z. omega (arith, unplaced-eq s (suc b) u)))))
      (λ z w. omega (arith, w, v.job_low c j j0 jm r));
  machine_low = λ c j j0 r.
      omega (arith, v.machine_low c j j0 r, at-put-up s.job_heights (suc b) (suc (at s.machine_heights (suc i))) c (le_step h));
}
keep {I} {a} {s} (Step.machine_push _ _ i b li lb u o e h) v = record {
  jobs = length-put s.assignment (suc b) 0 ∙ v.jobs;
  machines = v.machines;
  heights = v.heights;
  listed = λ c j j0 r. put-cases s.assignment (suc b) 0 c (omega arith) (omega (arith, v.jobs))
      (λ q w. absurd (omega arith))
      (λ ne w. v.listed c j j0 (sym w ∙ r));
  job_low = v.job_low;
  machine_low = λ c j j0 r. put-cases s.assignment (suc b) 0 c (omega arith) (omega (arith, v.jobs))
      (λ q w. absurd (omega arith))
      (λ ne w. v.machine_low c j j0 (sym w ∙ r));
}
keep {I} {a} {s} (Step.machine_lift _ i b li lb u o e h y) v = record {
  jobs = v.jobs;
  machines = length-put s.machine_heights (suc i) _ ∙ v.machines;
  heights = v.heights;
  listed = v.listed;
  job_low = λ c j j0 jm r.
      omega (arith, v.job_low c j j0 jm r, at-put-up s.machine_heights (suc i) (suc (at s.job_heights (suc b))) j (le_step h));
  machine_low = λ c j j0 r. put-cases s.machine_heights (suc i) (suc (at s.job_heights (suc b))) j (omega arith) (omega (arith, v.machines))
      (λ q w. let g = at_in s.assignment c (omega arith) in
      omega (arith, w, y c g.0 (omega (arith, v.jobs)) (machine_arc-mk s (suc i) c (r ∙ q))))
      (λ z w. omega (arith, w, v.machine_low c j j0 r));
}

pub shape-step : (I : Instance) (a : Limits) (s : State) → Shape I s → Shape I (after s (act I a s))
shape-step I a s v = keep (step I a s) v

pub shape-start : (I : Instance) (x : Assignment) → Partial I x → Shape I (start I x)
shape-start I x w = record {
  jobs = w.size;
  machines = length-replicate I.m 0;
  heights = length-replicate (n I) 0;
  listed = w.listed;
  job_low = λ b i i0 im e. omega (arith, at-zeros (n I) b);
  machine_low = λ b i i0 e. omega (arith, at-zeros I.m i);
}

-- a trial may start from a permitted assignment
pub permitted-partial : {I : Instance} {x : Assignment} → Permitted I x → Partial I x
permitted-partial {I} {x} w = record {
  size = w.size;
  listed = λ b i i0 e. let g = at_in x b (omega arith) in rw (← e) (w.listed b g.0 (omega (arith, w.size)));
}
