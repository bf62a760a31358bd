-- Document 01, "One trial at a level" (source document 000, section 3.1): heights, arcs, who acts, and what it does.
-- Document 01's bump is here a push, its raise a lift, its arrow an arc, light is underloaded and over is overloaded.
use Rattle.std.specs.Prelude.{ℕ, zero, suc, ◌+◌, ◌*◌, Bool, true, false, List, length, replicate, leb, ltb, eqb}
use Rattle.rules.specs.Fold.{◌and◌, pick, at, put, sum_to, first_to, any_to, least_to}
use Rattle.rules.specs.Instance.{Instance, Assignment, n, list_of}
use Rattle.rules.specs.Load.{load, longest, elsewhere}

-- two loads for each machine: up to low it is underloaded, above high overloaded
pub record Limits : Type 0 where
  pub low : ℕ → ℕ
  pub high : ℕ → ℕ

-- at level a: a, and a plus the longest length, for every machine
unfoldable pub at_level : Instance → ℕ → Limits
at_level I a = record { low = λ i. a; high = λ i. a + longest I }

-- what passes from step to step: the assignment, the heights, and how many lifts and pushes were made
pub record State : Type 0 where
  pub assignment : Assignment
  pub machine_heights : List ℕ
  pub job_heights : List ℕ
  pub lifts : ℕ
  pub pushes : ℕ

-- all heights are 0 at first
abbrev pub start : Instance → Assignment → State
start I x = record {
  assignment = x;
  machine_heights = replicate I.m 0;
  job_heights = replicate (n I) 0;
  lifts = 0;
  pushes = 0;
}

-- ---- at limits a

unfoldable pub underloaded : Instance → Limits → State → ℕ → Bool
underloaded I a s i = leb (load I s.assignment i) (a.low i)

unfoldable pub overloaded : Instance → Limits → State → ℕ → Bool
overloaded I a s i = ltb (a.high i) (load I s.assignment i)

unfoldable pub unplaced : State → ℕ → Bool
unplaced s b = eqb (at s.assignment b) 0

-- a machine has an arc to each job on it
unfoldable pub machine_arc : State → ℕ → ℕ → Bool
machine_arc s i b = eqb (at s.assignment b) i

-- a job has an arc to each machine that it may run on and is not on
unfoldable pub job_arc : Instance → State → ℕ → ℕ → Bool
job_arc I s b i = elsewhere I s.assignment b i

-- ---- what an item that overflows does: a push along the arc to a number, a lift to a height, or nothing

pub data Deed : Type 0 where
  nothing : Deed
  push : ℕ → Deed
  lift : ℕ → Deed

abbrev pub can : Deed → Bool
can nothing = false
can (push j) = true
can (lift h) = true

-- A lift: the item, at height h, is no higher than the lowest end of its arcs, and gets one more than that end's height l.
-- Without an arc (end 0) there is none.
unfoldable pub lift_over : ℕ → ℕ → ℕ → Deed
lift_over zero h l = nothing
lift_over (suc j) h l = pick (leb h l) (lift (suc l)) nothing

unfoldable pub push_or : ℕ → Deed → Deed
push_or zero d = d
push_or (suc j) d = push (suc j)

-- For an item at height h, whose arcs go to those of 1 to c that arc names, at the heights high: a push goes to the lowest
-- number whose height is one less than h; only where there is none is there a lift.
unfoldable pub deed : ℕ → (ℕ → Bool) → (ℕ → ℕ) → ℕ → Deed
deed c arc high h =
    push_or (first_to c (λ j. arc j and eqb h (suc (high j))))
    (lift_over (least_to c arc high) h (high (least_to c arc high)))

-- ---- who acts: the lowest unplaced job that can, or else the lowest machine that can

pub data Act : Type 0 where
  rest : Act
  by_job : ℕ → Deed → Act
  by_machine : ℕ → Deed → Act

module _ (I : Instance) (a : Limits) where
  unfoldable pub job_deed : State → ℕ → Deed
  job_deed s b =
      pick (unplaced s b) (deed I.m (λ i. job_arc I s b i) (λ i. at s.machine_heights i) (at s.job_heights b)) nothing

  -- a machine acts while it is overloaded and its height is at most 2m
  unfoldable pub machine_deed : State → ℕ → Deed
  machine_deed s i =
      pick (overloaded I a s i and leb (at s.machine_heights i) (2 * I.m))
      (deed (n I) (λ b. machine_arc s i b) (λ b. at s.job_heights b) (at s.machine_heights i)) nothing

  unfoldable pub some_underloaded : State → Bool
  some_underloaded s = any_to I.m (λ i. underloaded I a s i)

  unfoldable pub act_machine : State → ℕ → Act
  act_machine s zero = rest
  act_machine s (suc i) = by_machine (suc i) (machine_deed s (suc i))

  unfoldable pub act_job : State → ℕ → Act
  act_job s zero = act_machine s (first_to I.m (λ i. can (machine_deed s i)))
  act_job s (suc b) = by_job (suc b) (job_deed s (suc b))

  -- a trial rests, that is ends, when no machine is underloaded or nothing can act
  unfoldable pub act : State → Act
  act s = pick (some_underloaded s) (act_job s (first_to (n I) (λ b. can (job_deed s b)))) rest

-- ---- the step: a job's push places it, a machine's push takes the job off

abbrev pub pushed : State → ℕ → ℕ → State
pushed s b i = record {
  assignment = put s.assignment b i;
  machine_heights = s.machine_heights;
  job_heights = s.job_heights;
  lifts = s.lifts;
  pushes = suc s.pushes;
}

abbrev pub after : State → Act → State
after s rest = s
after s (by_job b nothing) = s
after s (by_job b (push i)) = pushed s b i
after s (by_job b (lift h)) = record {
  assignment = s.assignment;
  machine_heights = s.machine_heights;
  job_heights = put s.job_heights b h;
  lifts = suc s.lifts;
  pushes = s.pushes;
}
after s (by_machine i nothing) = s
after s (by_machine i (push b)) = pushed s b 0
after s (by_machine i (lift h)) = record {
  assignment = s.assignment;
  machine_heights = put s.machine_heights i h;
  job_heights = s.job_heights;
  lifts = suc s.lifts;
  pushes = s.pushes;
}

-- at most f steps from s; x is what acts at s
unfoldable pub steps_by : Instance → Limits → ℕ → State → Act → State
steps_by I a zero s x = s
steps_by I a (suc f) s rest = s
steps_by I a (suc f) s (by_job b d) = let t = after s (by_job b d) in steps_by I a f t (act I a t)
steps_by I a (suc f) s (by_machine i d) = let t = after s (by_machine i d) in steps_by I a f t (act I a t)

-- ---- the bounds on lifts and pushes (Lemma 3.1 of source document 000, constants written out)

unfoldable pub lift_bound : Instance → ℕ
lift_bound I = I.m * (2 * I.m + 1) + n I * (2 * I.m + 2)

unfoldable pub push_bound : Instance → ℕ
push_bound I = (4 * I.m + 4) * sum_to (n I) (λ b. length (list_of I b))

-- Where a trial from the assignment x ends. Each step is a lift or a push, so both bounds together are enough steps: a
-- trial ends because it rests, and never because they ran out (theory, Ending).
unfoldable pub ended_by : Instance → Assignment → Limits → State
ended_by I x a = steps_by I a (lift_bound I + push_bound I) (start I x) (act I a (start I x))

-- the same at level a
abbrev pub ended : Instance → Assignment → ℕ → State
ended I x a = ended_by I x (at_level I a)
