-- A trial's arrays, and what of the rules they stand for.
use Rattle.std.specs.Prelude.{ℕ, suc, ◌≤◌, ◌<◌, ◌≡◌, Bool, true, false, take, Some, None}
use Rattle.std.specs.declared.ops.ControlFlow.{ControlFlow}
use Rattle.std.specs.declared.ops.ControlFlow.TheVariants.{Continue, Break}
use Rattle.rules.specs.Fold.{at, first_to}
use Rattle.rules.specs.Instance.{Instance, Assignment, n}
use Rattle.rules.specs.Trial as T
use Rattle.rules.specs.Trial.{Limits}
use Rattle.theory.proofs.Valid.{Partial}
use Rattle.theory.proofs.Ending.{Counted}
use Rattle.theory.proofs.Acting.{able}
use Rattle.arrays.specs.declared.Jobs.{Jobs}
use Rattle.arrays.specs.declared.Placement.{Placement}
use Rattle.arrays.specs.Found.{found}
use Rattle.arrays.specs.Jobs.{Says}
use Rattle.arrays.specs.Reads.{Kept}
use Rattle.trials.specs.declared.Bounds.{Bounds}
use Rattle.trials.specs.declared.State.{State}
use Rattle.scans.specs.Waits.{waits}

-- the rules' state that the arrays hold
abbrev pub state_of : Instance → State → T.State
state_of I t = record {
  assignment = take (n I) t.placement.places;
  machine_heights = take I.m t.machines;
  job_heights = take (n I) t.jobs;
  lifts = t.lifts;
  pushes = t.pushes;
}

-- beside the state stand its loads and the lowest job that waits for a place
pub record Beside (I : Instance) (j : Jobs) (t : State) : Type 0 where
  pub loads : Kept I (take (n I) t.placement.places) t.placement.loads
  pub waiting : t.waiting ≡ found (first_to (n I) (λ b. waits t.placement.places j.masks.now b))

-- the instance and the limits that the arrays say
pub record Setup (I : Instance) (a : Limits) (j : Jobs) (l : Bounds) : Type 0 where
  pub reads : Says I j
  pub low : (i : ℕ) → 0 < i → i ≤ j.m → at l.low.now i ≡ a.low i
  pub high : (i : ℕ) → 0 < i → i ≤ j.m → at l.high.now i ≡ a.high i

-- the arrays hold a state that the steps of a trial can reach
pub record Tracks (I : Instance) (j : Jobs) (t : State) : Type 0 where
  pub counted : Counted I (state_of I t)
  pub beside : Beside I j t

-- a trial between two steps
pub record Trying (I : Instance) (a : Limits) (j : Jobs) (l : Bounds) (t : State) : Type 0 where
  pub setup : Setup I a j l
  pub tracks : Tracks I j t

-- some machine is underloaded, and the lowest job that waits is that at index b
pub record JobActs (I : Instance) (a : Limits) (j : Jobs) (t : State) (b : ℕ) : Type 0 where
  pub reads : Says I j
  pub tracks : Tracks I j t
  pub some : T.some_underloaded I a (state_of I t) ≡ true
  pub first : t.waiting ≡ Some b

-- some machine is underloaded, no job waits, and the lowest machine that may act is that at index i
pub record MachineActs (I : Instance) (a : Limits) (j : Jobs) (t : State) (i : ℕ) : Type 0 where
  pub reads : Says I j
  pub tracks : Tracks I j t
  pub some : T.some_underloaded I a (state_of I t) ≡ true
  pub none : t.waiting ≡ None
  pub first : first_to I.m (λ k. able I a (state_of I t) k) ≡ suc i

-- nothing acts
abbrev pub idle : T.Act → Bool
idle T.rest = true
idle (T.by_job b d) = false
idle (T.by_machine i d) = false

-- t' is the rules' state after what acts at t, with what stands beside it; and whether nothing acts there
pub record After (I : Instance) (a : Limits) (j : Jobs) (t t' : State) (resting : Bool) : Type 0 where
  pub is : state_of I t' ≡ T.after (state_of I t) (T.act I a (state_of I t))
  pub rests : resting ≡ idle (T.act I a (state_of I t))
  pub beside : Beside I j t'

-- something acted at t, and left t'
abbrev pub Moved : Instance → Limits → Jobs → State → State → Type 0
Moved I a j t t' = After I a j t t' false

-- a step from t: it goes on where something acted, and breaks off where nothing does
abbrev pub Stepped : Instance → Limits → Jobs → State → ControlFlow State State → Type 0
Stepped I a j t (Continue t') = Moved I a j t t'
Stepped I a j t (Break t') = After I a j t t' true

-- where a trial may start: each placed job may run where it is, and these are the loads
pub record Starts (I : Instance) (a : Limits) (j : Jobs) (l : Bounds) (p : Placement) : Type 0 where
  pub setup : Setup I a j l
  pub partial : Partial I (take j.n p.places)
  pub kept : Kept I (take j.n p.places) p.loads

-- the rules' trial from the assignment x ends at t
pub record Ends (I : Instance) (a : Limits) (x : Assignment) (t : State) : Type 0 where
  pub is : state_of I t ≡ T.ended_by I x a
  pub loads : Kept I (take (n I) t.placement.places) t.placement.loads
