-- What each of the four moves makes of a state's arrays. Jobs and machines are given by index.
use Rattle.std.specs.Prelude.{ℕ, ◌+◌, ◌-◌, Some, get_or, set}
use Rattle.rules.specs.Fold.{first_to}
use Rattle.arrays.specs.declared.Jobs.{Jobs}
use Rattle.arrays.specs.Found.{found}
use Rattle.scans.specs.Waits.{waits}
use Rattle.trials.specs.declared.State.{State}

abbrev pub job_lifted : State → ℕ → ℕ → State
job_lifted t b h = record t { jobs = set t.jobs b h; lifts = t.lifts + 1 }

abbrev pub machine_lifted : State → ℕ → ℕ → State
machine_lifted t i h = record t { machines = set t.machines i h; lifts = t.lifts + 1 }

-- job b is put on machine i, and the next job that waits is sought
abbrev pub job_placed : State → Jobs → ℕ → ℕ → State
job_placed t j b i = record t {
  placement = record {
    places = set t.placement.places b (i + 1);
    loads = set t.placement.loads i (get_or t.placement.loads i 0 + get_or j.minutes.now b 0);
  };
  pushes = t.pushes + 1;
  waiting = found (first_to j.n (λ c. waits (set t.placement.places b (i + 1)) j.masks.now c));
}

-- job b is taken off machine i, and waits
abbrev pub taken_off : State → Jobs → ℕ → ℕ → State
taken_off t j b i = record t {
  placement = record {
    places = set t.placement.places b 0;
    loads = set t.placement.loads i (get_or t.placement.loads i 0 - get_or j.minutes.now b 0);
  };
  pushes = t.pushes + 1;
  waiting = Some b;
}
