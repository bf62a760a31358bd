-- A sheet in arrays.
use Rattle.std.specs.Prelude.{ℕ, ◌≤◌, ◌<◌, ◌≡◌, take}
use Rattle.rules.specs.Fold.{at}
use Rattle.rules.specs.Sheet.{Book}
use Rattle.rules.specs.Instance.{instance, places}
use Rattle.arrays.specs.declared.Jobs.{Jobs}
use Rattle.scans.specs.Marks.{Marked}
use Rattle.trials.specs.Attempt.{Standing}
use Rattle.planner.specs.declared.laid.Laid.{Laid}

-- the jobs that the arrays lend
pub record JobsOf (a : Laid) (j : Jobs) : Type 0 where
  pub m : j.m ≡ a.m
  pub n : j.n ≡ a.n
  pub minutes : j.minutes.now ≡ a.minutes
  pub masks : j.masks.now ≡ a.masks

-- the jobs say the book's instance; the arrays its lists as marks, its places and their loads
pub record LaidAs (k : Book) (j : Jobs) (a : Laid) : Type 0 where
  pub stands : Standing (instance k) j a.start
  pub marked : Marked (instance k) j.n a.marks
  pub shown : take j.n a.start.places ≡ places k
  pub rest : (i : ℕ) → j.m < i → i ≤ 24 → at a.start.loads i ≡ 0

-- so with the jobs that the arrays lend
pub record Lays (k : Book) (a : Laid) : Type 0 where
  pub few_machines : a.m ≤ 24
  pub few_jobs : a.n ≤ 224
  pub each : (j : Jobs) → JobsOf a j → LaidAs k j a
