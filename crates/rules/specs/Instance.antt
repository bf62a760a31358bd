-- What the mathematics sees of a book: an instance (source document 000, section 2, with users as jobs and links as
-- machines) and an assignment. All rules on loads, trials, balance and settle go by these two alone. Document 02: a calibration is a job too
-- (C-16), and of a started batch the list is its place (C-17).
use Rattle.std.specs.Prelude.{ℕ, zero, suc, Bool, List, [], ◌∷◌, ◌++◌, map, length, get_or, leb}
use Rattle.rules.specs.Fold.{◌or◌, pick, at, mem, any_to}
use Rattle.rules.specs.Sheet.{Book, Batch, waiting, size}

-- a job: a length, and the machines that may run it (document 01: qualified)
pub record Job : Type 0 where
  pub minutes : ℕ
  pub list : List ℕ

-- m machines and the jobs, all numbered from 1
pub record Instance : Type 0 where
  pub m : ℕ
  pub jobs : List Job

-- the machine of each job in order, 0 for none (document 01: a placement)
abbrev pub Assignment : Type 0
Assignment = List ℕ

abbrev pub n : Instance → ℕ
n I = length I.jobs

abbrev pub no_job : Job
no_job = record { minutes = 0; list = [] }

-- job number b
abbrev pub job : Instance → ℕ → Job
job I zero = no_job
job I (suc b) = get_or I.jobs b no_job

abbrev pub minutes_of : Instance → ℕ → ℕ
minutes_of I b = (job I b).minutes

abbrev pub list_of : Instance → ℕ → List ℕ
list_of I b = (job I b).list

-- machine i may run job b
abbrev pub eligible : Instance → ℕ → ℕ → Bool
eligible I b i = mem i (list_of I b)

-- ---- the two sides of a book

-- the instruments that count as qualified for a batch: its list, and its place alone once it has started
abbrev pub qualified : Batch → List ℕ
qualified b = pick b.started (b.place ∷ []) b.list

abbrev pub job_of : Batch → Job
job_of b = record { minutes = b.minutes; list = qualified b }

-- a calibration of t minutes of instrument i: where t is above 0, as a batch that stands there and may run nowhere else
abbrev pub calibration_of : ℕ → ℕ → List Batch
calibration_of i zero = []
calibration_of i (suc t) = waiting (suc t) (i ∷ []) i ∷ []

-- those of instruments 1 to c
unfoldable pub calibrations_to : List ℕ → ℕ → List Batch
calibrations_to l zero = []
calibrations_to l (suc c) = calibrations_to l c ++ calibration_of (suc c) (at l (suc c))

-- all that takes time: the batches, and after them the calibrations above 0, by instrument
abbrev pub items : Book → List Batch
items k = k.batches ++ calibrations_to k.calibrations k.m

-- there is a batch, or a calibration above 0
unfoldable pub busy : Book → Bool
busy k = leb 1 (size k) or any_to k.m (λ i. leb 1 (at k.calibrations i))

abbrev pub instance : Book → Instance
instance k = record { m = k.m; jobs = map job_of (items k) }

abbrev pub places : Book → Assignment
places k = map (λ (b : Batch). b.place) (items k)
