-- Document 01, "Loads and settling": loads, the makespan, permitted assignments, who improves, and review.
use Rattle.std.specs.Prelude.{ℕ, ◌+◌, Bool, not, List, length, ltb, eqb}
use Rattle.rules.specs.Fold.{◌and◌, pick, at, sum_to, max_to, first_to, any_to, all_to, list_to}
use Rattle.rules.specs.Instance.{Instance, Assignment, n, minutes_of, eligible}

-- the minutes of the jobs assigned to machine i
unfoldable pub load : Instance → Assignment → ℕ → ℕ
load I x i = sum_to (n I) (λ b. pick (eqb (at x b) i) (minutes_of I b) 0)

-- the greatest load (document 01: the finish)
unfoldable pub makespan : Instance → Assignment → ℕ
makespan I x = max_to I.m (λ i. load I x i)

-- the greatest length of all jobs, 0 where there is none
unfoldable pub longest : Instance → ℕ
longest I = max_to (n I) (λ b. minutes_of I b)

-- the minutes of all jobs
unfoldable pub total : Instance → ℕ
total I = sum_to (n I) (λ b. minutes_of I b)

-- each job has one machine, and may run there
unfoldable pub permitted : Instance → Assignment → Bool
permitted I x = eqb (length x) (n I) and all_to (n I) (λ b. eligible I b (at x b))

-- ---- improving (document 01: gaining), settled

-- machine i is another one that job b may run on
unfoldable pub elsewhere : Instance → Assignment → ℕ → ℕ → Bool
elsewhere I x b i = eligible I b i and not (eqb i (at x b))

-- job b would finish earlier on machine i than where it is
unfoldable pub improves_at : Instance → Assignment → ℕ → ℕ → Bool
improves_at I x b i = elsewhere I x b i and ltb (load I x i + minutes_of I b) (load I x (at x b))

unfoldable pub improves : Instance → Assignment → ℕ → Bool
improves I x b = any_to I.m (λ i. improves_at I x b i)

-- no job improves by moving alone (document 01: settled)
unfoldable pub equilibrium : Instance → Assignment → Bool
equilibrium I x = all_to (n I) (λ b. not (improves I x b))

-- ---- review: all loads, the makespan, and the lowest job that improves, 0 for settled

pub record Review : Type 0 where
  pub loads : List ℕ
  pub makespan : ℕ
  pub improving : ℕ

unfoldable pub review : Instance → Assignment → Review
review I x = record {
  loads = list_to I.m (λ i. load I x i);
  makespan = makespan I x;
  improving = first_to (n I) (λ b. improves I x b);
}
