-- The search over levels on arrays, and what of the rules' search it holds.
use Rattle.std.specs.Prelude.{ℕ, ◌+◌, ◌-◌, ◌/◌, ◌≤◌, ◌≡◌, Bool, take, ltb, Option, None, Some}
use Rattle.rules.specs.Fold.{pick, mem, those_to}
use Rattle.rules.specs.Instance.{Instance, Assignment}
use Rattle.rules.specs.Balance as B
use Rattle.theory.proofs.Valid.{Permitted}
use Rattle.arrays.specs.declared.Jobs.{Jobs}
use Rattle.arrays.specs.Reads.{Kept}
use Rattle.arrays.specs.Sets.{has, SetOf}
use Rattle.trials.specs.declared.trial.Attempt.{Attempt}
use Rattle.planner.specs.declared.balance.Failure.{Failure}
use Rattle.planner.specs.declared.balance.Search.{Search}

-- one more than the highest level known to fail, and its group as a set; 0 and no machine while none has failed
abbrev pub failed1 : Option Failure → ℕ
failed1 None = 0
failed1 (Some f) = f.level + 1

abbrev pub failed_set : Option Failure → ℕ
failed_set None = 0
failed_set (Some f) = f.group

-- the rules' search that the arrays hold
abbrev pub search_of : Jobs → Search → B.Search
search_of j s = record {
  failed1 = failed1 s.failed;
  group = those_to j.m (λ i. has (failed_set s.failed) i);
  level = s.level;
  assignment = take j.n s.kept.places;
  lifts = s.lifts;
  pushes = s.pushes;
}

-- some level is left
abbrev pub opened : Search → Bool
opened s = ltb (failed1 s.failed) s.level

-- the level of the next trial, none where none is left
unfoldable pub halfway : Search → Option ℕ
halfway s = pick (opened s) (Some ((failed1 s.failed + s.level - 1) / 2)) None

-- a pass becomes the level kept, a failure the one known to fail; the start stays
abbrev pub learned_by : Search → ℕ → Attempt → Option ℕ → Search
learned_by s a t None = record { failed = s.failed; level = a; kept = t.end; lifts = t.lifts; pushes = t.pushes; start = s.start }
learned_by s a t (Some group) = record {
  failed = Some (record { level = a; group = group });
  level = s.level;
  kept = s.kept;
  lifts = s.lifts;
  pushes = s.pushes;
  start = s.start;
}

unfoldable pub learned : Search → ℕ → Attempt → Search
learned s a t = learned_by s a t t.failed

-- the end of the search from x, its group as a set, and the loads of the places kept
pub record Sought (I : Instance) (j : Jobs) (x : Assignment) (s : Search) : Type 0 where
  pub found : search_of j s ≡ B.balance I x
  pub is_set : SetOf (λ i. mem i (search_of j s).group) (failed_set s.failed)
  pub permitted : Permitted I (take j.n s.kept.places)
  pub kept : Kept I (take j.n s.kept.places) s.kept.loads

-- so far: what is left of the search from x ends as the whole does
pub record Seeking (I : Instance) (j : Jobs) (x : Assignment) (s : Search) : Type 0 where
  pub fuel : ℕ
  pub enough : s.level ≤ failed1 s.failed + fuel
  pub same : B.search_by I x fuel (search_of j s) (opened s) ≡ B.balance I x
  pub is_set : SetOf (λ i. mem i (search_of j s).group) (failed_set s.failed)
  pub permitted : Permitted I (take j.n s.kept.places)
  pub kept : Kept I (take j.n s.kept.places) s.kept.loads
