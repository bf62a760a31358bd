-- A trial on arrays from a permitted assignment: how it starts, and what it leaves.
use Rattle.std.specs.Prelude.{ℕ, ◌≡◌, List, take, Some, None}
use Rattle.rules.specs.Fold.{mem}
use Rattle.rules.specs.Instance.{Instance, Assignment}
use Rattle.rules.specs.Group.{trial, passed, failed}
use Rattle.theory.proofs.Valid.{Permitted}
use Rattle.theory.proofs.Closure.{IsGroup}
use Rattle.arrays.specs.declared.Jobs.{Jobs}
use Rattle.arrays.specs.declared.Placement.{Placement}
use Rattle.arrays.specs.Jobs.{Says}
use Rattle.arrays.specs.Reads.{Kept}
use Rattle.arrays.specs.Sets.{SetOf}
use Rattle.trials.specs.declared.trial.Attempt.{Attempt}

-- a permitted assignment and its loads, of the instance that the jobs say
pub record Standing (I : Instance) (j : Jobs) (p : Placement) : Type 0 where
  pub reads : Says I j
  pub permitted : Permitted I (take j.n p.places)
  pub kept : Kept I (take j.n p.places) p.loads

-- the rules' trial from x at level a fails, with this group as a set
pub record Failure (I : Instance) (x : Assignment) (a group lifts pushes : ℕ) : Type 0 where
  pub machines : List ℕ
  pub is_group : IsGroup I machines
  pub is_set : SetOf (λ i. mem i machines) group
  pub fails : trial I x a ≡ failed machines lifts pushes

-- what the rules' trial from x at level a gives: the places, or a group as a set
pub record Tries (I : Instance) (x : Assignment) (a c : ℕ) (t : Attempt) : Type 0 where
  pub passes : t.failed ≡ None → trial I x a ≡ passed (take c t.end.places) t.lifts t.pushes
  pub fails : (group : ℕ) → t.failed ≡ Some group → Failure I x a group t.lifts t.pushes
  pub permitted : Permitted I (take c t.end.places)
  pub kept : Kept I (take c t.end.places) t.end.loads
