-- Document 01, "One trial at a level": pass or failure, and the group of a failure.
use Rattle.std.specs.Prelude.{ℕ, zero, suc, Bool, true, List, eqb}
use Rattle.rules.specs.Fold.{◌and◌, ◌or◌, pick, at, mem, first_to, any_to, those_to}
use Rattle.rules.specs.Instance.{Instance, Assignment, n, eligible}
use Rattle.rules.specs.Trial.{Limits, at_level, State, overloaded, unplaced, some_underloaded, ended}

-- something overflows: a job without a place, or an overloaded machine
unfoldable pub overflows : Instance → Limits → State → Bool
overflows I a s = any_to (n I) (λ b. unplaced s b) or any_to I.m (λ i. overloaded I a s i)

-- one round: the machines of g, and every machine that a job on g may run on
unfoldable pub reach : Instance → Assignment → List ℕ → List ℕ
reach I x g = those_to I.m (λ i. mem i g or any_to (n I) (λ b. mem (at x b) g and eligible I b i))

unfoldable pub reach_by : Instance → Assignment → ℕ → List ℕ → List ℕ
reach_by I x zero g = g
reach_by I x (suc t) g = reach_by I x t (reach I x g)

-- The smallest set that holds machine i and, for each job on the set, all machines that the job may run on. Each round that
-- changes anything adds a machine, so m rounds are enough (theory, Closure).
unfoldable pub closure : Instance → Assignment → ℕ → List ℕ
closure I x i = reach_by I x I.m (those_to I.m (λ j. eqb j i))

-- all machines where none is underloaded; otherwise the closure of the lowest overloaded machine
unfoldable pub group : Instance → Limits → State → List ℕ
group I a s =
    pick (some_underloaded I a s)
    (closure I s.assignment (first_to I.m (λ i. overloaded I a s i)))
    (those_to I.m (λ i. true))

-- a pass gives its assignment, a failure its group; both give the lifts and the pushes made
pub data Tried : Type 0 where
  passed : Assignment → ℕ → ℕ → Tried
  failed : List ℕ → ℕ → ℕ → Tried

-- a trial that ends in s passes where nothing overflows then
abbrev pub verdict : Instance → Limits → State → Tried
verdict I a s =
    pick (overflows I a s) (failed (group I a s) s.lifts s.pushes) (passed s.assignment s.lifts s.pushes)

unfoldable pub trial : Instance → Assignment → ℕ → Tried
trial I x a = verdict I (at_level I a) (ended I x a)
