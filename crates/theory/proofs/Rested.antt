-- Where a trial ends, at any limits and from wherever it may start: no machine is underloaded, or nothing can act. If something overflows
-- then, there is a closed group with no underloaded machine, and every permitted assignment has a load above its machine's lower limit.
use Prim.Native.Nat.{ℕ, ◌+◌, ◌*◌, ◌≤◌, ◌<◌}
use mathlib.Core.Path.{◌≡◌}
use mathlib.Core.Bool.{true, false}
use mathlib.Core.List.{List}
use native.Mathlib.Omega.{arith}
use native.Mathlib.Decide.{dec_le}
use lib.Dec.{ltb}
use borrow.Author.Tests.{ltb-true, ltb-false}
use Rattle.rules.specs.Fold.{pick, at, mem, any_to, those_to}
use Rattle.rules.specs.Instance.{Instance, Assignment, n}
use Rattle.rules.specs.Load.{load}
use Rattle.rules.specs.Trial.{Limits, State, rest, start, ended_by, lift_bound, push_bound, overloaded, unplaced, some_underloaded, can, job_deed, machine_deed}
use Rattle.rules.specs.Group.{overflows, closure}
use Rattle.theory.proofs.Logic.{by_test, conflict, or_cases}
use Rattle.theory.proofs.Fold.{sum_to-gain}
use Rattle.theory.proofs.View.{None, Some, here, any_some, any_none}
use Rattle.theory.proofs.Valid.{Valid, Permitted, Partial, on-machine}
use Rattle.theory.proofs.Those.{those-range, those-mem}
use Rattle.theory.proofs.Step.{Step, step}
use Rattle.theory.proofs.Heights.{Shape, unplaced-eq, shape-step, shape-start}
use Rattle.theory.proofs.Steps.{run-keeps}
use Rattle.theory.proofs.Ending.{trial-rests}
use Rattle.theory.proofs.Underloaded.{Apart, Heavy, heavy-step, heavy-start, Runnable, runnable, unplaced-can, overloaded-can, none-underloaded}
use Rattle.theory.proofs.Closure.{IsGroup, those, group-range, Closed, closure-group, closure-holds, closure-closed}
use Rattle.theory.proofs.Tall.{closure-tall}
use Rattle.theory.proofs.Confined.{on_group, group-jobs, closed-confines, confined-on}

-- ---- a closed group with no underloaded machine

pub record Crowded (I : Instance) (a : Limits) (x : Assignment) (g : List ℕ) : Type 0 where
  pub group : IsGroup I g
  pub closed : Closed I x g
  pub some : Some I.m (λ i. mem i g)
  pub heavy : (j : ℕ) → mem j g ≡ true → a.low j < load I x j

-- some load is above its machine's lower limit
abbrev pub Above : Instance → Limits → Assignment → Type 0
Above I a y = (i : ℕ) × (0 < i) × (i ≤ I.m) × (a.low i < load I y i)

-- what is on the group is confined to it, so no permitted assignment puts less there
pub crowded-above : {I : Instance} {a : Limits} {x : Assignment} {g : List ℕ} → Crowded I a x g → Valid I
    → (y : Assignment) → Permitted I y → Above I a y
unfolding on_group
crowded-above {I} {a} {x} {g} c v y w =
    by_test (any_to I.m (λ i. ltb (a.low i) (load I y i)))
    (λ t. found (any_some I.m _ t))
    (λ t. absurd (less (any_none I.m _ t) c.some))
  where
    found : Some I.m (λ i. ltb (a.low i) (load I y i)) → Above I a y
    found (here i p q e) = (i, p, q, ltb-true _ _ e)

    less : None I.m (λ i. ltb (a.low i) (load I y i)) → Some I.m (λ i. mem i g) → ⊥
    less k (here i p q e) =
        let z = sum_to-gain I.m (λ j. pick (mem j g) (load I y j) 0) (λ j. pick (mem j g) (load I x j) 0) i p q
        (λ j j0 jm. by_test (mem j g)
        (λ t. rw t (omega (arith, c.heavy j t, ltb-false (a.low j) (load I y j) (k j j0 jm))))
        (λ t. rw t (omega arith)))
        (rw e (omega (arith, c.heavy i e, ltb-false (a.low i) (load I y i) (k i p q)))) in
        omega (
          arith,
          group-jobs I x g c.group,
          group-jobs I y g c.group,
          closed-confines I x g v c.closed,
          confined-on I y g w,
        )

-- ---- a state where nothing acts

-- what a trial's steps keep
pub record TrialKept (I : Instance) (a : Limits) (s : State) : Type 0 where
  pub shape : Shape I s
  pub heavy : Heavy I a s

module _ (I : Instance) (a : Limits) (s : State) where
  -- no machine is underloaded: all machines
  pub dark-crowded : some_underloaded I a s ≡ false → 0 < I.m → Crowded I a s.assignment (those_to I.m (λ i. true))
  unfolding Closed
  dark-crowded t p = record {
    group = those _;
    closed = λ b j _ _ e l u r. those-mem I.m (λ i. true) j l u;
    some = here 1 (omega arith) p (those-mem I.m (λ i. true) 1 (omega arith) p);
    heavy = λ j e. let w = those-range I.m _ j e in none-underloaded I a s t j w.0 w.1;
  }

  -- nothing can act: the closure of an overloaded machine
  pub stuck-crowded : TrialKept I a s → None I.m (λ i. can (machine_deed I a s i))
      → (i : ℕ) → 0 < i → i ≤ I.m → overloaded I a s i ≡ true → Crowded I a s.assignment (closure I s.assignment i)
  unfolding Heavy
  stuck-crowded k z i p q o =
      let tall : 2 * I.m < at s.machine_heights i
      = elim (dec_le (at s.machine_heights i) (2 * I.m)) [
        | yes l ↦ conflict (overloaded-can I a s i k.shape p o l) (z i p q)
        | no l ↦ omega arith
      ] in
      let g = closure-group I s.assignment i p q in
      record {
        group = g;
        closed = closure-closed I s.assignment i p q;
        some = here i p q (closure-holds I s.assignment i p q);
        heavy = λ j e. k.heavy j (group-range g j e).0 (closure-tall I s k.shape i p q tall j e);
      }

  -- and no job is without a place that has a machine
  pub stuck-placed : Shape I s → Runnable I → None (n I) (λ b. can (job_deed I a s b)) → (b : ℕ) → 0 < b → b ≤ n I → 0 < at s.assignment b
  unfolding Runnable
  stuck-placed v r z b p q =
      elim (dec_le 1 (at s.assignment b)) [
        | yes l ↦ l
        | no l ↦ conflict (unplaced-can I a s b v (omega arith) (r b p q)) (z b p q)
      ]

  -- with every job placed, what overflows is a machine
  pub over-some : overflows I a s ≡ true → ((b : ℕ) → 0 < b → b ≤ n I → 0 < at s.assignment b) → Some I.m (λ i. overloaded I a s i)
  unfolding overflows
  over-some e h =
      or_cases (any_to (n I) (λ b. unplaced s b)) (any_to I.m (λ i. overloaded I a s i)) e
      (λ t. no-job (any_some (n I) _ t))
      (λ t. any_some I.m _ t)
    where
      no-job : Some (n I) (λ b. unplaced s b) → Some I.m (λ i. overloaded I a s i)
      no-job (here b p q r) = absurd (omega (arith, h b p q, unplaced-eq s b r))

-- ---- the end of a trial

module _ (I : Instance) (x : Assignment) (w : Partial I x) (a : Limits) where
  pub end-rests : Step I a (ended_by I x a) rest
  end-rests = rw (trial-rests I x w a) at (step I a (ended_by I x a))

  pub end_kept : Apart I a → TrialKept I a (ended_by I x a)
  unfolding ended_by
  end_kept c =
      run-keeps I a (TrialKept I a)
      (λ s h. record { shape = shape-step I a s h.shape; heavy = heavy-step I a c s h.shape h.heavy })
      (lift_bound I + push_bound I) (start I x)
      (record { shape = shape-start I x w; heavy = heavy-start I x a })

  -- a trial that ends with something overflowing: every permitted assignment has a load above its machine's lower limit
  pub overflow-above : Valid I → Apart I a → overflows I a (ended_by I x a) ≡ true → (y : Assignment) → Permitted I y → Above I a y
  unfolding overflows
  overflow-above v c e y z = from end-rests
    where
      machines : 0 < I.m
      machines =
          or_cases (any_to (n I) (λ b. unplaced (ended_by I x a) b)) _ e (λ t. job (any_some (n I) _ t)) (λ t. machine (any_some I.m _ t))
        where
          job : Some (n I) (λ b. unplaced (ended_by I x a) b) → 0 < I.m
          job (here b p q r) = omega (arith, on-machine v z b p q)

          machine : Some I.m (λ i. overloaded I a (ended_by I x a) i) → 0 < I.m
          machine (here i p q r) = omega arith

      stuck : None I.m (λ i. can (machine_deed I a (ended_by I x a) i)) → Some I.m (λ i. overloaded I a (ended_by I x a) i) → Above I a y
      stuck k (here i p q o) = crowded-above (stuck-crowded I a (ended_by I x a) (end_kept c) k i p q o) v y z

      from : Step I a (ended_by I x a) rest → Above I a y
      from (Step.no_underloaded t) = crowded-above (dark-crowded I a (ended_by I x a) t machines) v y z
      from (Step.stuck t j k) =
          stuck k (over-some I a (ended_by I x a) e (stuck-placed I a (ended_by I x a) (end_kept c).shape (runnable I y v z) j))
