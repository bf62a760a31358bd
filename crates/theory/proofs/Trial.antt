-- One trial from a permitted assignment: it ends with every job in its place, and what a pass and what a failure at a level show (source
-- document 000, Lemma 3.2).
use Prim.Native.Nat.{ℕ, suc, ◌+◌, ◌*◌, ◌≤◌, ◌<◌}
use mathlib.Core.Path.{◌≡◌, refl}
use mathlib.Core.Bool.{true, false}
use mathlib.Core.List.{List}
use native.Mathlib.Nat.{le_trans, mul-le-mul_right}
use native.Mathlib.Omega.{arith}
use native.Mathlib.Decide.{dec_le}
use lib.ListN.{length}
use borrow.Author.Tests.{ltb-false}
use Rattle.rules.specs.Fold.{at, mem, any_to, those_to}
use Rattle.rules.specs.Instance.{Instance, Assignment, n}
use Rattle.rules.specs.Load.{load, longest, makespan}
use Rattle.rules.specs.Trial.{Limits, at_level, State, rest, start, ended, ended_by, lift_bound, push_bound, overloaded, unplaced, some_underloaded, can, machine_deed}
use Rattle.rules.specs.Group.{overflows, group, closure, Tried, passed, failed, trial}
use Rattle.rules.specs.LowerBound.{confined}
use Rattle.theory.proofs.Logic.{by_test, conflict, or-none}
use Rattle.theory.proofs.View.{None, First, first, Some, here, any_none}
use Rattle.theory.proofs.Valid.{Valid, Permitted}
use Rattle.theory.proofs.Those.{those-mem}
use Rattle.theory.proofs.Step.{Step}
use Rattle.theory.proofs.Heights.{Shape, shape-step, shape-start, permitted-partial}
use Rattle.theory.proofs.Steps.{run-keeps}
use Rattle.theory.proofs.Underloaded.{level-apart, Hand, whole, one, hand-step, hand-start, runnable, overloaded-gt}
use Rattle.theory.proofs.Closure.{IsGroup, group-range, group-length, count-some, closure-holds}
use Rattle.theory.proofs.Confined.{group-jobs, closed-confines, heavy-group, confined-makespan}
use Rattle.theory.proofs.Rested.{Crowded, dark-crowded, stuck-crowded, stuck-placed, over-some, TrialKept, end_kept, end-rests}

-- ---- what a group shows at level a

-- A group that holds no underloaded machine, and confines so many minutes that no permitted assignment ends before a + 2.
pub record ShowsLate (I : Instance) (a : ℕ) (g : List ℕ) : Type 0 where
  pub group : IsGroup I g
  pub some : 0 < length g
  pub confines : suc a * length g + longest I ≤ confined I g

-- with a job on the instance, every permitted assignment finishes at a + 2 or later
pub shows-late : (I : Instance) (a : ℕ) (g : List ℕ) → ShowsLate I a g → 0 < longest I → (y : Assignment) → Permitted I y → a + 2 ≤ makespan I y
shows-late I a g h l y w =
    elim (dec_le (a + 2) (makespan I y)) [
      | yes r ↦ r
      | no r ↦ absurd (late (makespan I y) (omega arith) (confined-makespan I y g w h.group))
    ]
  where
    late : (c : ℕ) → c ≤ suc a → confined I g ≤ c * length g → ⊥
    late c r e = omega (arith, h.confines, le_trans e (mul-le-mul_right (length g) r))

-- ---- every job has its place at the end, at any limits

module _ (I : Instance) (x : Assignment) (v : Valid I) (w : Permitted I x) (a : Limits) where
  record Whole (s : State) : Type 0 where
    shape : Shape I s
    hand : Hand I a s

  end_whole : Whole (ended_by I x a)
  unfolding ended_by
  end_whole =
      run-keeps I a Whole
      (λ s h. record { shape = shape-step I a s h.shape; hand = hand-step I x v w a s h.shape h.hand })
      (lift_bound I + push_bound I) (start I x)
      (record { shape = shape-start I x (permitted-partial w); hand = hand-start I x v w a })

  placed : {s : State} → Whole s → Step I a s rest → (b : ℕ) → 0 < b → b ≤ n I → 0 < at s.assignment b
  placed {s} k r b p q = from r k.hand
    where
      from : Step I a s rest → Hand I a s → 0 < at s.assignment b
      from r (whole h) = h b p q
      from (Step.no_underloaded t) (one c c0 cn e h u) = conflict u t
      from (Step.stuck t y z) (one c c0 cn e h u) = stuck-placed I a s k.shape (runnable I x v w) y b p q

  pub trial-placed : (b : ℕ) → 0 < b → b ≤ n I → 0 < at (ended_by I x a).assignment b
  trial-placed = placed end_whole (end-rests I x (permitted-partial w) a)

  -- so the assignment at the end is permitted, passed or not
  pub trial-permitted : Permitted I (ended_by I x a).assignment
  trial-permitted = record {
    size = end_whole.shape.jobs;
    listed = λ b p q. end_whole.shape.listed b (at (ended_by I x a).assignment b) (trial-placed b p q) refl;
  }

-- ---- a trial at level a

module _ (I : Instance) (x : Assignment) (v : Valid I) (w : Permitted I x) (a : ℕ) where
  -- ---- a pass

  pub record Passes (s : State) : Type 0 where
    pub loads : (i : ℕ) → 0 < i → i ≤ I.m → load I s.assignment i ≤ a + longest I

  pass_of : (s : State) → overflows I (at_level I a) s ≡ false → Passes s
  unfolding overflows overloaded at_level
  pass_of s e =
      let r = or-none (any_to (n I) (λ b. unplaced s b)) _ e in
      record { loads = λ i p q. ltb-false _ _ (any_none I.m _ r.1 i p q) }

  -- ---- a failure

  -- the group that document 01 describes: all machines, or the closure of the lowest overloaded one
  pub data Describes (s : State) : List ℕ → Type 0 where
    everything : some_underloaded I (at_level I a) s ≡ false → Describes s (those_to I.m (λ i. true))
    closure_of : some_underloaded I (at_level I a) s ≡ true → (i : ℕ) → i < I.m → overloaded I (at_level I a) s (suc i) ≡ true
        → None i (λ j. overloaded I (at_level I a) s j) → Describes s (closure I s.assignment (suc i))

  pub record Fails (s : State) (g : List ℕ) : Type 0 where
    pub over : Some I.m (λ i. overloaded I (at_level I a) s i)
    pub shows : ShowsLate I a g
    pub heavy : (j : ℕ) → mem j g ≡ true → a < load I s.assignment j
    pub described : Describes s g

  -- a closed group without an underloaded machine and with an overloaded one
  shows-of : (s : State) (g : List ℕ) (i : ℕ) → Crowded I (at_level I a) s.assignment g → mem i g ≡ true → overloaded I (at_level I a) s i ≡ true
      → ShowsLate I a g
  unfolding at_level
  shows-of s g i c e o =
      let r = c.group in
      let w = group-range r i e in
      record {
        group = r;
        some = rw (group-length r) (count-some I g i w.0 w.1 e);
        confines = rw (group-length r)
            (omega (
              arith,
              heavy-group I s.assignment g a (longest I) i w.0 w.1 e (overloaded-gt I (at_level I a) s i o) (λ j p q t. c.heavy j t),
              group-jobs I s.assignment g r,
              closed-confines I s.assignment g v c.closed,
            ));
      }

  fail-by : (s : State) (g : List ℕ) (i : ℕ) → Crowded I (at_level I a) s.assignment g → mem i g ≡ true → 0 < i → i ≤ I.m
      → overloaded I (at_level I a) s i ≡ true → Describes s g → Fails s g
  unfolding at_level
  fail-by s g i c e p q o d = record { over = here i p q o; shows = shows-of s g i c e o; heavy = c.heavy; described = d }

  fail-all : (s : State) → some_underloaded I (at_level I a) s ≡ false → Some I.m (λ i. overloaded I (at_level I a) s i)
      → Fails s (those_to I.m (λ i. true))
  fail-all s t (here i p q o) =
      fail-by s _ i (dark-crowded I (at_level I a) s t (omega arith)) (those-mem I.m (λ i. true) i p q) p q o (everything t)

  fail-stuck : (s : State) → TrialKept I (at_level I a) s → some_underloaded I (at_level I a) s ≡ true
      → None I.m (λ i. can (machine_deed I (at_level I a) s i)) → Some I.m (λ i. overloaded I (at_level I a) s i)
      → {i : ℕ} → First I.m (λ i. overloaded I (at_level I a) s i) i → Fails s (closure I s.assignment i)
  fail-stuck s k t z (here i p q o) (First.nowhere y) = conflict o (y i p q)
  fail-stuck s k t z e (First.found i l o y) =
      fail-by s _ (suc i) (stuck-crowded I (at_level I a) s k z (suc i) (omega arith) l o)
      (closure-holds I s.assignment (suc i) (omega arith) l) (omega arith) l o (closure_of t i l o y)

  fail-of : (s : State) → TrialKept I (at_level I a) s → Step I (at_level I a) s rest
      → Some I.m (λ i. overloaded I (at_level I a) s i) → Fails s (group I (at_level I a) s)
  unfolding group
  fail-of s k (Step.no_underloaded t) e = rw t (fail-all s t e)
  fail-of s k (Step.stuck t y z) e = rw t (fail-stuck s k t z e (first I.m _))

  -- ---- the outcome

  pub data Outcome : Tried → Type 0 where
    passes : Passes (ended I x a) → Outcome (passed (ended I x a).assignment (ended I x a).lifts (ended I x a).pushes)
    fails : (g : List ℕ) → Fails (ended I x a) g → Outcome (failed g (ended I x a).lifts (ended I x a).pushes)

  pub outcome : Outcome (trial I x a)
  unfolding trial
  outcome =
      by_test (overflows I (at_level I a) (ended I x a))
      (λ e. rw e
      (fails _
      (fail-of (ended I x a)
      (end_kept I x (permitted-partial w) (at_level I a) (level-apart I a))
      (end-rests I x (permitted-partial w) (at_level I a))
      (over-some I (at_level I a) (ended I x a) e (trial-placed I x v w (at_level I a))))))
      (λ e. rw e (passes (pass_of (ended I x a) e)))
