-- The search over levels: it ends with level f failed, or none, and p = f + 1 kept, whose assignment is permitted, ends no later
-- than the standing one, and has no load above p + longest.
use Prim.Native.Nat.{ℕ, zero, suc, ◌+◌, ◌≤◌, ◌<◌}
use mathlib.Core.Path.{◌≡◌, refl}
use mathlib.Core.Bool.{Bool, true, false}
use mathlib.Core.List.{List, []}
use native.Mathlib.Nat.{le_refl}
use native.Mathlib.Omega.{arith}
use borrow.Author.Tests.{ltb-true, ltb-false}
use Rattle.rules.specs.Instance.{Instance, Assignment}
use Rattle.rules.specs.Load.{load, longest, makespan}
use Rattle.rules.specs.Trial.{at_level, ended, lift_bound, push_bound}
use Rattle.rules.specs.Group.{Tried, passed, failed, trial}
use Rattle.rules.specs.Balance.{Search, middle, learn, open-gap, search_by, standing, balance}
use Rattle.theory.proofs.Valid.{Valid, Permitted}
use Rattle.theory.proofs.Makespan.{makespan-ge}
use Rattle.theory.proofs.Heights.{permitted-partial}
use Rattle.theory.proofs.Ending.{trial-lifts, trial-pushes}
use Rattle.theory.proofs.Trial.{ShowsLate, Outcome, passes, fails, outcome, trial-permitted}
use Rattle.theory.proofs.Quiet.{pass-no-later}

-- what the search knows of f, kept as f + 1: no trial has failed, or level f showed its group
pub data Showing (I : Instance) : ℕ → List ℕ → Type 0 where
  unfailed : Showing I 0 []
  showed : (f : ℕ) (g : List ℕ) → ShowsLate I f g → Showing I (suc f) g

-- the counts shown with a level: none where it is the standing one, which no trial gave, and otherwise those that its trial made
pub data Counts (I : Instance) (x : Assignment) : ℕ → ℕ → ℕ → Type 0 where
  untried : Counts I x (makespan I x) 0 0
  made : (a : ℕ) → Counts I x a (ended I x a).lifts (ended I x a).pushes

module _ (I : Instance) (x : Assignment) (v : Valid I) (w : Permitted I x) where
  pub record SearchKept (s : Search) : Type 0 where
    pub gap : s.failed1 ≤ s.level
    pub below : s.level ≤ makespan I x
    pub permitted : Permitted I s.assignment
    pub loads : (i : ℕ) → 0 < i → i ≤ I.m → load I s.assignment i ≤ s.level + longest I
    pub no_later : makespan I s.assignment ≤ makespan I x
    pub shown : Showing I s.failed1 s.group
    pub counts : Counts I x s.level s.lifts s.pushes
    pub lifts : s.lifts ≤ lift_bound I
    pub pushes : s.pushes ≤ push_bound I

  kept-standing : SearchKept (standing I x)
  kept-standing = record {
    gap = omega arith;
    below = le_refl _;
    permitted = w;
    loads = λ i p q. omega (arith, makespan-ge I x i p q);
    no_later = le_refl _;
    shown = unfailed;
    counts = untried;
    lifts = omega arith;
    pushes = omega arith;
  }

  -- one trial more, at a level from f + 1 up to below p
  learned : (s : Search) (a : ℕ) → SearchKept s → s.failed1 ≤ a → a < s.level → {t : Tried} → Outcome I x v w a t → SearchKept (learn s a t)
  learned s a k l u (passes p) = record {
    gap = l;
    below = omega (arith, k.below);
    permitted = trial-permitted I x v w (at_level I a);
    loads = p.loads;
    no_later = pass-no-later I x v w a p;
    shown = k.shown;
    counts = made a;
    lifts = trial-lifts I x (permitted-partial w) (at_level I a);
    pushes = trial-pushes I x (permitted-partial w) (at_level I a);
  }
  learned s a k l u (fails g f) = record {
    gap = u;
    below = k.below;
    permitted = k.permitted;
    loads = k.loads;
    no_later = k.no_later;
    shown = showed a g f.shows;
    counts = k.counts;
    lifts = k.lifts;
    pushes = k.pushes;
  }

  -- a trial more closes the gap further
  closer : (s : Search) (a : ℕ) → s.failed1 ≤ a → a < s.level → (t : Tried)
      → (learn s a t).level + s.failed1 < s.level + (learn s a t).failed1
  closer s a l u (passed y r b) = omega arith
  closer s a l u (failed g r b) = omega arith

  pub record SearchFound (s : Search) : Type 0 where
    pub kept : SearchKept s
    pub closed : s.failed1 ≡ s.level

  search-found : (t : ℕ) (s : Search) → SearchKept s → s.level ≤ t + s.failed1 → (more : Bool) → open-gap s ≡ more → SearchFound (search_by I x t s more)
  unfolding search_by
  search-found zero s k h more e = record { kept = k; closed = omega (arith, k.gap) }
  search-found (suc t) s k h false e = record { kept = k; closed = omega (arith, k.gap, ltb-false s.failed1 s.level e) }
  search-found (suc t) s k h true e =
      let g = ltb-true s.failed1 s.level e in
      let l : s.failed1 ≤ middle s = omega arith in
      let u : middle s < s.level = omega arith in
      search-found t _ (learned s (middle s) k l u (outcome I x v w (middle s)))
      (omega (arith, closer s (middle s) l u (trial I x (middle s)))) _ refl

  pub balance-found : SearchFound (balance I x)
  unfolding balance
  balance-found = search-found (makespan I x) (standing I x) kept-standing (omega arith) _ refl
