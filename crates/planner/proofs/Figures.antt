-- The numbers of balance and of settle fit their columns, and a group is of at most 24.
use Prim.Native.Nat.{ℕ, ◌≤◌, ◌<◌, ◌^◌}
use mathlib.Core.Bool.{Bool, true, false}
use mathlib.Core.List.{List, []}
use native.Mathlib.Nat.{le_refl, le_trans}
use native.Mathlib.Omega.{arith}
use lib.ListN.{length}
use Rattle.rules.specs.Fold.{pick, sum_to}
use Rattle.rules.specs.Instance.{Instance, Assignment, instance, places}
use Rattle.rules.specs.Load.{longest, makespan}
use Rattle.rules.specs.LowerBound.{lower_bound}
use Rattle.rules.specs.Plan.{Balanced, balanced, Rested, rested}
use Rattle.rules.specs.Run.{balance_book, settle_book}
use Rattle.theory.proofs.Fold.{sum_to-bound}
use Rattle.theory.proofs.Valid.{Valid, Permitted}
use Rattle.theory.proofs.Closure.{IsGroup, those}
use Rattle.theory.proofs.Those.{those-length}
use Rattle.theory.proofs.Confined.{share-makespan}
use Rattle.theory.proofs.Balancing.{Showing, unfailed, showed, balance-found}
use Rattle.theory.proofs.Planning.{bound-le, rested-no-later, rested-moves, balanced-no-later, balanced-lifts, balanced-pushes, balanced-showing}
use Rattle.theory.proofs.Small.{Small, longest-small, makespan-small, lifts-small, pushes-small, squares-small}
use Rattle.sheet.specs.declared.Sheet.{Sheet}
use Rattle.sheet.specs.Represent.{Sound, book_of}
use Rattle.sheet.proofs.SoundViews.{view-valid, view-permitted, view-small}

-- ---- groups

those-few : (m : ℕ) (p : ℕ → Bool) → sum_to m (λ i. pick (p i) 1 0) ≤ m
those-few m p = omega (arith, sum_to-bound m (λ i. pick (p i) 1 0) 1 (λ i l u. small (p i)))
  where
    small : (t : Bool) → pick t 1 0 ≤ 1
    small true = le_refl 1
    small false = omega arith

pub group-few : {I : Instance} {g : List ℕ} → IsGroup I g → length g ≤ I.m
group-few {I} (those p) = omega (arith, those-length I.m p, those-few I.m p)

showing-few : {I : Instance} {l : ℕ} {g : List ℕ} → Showing I l g → length g ≤ I.m
showing-few unfailed = omega arith
showing-few (showed f g h) = group-few h.group

showing-bound : {I : Instance} {l : ℕ} {g : List ℕ} (x : Assignment) → Permitted I x → longest I ≤ 322560 → makespan I x ≤ 322560
    → Showing I l g → lower_bound I g ≤ 322560
showing-bound {I} x w e f unfailed = bound-le I [] 322560 e (λ p. absurd (omega arith))
showing-bound {I} x w e f (showed l g h) = bound-le I g 322560 e (λ p. le_trans (share-makespan I x g w h.group p) f)

-- ---- on a sound sheet

-- six columns for each number of balance
pub record SmallBalance (b : Balanced) : Type 0 where
  pub makespan : b.makespan < 1000000
  pub bound : b.lower_bound < 1000000
  pub level : b.level < 1000000
  pub lifts : b.lifts < 1000000
  pub pushes : b.pushes < 1000000
  pub few : length b.group ≤ 24

-- six for settle's makespan, and twelve for its moves
pub record SmallRest (z : Rested) : Type 0 where
  pub makespan : z.makespan < 1000000
  pub moves : z.moves < 10 ^ 12

module _ (I : Instance) (x : Assignment) (a : Valid I) (b : Permitted I x) (s : Small I) where
  level-few : (balanced I x).level ≤ makespan I x
  unfolding balanced
  level-few = (balance-found I x a b).kept.below

  bound-few : (balanced I x).lower_bound ≤ 322560
  unfolding balanced
  bound-few = showing-bound x b (omega (arith, longest-small s)) (makespan-small s x) (balanced-showing I x a b)

  small-balance : SmallBalance (balanced I x)
  small-balance = record {
    makespan = omega (arith, balanced-no-later I x a b, makespan-small s x);
    bound = omega (arith, bound-few);
    level = omega (arith, level-few, makespan-small s x);
    lifts = omega (arith, balanced-lifts I x a b, lifts-small s);
    pushes = omega (arith, balanced-pushes I x a b, pushes-small s);
    few = omega (arith, showing-few (balanced-showing I x a b), s.machines);
  }

  pub small-rest : SmallRest (rested I x)
  small-rest = record {
    makespan = omega (arith, rested-no-later a b, makespan-small s x);
    moves = omega (arith, rested-moves a b, squares-small s x);
  }

pub balance-fits : (s : Sheet) → Sound s → SmallBalance (balance_book (book_of s))
balance-fits s v =
    small-balance (instance (book_of s)) (places (book_of s)) (view-valid s v) (view-permitted s v) (view-small s v)

pub settle-fits : (s : Sheet) → Sound s → SmallRest (settle_book (book_of s))
settle-fits s v = small-rest (instance (book_of s)) (places (book_of s)) (view-valid s v) (view-permitted s v) (view-small s v)
