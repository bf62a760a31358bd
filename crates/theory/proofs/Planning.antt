-- Balance and settle, from a permitted assignment. What balance leaves is permitted and no later, and on an instance with a job it is
-- within longest − g of every permitted assignment, for each g of which every length is a multiple, and within longest − 1 of the lower
-- bound, which has its witness. What settle leaves is permitted, settled and no later.
use Prim.Native.Nat.{ℕ, suc, ◌+◌, ◌*◌, ◌≤◌, ◌<◌, ◌∣◌}
use mathlib.Core.Path.{◌≡◌, refl, ap, ◌∙◌}
use mathlib.Core.Bool.{Bool, true, false}
use mathlib.Core.List.{List, [], ◌∷◌}
use native.Mathlib.Nat.{le_refl, dvd-add}
use native.Mathlib.Omega.{arith}
use lib.ListN.{length}
use lib.Dec.{ltb, eqb}
use borrow.Author.Tests.{eq-eqb}
use Rattle.rules.specs.Fold.{◌or◌, most, any_to}
use Rattle.rules.specs.Instance.{Instance, Assignment, n, minutes_of}
use Rattle.rules.specs.Load.{longest, makespan, equilibrium}
use Rattle.rules.specs.Trial.{lift_bound, push_bound}
use Rattle.rules.specs.Settle.{squares}
use Rattle.rules.specs.Balance.{balance}
use Rattle.rules.specs.LowerBound.{share, confined, lower_bound, is_share, witnessed}
use Rattle.rules.specs.Round.{multiples, close_to}
use Rattle.rules.specs.Plan.{balanced, rested}
use Rattle.theory.proofs.Logic.{or_left, or_right}
use Rattle.theory.proofs.View.{any_at, most-left, most-right}
use Rattle.theory.proofs.Valid.{Valid, Permitted}
use Rattle.theory.proofs.Makespan.{makespan-le, longest-some, longest-makespan}
use Rattle.theory.proofs.Round.{close-mk, multiples-apart, makespan-multiple, longest-multiple}
use Rattle.theory.proofs.Settling.{settle-permitted, settle-equilibrium, settle-moves, settle-no-later}
use Rattle.theory.proofs.Confined.{ceil-gt, share-makespan}
use Rattle.theory.proofs.Trial.{ShowsLate, shows-late}
use Rattle.theory.proofs.Balancing.{Showing, unfailed, showed, Counts, SearchFound, balance-found}

-- ---- the lower bound

most-is : (a b : ℕ) → (t : Bool) → ltb a b ≡ t → (P : ℕ → Type 0) → P a → P b → P (most a b)
unfolding most
most-is a b true e P p q = rw e q
most-is a b false e P p q = rw e p

pub bound-longest : (I : Instance) (g : List ℕ) → longest I ≤ lower_bound I g
unfolding lower_bound
bound-longest I [] = le_refl _
bound-longest I (i ∷ g) = most-left _ _

pub bound-share : (I : Instance) (g : List ℕ) → 0 < length g → share I g ≤ lower_bound I g
unfolding lower_bound
bound-share I [] h = absurd (omega arith)
bound-share I (i ∷ g) h = most-right (longest I) (share I (i ∷ g))

-- below whatever is at least the longest length and at least the group's share
pub bound-le : (I : Instance) (g : List ℕ) (c : ℕ) → longest I ≤ c → (0 < length g → share I g ≤ c) → lower_bound I g ≤ c
unfolding lower_bound
bound-le I [] c h k = h
bound-le I (i ∷ g) c h k = most-is (longest I) (share I (i ∷ g)) _ refl (λ v. v ≤ c) h (k (omega arith))

longest-any : (I : Instance) → 0 < n I → any_to (n I) (λ b. eqb (minutes_of I b) (longest I)) ≡ true
longest-any I some = let r = longest-some I some in any_at (n I) _ r.0 r.1 r.2 (eq-eqb _ _ r.3)

-- it comes from a job of its length, or from the group
pub bound-witness : (I : Instance) (g : List ℕ) → 0 < n I → witnessed I g (lower_bound I g) ≡ true
unfolding lower_bound witnessed
bound-witness I [] some = or_left _ _ (longest-any I some)
bound-witness I (i ∷ g) some =
    most-is (longest I) (share I (i ∷ g)) _ refl
    (λ v. (any_to (n I) (λ b. eqb (minutes_of I b) v) or is_share I (i ∷ g) v) ≡ true)
    (or_left _ _ (longest-any I some))
    (or_right (any_to (n I) (λ b. eqb (minutes_of I b) (share I (i ∷ g)))) _ (eq-eqb (share I (i ∷ g)) (share I (i ∷ g)) refl))

-- ---- settle

module _ {I : Instance} {x : Assignment} (v : Valid I) (w : Permitted I x) where
  pub rested-permitted : Permitted I (rested I x).assignment
  unfolding rested
  rested-permitted = settle-permitted v w

  pub rested-settled : equilibrium I (rested I x).assignment ≡ true
  unfolding rested
  rested-settled = settle-equilibrium v w

  pub rested-makespan : (rested I x).makespan ≡ makespan I (rested I x).assignment
  unfolding rested
  rested-makespan = refl

  pub rested-no-later : (rested I x).makespan ≤ makespan I x
  unfolding rested
  rested-no-later = settle-no-later v w

  -- the moves are at most half the sum of squared loads
  pub rested-moves : 2 * (rested I x).moves ≤ squares I x
  unfolding rested
  rested-moves = settle-moves v w

-- ---- balance

module _ (I : Instance) (x : Assignment) (v : Valid I) (w : Permitted I x) where
  found : SearchFound I x v w (balance I x)
  found = balance-found I x v w

  pub balanced-permitted : Permitted I (balanced I x).assignment
  unfolding balanced
  balanced-permitted = found.kept.permitted

  pub balanced-makespan : (balanced I x).makespan ≡ makespan I (balanced I x).assignment
  unfolding balanced
  balanced-makespan = refl

  pub balanced-no-later : (balanced I x).makespan ≤ makespan I x
  unfolding balanced
  balanced-no-later = found.kept.no_later

  -- the counts are those that the trial of the level kept made
  pub balanced-counts : Counts I x (balanced I x).level (balanced I x).lifts (balanced I x).pushes
  unfolding balanced
  balanced-counts = found.kept.counts

  pub balanced-lifts : (balanced I x).lifts ≤ lift_bound I
  unfolding balanced
  balanced-lifts = found.kept.lifts

  pub balanced-pushes : (balanced I x).pushes ≤ push_bound I
  unfolding balanced
  balanced-pushes = found.kept.pushes

  -- no load is above level + longest
  pub balanced-loads : (balanced I x).makespan ≤ (balanced I x).level + longest I
  unfolding balanced
  balanced-loads = makespan-le I (balance I x).assignment _ found.kept.loads

  -- the level and the group reported: no trial failed and the level is 0, or the level below failed with the group
  pub balanced-showing : Showing I (balanced I x).level (balanced I x).group
  unfolding balanced
  balanced-showing = rw (← found.closed) found.kept.shown

  balanced-bound : (balanced I x).lower_bound ≡ lower_bound I (balanced I x).group
  unfolding balanced
  balanced-bound = refl

  -- ---- with a job

  module _ (some : 0 < n I) where
    pub longest-pos : 0 < longest I
    longest-pos = let r = longest-some I some in omega (arith, v.minutes r.0 r.1 r.2, r.3)

    -- every permitted assignment ends at level + 1 or later, unless the level is 0
    late : {p : ℕ} {g : List ℕ} → Showing I p g → (y : Assignment) → Permitted I y → suc p ≤ makespan I y
    late unfailed y z = omega (arith, longest-makespan v z, longest-pos)
    late (showed f g h) y z = omega (arith, shows-late I f g h longest-pos y z)

    -- above it by less than longest; all three are multiples of g, so by longest − g or less
    pub balanced-close : (g : ℕ) → multiples I g ≡ true → (y : Assignment) → Permitted I y
        → close_to I g (balanced I x).makespan (makespan I y) ≡ true
    balanced-close g e y z =
        let a : g ∣ (balanced I x).makespan = rw balanced-makespan (makespan-multiple I g e (balanced I x).assignment) in
        let b : g ∣ makespan I y + longest I = dvd-add _ (makespan-multiple I g e y) (longest-multiple I g e) in
        close-mk I _ _ _ (omega (arith, multiples-apart g _ _ a b (omega (arith, balanced-loads, late balanced-showing y z))))

    -- the lower bound is one
    below : {p : ℕ} {g : List ℕ} → Showing I p g → (y : Assignment) → Permitted I y → lower_bound I g ≤ makespan I y
    below unfailed y z = bound-le I [] _ (longest-makespan v z) (λ h. absurd (omega arith))
    below (showed f g h) y z = bound-le I g _ (longest-makespan v z) (λ p. share-makespan I y g z h.group p)

    pub balanced-bound-below : (y : Assignment) → Permitted I y → (balanced I x).lower_bound ≤ makespan I y
    balanced-bound-below y z = rw balanced-bound (below balanced-showing y z)

    -- a failed level's group shows 2 more than it
    share-gt : (f : ℕ) (g : List ℕ) → ShowsLate I f g → suc f < share I g
    unfolding share
    share-gt f g h = ceil-gt (confined I g) (suc f) (length g) h.some (omega (arith, h.confines, longest-pos))

    above : {p : ℕ} {g : List ℕ} → Showing I p g → suc p ≤ lower_bound I g
    above unfailed = omega (arith, bound-longest I [], longest-pos)
    above (showed f g h) = omega (arith, bound-share I g h.some, share-gt f g h)

    pub balanced-near-bound : close_to I 1 (balanced I x).makespan (balanced I x).lower_bound ≡ true
    balanced-near-bound = close-mk I 1 _ _ (rw balanced-bound (omega (arith, balanced-loads, above balanced-showing)))

    pub balanced-witness : witnessed I (balanced I x).group (balanced I x).lower_bound ≡ true
    balanced-witness = rw balanced-bound (bound-witness I (balanced I x).group some)

    -- some trial passed: the level kept is below the standing makespan
    pub balanced-level : (balanced I x).level < makespan I x
    balanced-level = late balanced-showing x w

    -- where no trial failed, the makespan, the lower bound and the longest length are one number
    unfailed-exact : {p : ℕ} {g : List ℕ} → Showing I p g → g ≡ [] → (p ≡ 0) × (lower_bound I g ≡ longest I)
    unfolding lower_bound
    unfailed-exact unfailed e = (refl, refl)
    unfailed-exact (showed f g h) e = absurd (omega (arith, h.some, ap length e))

    pub balanced-unfailed : (balanced I x).group ≡ [] → ((balanced I x).makespan ≡ longest I) × ((balanced I x).lower_bound ≡ longest I)
    balanced-unfailed e =
        let r = unfailed-exact balanced-showing e in
        (omega (arith, balanced-loads, r.0, longest-makespan v balanced-permitted, balanced-makespan), balanced-bound ∙ r.1)
