-- What settling and review say over arrays: placements with their loads beside them, and moves.
use Rattle.std.specs.Prelude.{ℕ, ◌+◌, ◌-◌, ◌≤◌, ◌<◌, ◌≡◌, Bool, not, List, Option, length, take, drop, get_or, set, eqb}
use Rattle.rules.specs.Fold.{◌and◌, at}
use Rattle.rules.specs.Instance.{Instance}
use Rattle.rules.specs.Load.{load, review}
use Rattle.rules.specs.Settle.{mover, moved, settle}
use Rattle.theory.proofs.Valid.{Permitted}
use Rattle.arrays.specs.declared.Jobs.{Jobs}
use Rattle.arrays.specs.declared.Placement.{Placement}
use Rattle.arrays.specs.Found.{found}
use Rattle.arrays.specs.Jobs.{Says}
use Rattle.arrays.specs.Reads.{Reads}
use Rattle.arrays.specs.Sets.{has}

-- places with the loads beside them, of any length
abbrev pub placed : List ℕ → List ℕ → Placement
placed x l = record { places = x; loads = l }

-- machine i is another one of the set than `place`
unfoldable pub other : ℕ → ℕ → ℕ → Bool
other mask place i = has mask i and not (eqb i place)

-- the loads after w minutes go from the machine at index i to the one at index j
abbrev pub shifted : List ℕ → ℕ → ℕ → ℕ → List ℕ
shifted l i j w = let left = set l i (get_or l i 0 - w) in set left j (get_or left j 0 + w)

-- each of c jobs has a place that it may have, and the loads of the m machines stand beside
pub record Placed (I : Instance) (m c : ℕ) (places loads : List ℕ) : Type 0 where
  pub permitted : Permitted I (take c places)
  pub long : m ≤ length loads
  pub each : (i : ℕ) → 0 < i → i ≤ m → at loads i ≡ load I (take c places) i

abbrev pub Placing : Instance → Jobs → Placement → Type 0
Placing I j p = Placed I j.m j.n p.places p.loads

-- the jobs say some instance
pub record Said (j : Jobs) : Type 0 where
  pub I : Instance
  pub reads : Says I j

-- some instance, with a placement and its loads
pub record Known (j : Jobs) (p : Placement) : Type 0 where
  pub said : Said j
  pub placing : Placing said.I j p

-- some instance of c jobs that lists of any length say, with a placement and its loads
pub record KnownIn (m c : ℕ) (lengths sets places loads : List ℕ) : Type 0 where
  pub I : Instance
  pub reads : Reads I m c lengths sets
  pub timed : c ≤ length lengths
  pub listed : c ≤ length sets
  pub placing : Placed I m c places loads

-- job b is the one that moves next
pub record Due (j : Jobs) (p : Placement) (b : ℕ) : Type 0 where
  pub known : Known j p
  pub next : mover known.said.I (take j.n p.places) ≡ b

-- job b has moved
pub record Moved (I : Instance) (j : Jobs) (old new : Placement) (b : ℕ) : Type 0 where
  pub assignment : take j.n new.places ≡ moved I (take j.n old.places) b
  pub placing : Placing I j new
  pub rest : drop j.n new.places ≡ drop j.n old.places

-- the end of settling
pub record SettledTo (I : Instance) (j : Jobs) (old new : Placement) (moves : ℕ) : Type 0 where
  pub assignment : take j.n new.places ≡ (settle I (take j.n old.places)).assignment
  pub count : moves ≡ (settle I (take j.n old.places)).moves
  pub placing : Placing I j new
  pub rest : drop j.n new.places ≡ drop j.n old.places

-- the answer to review
pub record ReviewIs (I : Instance) (j : Jobs) (p : Placement) (makespan : ℕ) (improving : Option ℕ) : Type 0 where
  pub each : take j.m p.loads ≡ (review I (take j.n p.places)).loads
  pub greatest : makespan ≡ (review I (take j.n p.places)).makespan
  pub lowest : improving ≡ found (review I (take j.n p.places)).improving
