-- What the arrays say of who improves and where to is what the rules say.
use Prim.Native.Nat.{ℕ, suc, ◌+◌, ◌-◌, ◌≤◌, ◌<◌}
use mathlib.Core.Path.{◌≡◌, refl, sym, ap, ◌∙◌}
use mathlib.Core.Bool.{Bool, true, false}
use mathlib.Core.List.{List}
use native.Mathlib.Omega.{arith}
use lib.ListN.{length, take, get_or}
use lib.Dec.{ltb}
use Rattle.rules.specs.Fold.{◌and◌, at, any_to, least_to}
use Rattle.rules.specs.Instance.{Instance}
use Rattle.rules.specs.Load.{load, elsewhere, improves_at, improves}
use Rattle.rules.specs.Settle.{target}
use Rattle.theory.proofs.Agree.{any-ext, least-ext}
use Rattle.theory.proofs.Valid.{on-machine}
use Rattle.theory.proofs.Small.{load-small}
use Rattle.arrays.specs.declared.Jobs.{Jobs}
use Rattle.arrays.specs.declared.Placement.{Placement}
use Rattle.arrays.specs.Reads.{Reads}
use Rattle.settling.specs.Settling.{other, Placed, Known, KnownIn}
use Rattle.arrays.proofs.Take.{at_take, take_long}
use Rattle.arrays.proofs.Entries.{at-index}

and-swap : (a b : Bool) → a and b ≡ b and a
unfolding ◌and◌
and-swap true true = refl
and-swap true false = refl
and-swap false true = refl
and-swap false false = refl

-- machine i is another one that job b may run on; and the job would finish earlier there
abbrev pub others : Jobs → Placement → ℕ → ℕ → Bool
others j p b i = other (at j.masks.now b) (at p.places b) i

abbrev pub sooner-at : List ℕ → List ℕ → List ℕ → List ℕ → ℕ → ℕ → Bool
sooner-at lengths sets places loads b i =
    ltb (at loads i + at lengths b) (get_or loads (at places b - 1) 0) and other (at sets b) (at places b) i

abbrev pub sooner : Jobs → Placement → ℕ → ℕ → Bool
sooner j p b i = sooner-at j.minutes.now j.masks.now p.places p.loads b i

module _ {I : Instance} {m c : ℕ} {lengths sets places loads : List ℕ} (r : Reads I m c lengths sets) (d : Placed I m c places loads) where
  -- a job's place is a machine
  pub place_in : (b : ℕ) → 0 < b → b ≤ c → (0 < at places b) × (at places b ≤ m)
  place_in b l u =
      let z = on-machine r.valid d.permitted b l (omega (arith, r.jobs)) in
      let e = at_take c places b u in
      (omega (arith, z.0, e), omega (arith, z.1, e, r.machines))

  other-is : (b i : ℕ) → 0 < b → b ≤ c → 0 < i → i ≤ m → other (at sets b) (at places b) i ≡ elsewhere I (take c places) b i
  unfolding other elsewhere
  other-is b i bl bu il iu = rw (r.masks b i bl bu il (omega (arith, r.few)), at_take c places b bu)

  sooner-is : (b i : ℕ) → 0 < b → b ≤ c → 0 < i → i ≤ m → sooner-at lengths sets places loads b i ≡ improves_at I (take c places) b i
  unfolding improves_at
  sooner-is b i bl bu il iu =
      let z = place_in b bl bu in
      rw (
        other-is b i bl bu il iu,
        d.each i il iu,
        r.minutes b bl bu,
        ← at-index loads (at places b) z.0,
        d.each (at places b) z.0 z.1,
        at_take c places b bu,
      )
      (and-swap _ (elsewhere I (take c places) b i))

  pub improves-at : (b : ℕ) → 0 < b → b ≤ c → any_to m (λ i. sooner-at lengths sets places loads b i) ≡ improves I (take c places) b
  unfolding improves
  improves-at b l u =
      any-ext m _ _ (λ i il iu. sooner-is b i l u il iu)
      ∙ ap (λ (k : ℕ). any_to k (λ i. improves_at I (take c places) b i)) (sym r.machines)

  pub target_is : (b : ℕ) → 0 < b → b ≤ c → least_to m (λ i. other (at sets b) (at places b) i) (λ i. at loads i) ≡ target I (take c places) b
  unfolding target
  target_is b l u =
      least-ext m _ _ _ _ (λ i il iu. other-is b i l u il iu) d.each
      ∙ ap (λ (k : ℕ). least_to k (λ i. elsewhere I (take c places) b i) (λ i. load I (take c places) i)) (sym r.machines)

-- the ranges of what the code reads for the job at index b
pub record InLists (m c : ℕ) (lengths places loads : List ℕ) (b : ℕ) : Type 0 where
  pub within : b < c
  pub held : b < length places
  pub long : m ≤ length loads
  pub few : m ≤ 24
  pub placed : 0 < get_or places b 0
  pub numbered : get_or places b 0 ≤ m
  pub takes : get_or lengths b 0 ≤ 1440
  pub small : (i : ℕ) → i < m → get_or loads i 0 ≤ 322560

pub in_lists : {I : Instance} {m c : ℕ} {lengths sets places loads : List ℕ} → Reads I m c lengths sets → Placed I m c places loads
    → (b : ℕ) → b < c → InLists m c lengths places loads b
in_lists {c = c} {places = places} r d b u =
    let z = place_in r d (suc b) (omega arith) u in
    record {
      within = u;
      held = omega (arith, take_long c places (omega (arith, d.permitted.size, r.jobs)));
      long = d.long;
      few = r.few;
      placed = z.0;
      numbered = z.1;
      takes = omega (arith, r.minutes (suc b) (omega arith) u, r.small.short (suc b));
      small = λ i l. omega (arith, d.each (suc i) (omega arith) l, load-small r.small (take c places) (suc i));
    }

abbrev pub InRange : Jobs → Placement → ℕ → Type 0
InRange j p b = InLists j.m j.n j.minutes.now p.places p.loads b

pub in-range : {j : Jobs} {p : Placement} → Known j p → (b : ℕ) → b < j.n → InRange j p b
in-range k b u = in_lists k.said.reads k.placing b u

-- so of their lists
pub known_in : {j : Jobs} {p : Placement} → Known j p → j.n ≤ length j.minutes.now → j.n ≤ length j.masks.now
    → KnownIn j.m j.n j.minutes.now j.masks.now p.places p.loads
known_in k t l = record { I = k.said.I; reads = k.said.reads; timed = t; listed = l; placing = k.placing }
