-- A trial of a sound sheet: what it starts from, and its answer as the rules give it.
use Prim.Native.Nat.{ℕ, ◌+◌, ◌≤◌, ◌<◌}
use mathlib.Core.Path.{◌≡◌, refl, sym, ap, ◌∙◌}
use mathlib.Core.List.{List}
use native.Mathlib.Omega.{arith}
use lib.ListN.{take}
use Rattle.std.specs.Prelude.{Ok, Err, Some, None}
use lib.Seq.{take-take}
use lib.Dec.{eqb}
use borrow.Author.Tests.{le-leb, lt-leb}
use Rattle.rules.specs.Fold.{pick, at, sum_to, max_to, those_to}
use Rattle.rules.specs.Sheet.{Book, size}
use Rattle.rules.specs.Instance.{Instance, instance, places}
use Rattle.rules.specs.Load.{total, longest}
use Rattle.arrays.proofs.Lengths.{total-reads, longest-reads}
use Rattle.rules.specs.Group.{trial}
use Rattle.rules.specs.Run.{answer, shown}
use Rattle.theory.proofs.Valid.{Permitted}
use Rattle.sheet.specs.declared.Refusal.TheVariants.{LevelAbove}
use Rattle.sheet.specs.Represent.{padded}
use Rattle.arrays.specs.Sets.{has}
use Rattle.arrays.specs.declared.Jobs.{Jobs}
use Rattle.arrays.specs.declared.Placement.{Placement}
use Rattle.arrays.specs.Jobs.{Says}
use Rattle.arrays.specs.Reads.{Reads}
use Rattle.trials.specs.declared.trial.Attempt.{Attempt}
use Rattle.trials.specs.Attempt.{Standing, Tries}
use Rattle.scans.specs.Grouping.{HoldsList}
use Rattle.arrays.proofs.Members.{members-group}
use Rattle.scans.specs.declared.group.Members.{Members}
use Rattle.planner.specs.declared.Outcome.TheVariants.{Passed, Failed}
use Rattle.planner.specs.Calls.{members_as, trial_of, tried_as}
use Rattle.planner.proofs.Reviewing.{added-loads}

-- ---- the start

pub stands : {I : Instance} {j : Jobs} {p : Placement} → Says I j → Permitted I (take j.n p.places)
    → ((i : ℕ) → 0 < i → i ≤ j.m → at p.loads i ≡ sum_to j.n (λ b. pick (eqb (at p.places b) i) (at j.minutes.now b) 0)) → Standing I j p
stands {I} {j} {p} r w h =
    record { reads = r; permitted = w; kept = λ i l t. added-loads r p.places p.loads h i l (omega (arith, r.machines)) }

-- a level up to the minutes added up, and its limit
module _ {I : Instance} {m c : ℕ} {lengths sets : List ℕ} where
  pub level-within : {sum a : ℕ} → Reads I m c lengths sets → sum ≡ sum_to c (λ b. at lengths b) → a ≤ sum → a ≤ total I
  level-within r e h = omega (arith, h, e ∙ total-reads r)

  pub limit-is : (a : ℕ) {most : ℕ} → Reads I m c lengths sets → most ≡ max_to c (λ b. at lengths b) → a + most ≡ a + longest I
  limit-is a r e = ap (λ (l : ℕ). a + l) (e ∙ longest-reads r)

-- ---- the answer

-- a list of machines is what it holds
pub members-held : {l : List ℕ} {g : Members} → HoldsList l g.list g.size → g ≡ members_as l
members-held {l} {g} o = let list : g.list ≡ padded 24 l = o.padded ∙ (rw o.count refl) in rw (list, o.count) refl

pub answered-refused : (k : Book) (a : ℕ) → total (instance k) < a → Err LevelAbove ≡ trial_of k a
unfolding trial_of answer
answered-refused k a h = rw (lt-leb a (total (instance k)) h) refl

module _ (k : Book) (a : ℕ) (h : a ≤ total (instance k)) where
  tried-is : {t : _} → trial (instance k) (places k) a ≡ t → Ok (tried_as (shown (size k) t)) ≡ trial_of k a
  unfolding trial_of answer
  tried-is e = rw (le-leb a (total (instance k)) h, e) refl

  module _ {c : ℕ} {w : List ℕ} {t : Attempt} (e : w ≡ places k) (r : Tries (instance k) w a c t) where
    pub answered-passed : t.failed ≡ None → size k ≤ c → (out : List ℕ) → out ≡ padded 200 (take (size k) t.end.places)
        → Ok (record { outcome = Passed out; lifts = t.lifts; pushes = t.pushes }) ≡ trial_of k a
    answered-passed b q out o =
        ap (λ (p : List ℕ). Ok (record { outcome = Passed p; lifts = t.lifts; pushes = t.pushes }))
        (o ∙ ap (padded 200) (sym (take-take (size k) c t.end.places q)))
        ∙ tried-is (ap (λ (p : List ℕ). trial (instance k) p a) (sym e) ∙ r.passes b)

    pub answered-failed : {group : ℕ} → t.failed ≡ Some group → (m : ℕ) → (instance k).m ≡ m → m ≤ 24
        → (g : Members) → HoldsList (those_to m (λ i. has group i)) g.list g.size
        → Ok (record { outcome = Failed g; lifts = t.lifts; pushes = t.pushes }) ≡ trial_of k a
    answered-failed {group} b m q u g o =
        let f = r.fails group b in
        ap (λ (h : Members). Ok (record { outcome = Failed h; lifts = t.lifts; pushes = t.pushes }))
        (members-held o ∙ ap members_as (members-group m group q u f.is_group f.is_set))
        ∙ tried-is (ap (λ (p : List ℕ). trial (instance k) p a) (sym e) ∙ f.fails)
