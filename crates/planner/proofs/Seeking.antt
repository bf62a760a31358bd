-- The search over levels: its start, one trial more, and its end.
use Prim.Native.Nat.{ℕ, zero, suc, ◌+◌, ◌-◌, ◌/◌, ◌≤◌, ◌<◌}
use mathlib.Core.Path.{◌≡◌, refl, sym, ◌∙◌}
use mathlib.Core.Bool.{Bool, true, false}
use mathlib.Core.List.{[]}
use native.Mathlib.Numerals.{add-one}
use native.Mathlib.Omega.{arith}
use lib.ListN.{take}
use borrow.Author.Tests.{ltb-true, lt-ltb, le-ltb}
use Rattle.std.specs.Prelude.{Option, None, Some}
use Rattle.rules.specs.Fold.{those_to}
use Rattle.rules.specs.Instance.{Instance, Assignment}
use Rattle.rules.specs.Load.{makespan}
use Rattle.rules.specs.Group.{trial}
use Rattle.rules.specs.Balance as B
use Rattle.arrays.specs.declared.Jobs.{Jobs}
use Rattle.arrays.specs.declared.Placement.{Placement}
use Rattle.arrays.specs.Sets.{has}
use Rattle.std.proofs.lemmas.Option.{same_Some, none-some}
use Rattle.arrays.proofs.Words.{set-none}
use Rattle.trials.specs.declared.trial.Attempt.{Attempt}
use Rattle.trials.specs.Attempt.{Standing, Tries}
use Rattle.theory.proofs.Those.{those-ext}
use Rattle.arrays.proofs.Members.{members-group, none-group}
use Rattle.planner.specs.declared.balance.Search.{Search}
use Rattle.planner.specs.Search.{failed1, search_of, opened, halfway, learned_by, learned, Sought, Seeking}

-- ---- the next level

-- the level of the next trial lies between the two
pub record Halfway (s : Search) (a : ℕ) : Type 0 where
  pub least : failed1 s.failed ≤ a
  pub below : a < s.level
  pub is : a ≡ (failed1 s.failed + s.level - 1) / 2
  pub left : opened s ≡ true

pub halfway-some : (s : Search) {a : ℕ} {o : Option ℕ} → o ≡ halfway s → o ≡ Some a → Halfway s a
unfolding halfway
halfway-some s {a} g f = from (opened s) refl
  where
    e : halfway s ≡ Some a
    e = sym g ∙ f

    from : (b : Bool) → opened s ≡ b → Halfway s a
    from true o =
        let q = ltb-true (failed1 s.failed) s.level o in
        let is : a ≡ (failed1 s.failed + s.level - 1) / 2 = sym (same_Some _ a (rw o at e)) in
        record { least = omega arith; below = omega arith; is = is; left = o }
    from false o = absurd (none-some a (rw o at e))

pub halfway-none : (s : Search) {o : Option ℕ} → o ≡ halfway s → o ≡ None → opened s ≡ false
unfolding halfway
halfway-none s g f = from (opened s) refl
  where
    e : halfway s ≡ None
    e = sym g ∙ f

    from : (b : Bool) → opened s ≡ b → opened s ≡ false
    from true o = absurd (none-some _ (sym (rw o at e)))
    from false o = o

-- as the code finds it
module _ (s : Search) (l : ℕ) (e : l ≡ failed1 s.failed) where
  pub halfway-open : l < s.level → Some ((l + s.level - 1) / 2) ≡ halfway s
  unfolding halfway
  halfway-open h = rw (e, lt-ltb (failed1 s.failed) s.level (omega arith)) refl

  pub halfway-closed : s.level ≤ l → None ≡ halfway s
  unfolding halfway
  halfway-closed h = rw (le-ltb (failed1 s.failed) s.level (omega arith)) refl

-- ---- one trial more

-- one trial more leaves less
pub record Closer (s r : Search) : Type 0 where
  pub ordered : failed1 r.failed ≤ r.level
  pub level : r.level ≤ s.level
  pub gap : r.level - failed1 r.failed < s.level - failed1 s.failed

pub less-left : (s : Search) (a : ℕ) (t : Attempt) → Halfway s a → Closer s (learned s a t)
unfolding learned
less-left s a t h = from t.failed
  where
    from : (o : Option ℕ) → Closer s (learned_by s a t o)
    from None = record { ordered = h.least; level = omega (arith, h.below); gap = omega (arith, h.least, h.below) }
    from (Some g) = record { ordered = omega (arith, h.below); level = omega arith; gap = omega (arith, h.least, h.below) }

-- and from the same start
pub start-stays : (s : Search) (a : ℕ) (t : Attempt) → (learned s a t).start ≡ s.start
unfolding learned
start-stays s a t = from t.failed
  where
    from : (o : Option ℕ) → (learned_by s a t o).start ≡ s.start
    from None = refl
    from (Some g) = refl

-- ---- the start

those-none : (m : ℕ) → those_to m (λ i. false) ≡ []
unfolding those_to
those-none zero = refl
those-none (suc m) = rw (those-none m) refl

none_in : (m : ℕ) → m ≤ 24 → those_to m (λ i. has 0 i) ≡ []
none_in m h = those-ext m _ (λ i. false) (λ i l u. set-none.each i l (omega arith)) ∙ those-none m

module _ {I : Instance} {j : Jobs} {p : Placement} (st : Standing I j p) where
  pub seeking-first : (finish : ℕ) → finish ≡ makespan I (take j.n p.places)
      → Seeking I j (take j.n p.places) (record { failed = None; level = finish; kept = p; lifts = 0; pushes = 0; start = p })
  unfolding B.balance
  seeking-first finish e = record {
    fuel = makespan I (take j.n p.places);
    enough = omega arith;
    same = rw (none_in j.m st.reads.few, e) refl;
    is_set = rw (none_in j.m st.reads.few) none-group;
    permitted = st.permitted;
    kept = st.kept;
  }

  -- ---- one trial more

  -- the rules' search after it
  abbrev next : Search → ℕ → B.Search
  next s a = B.learn (search_of j s) a (trial I (take j.n p.places) a)

  after : (s : Search) (a : ℕ) (t : Attempt) (f : ℕ) → s.level ≤ failed1 s.failed + suc f → Halfway s a
      → B.search_by I (take j.n p.places) f (next s a) (B.open-gap (next s a)) ≡ B.balance I (take j.n p.places)
      → Seeking I j (take j.n p.places) s
      → Tries I (take j.n p.places) a j.n t
      → Seeking I j (take j.n p.places) (learned s a t)
  unfolding learned
  after s a t f h w g k r = from t.failed refl
    where
      from : (o : Option ℕ) → t.failed ≡ o → Seeking I j (take j.n p.places) (learned_by s a t o)
      from None e = record {
        fuel = f;
        enough = omega (arith, w.least, w.below);
        same = (rw (r.passes e) at g);
        is_set = k.is_set;
        permitted = r.permitted;
        kept = r.kept;
      }
      from (Some x) e =
          let y = r.fails x e in
          let q : those_to j.m (λ i. has x i) ≡ y.machines = members-group j.m x st.reads.machines st.reads.few y.is_group y.is_set in
          record {
            fuel = f;
            enough = omega (arith, w.least, w.below);
            same = rw (q, add-one a) (rw y.fails at g);
            is_set = rw q y.is_set;
            permitted = k.permitted;
            kept = k.kept;
          }

  from : (s : Search) (a : ℕ) (t : Attempt) (f : ℕ) → s.level ≤ failed1 s.failed + f → Halfway s a
      → B.search_by I (take j.n p.places) f (search_of j s) (opened s) ≡ B.balance I (take j.n p.places)
      → Seeking I j (take j.n p.places) s
      → Tries I (take j.n p.places) a j.n t
      → Seeking I j (take j.n p.places) (learned s a t)
  unfolding B.search_by
  from s a t zero h w g k r = absurd (omega (arith, w.least, w.below))
  from s a t (suc f) h w g k r = after s a t f h w (rw (w.left, ← w.is) at g) k r

  -- the trial starts where the search did
  pub starts : (s : Search) → s.start ≡ p → Standing I j s.start
  starts s e = rw e st

  pub seeking-next : (s : Search) (a : ℕ) (t : Attempt) → Halfway s a → s.start ≡ p
      → Seeking I j (take j.n p.places) s
      → Tries I (take j.n s.start.places) a j.n t
      → Seeking I j (take j.n p.places) (learned s a t)
  seeking-next s a t w b k r = from s a t k.fuel k.enough w k.same k (rw b at r)

  -- ---- the end

  closed : (f : ℕ) (x : Assignment) (w : B.Search) → B.search_by I x f w false ≡ w
  unfolding B.search_by
  closed zero x w = refl
  closed (suc f) x w = refl

  pub seeking-end : (s : Search) → opened s ≡ false → Seeking I j (take j.n p.places) s → Sought I j (take j.n p.places) s
  seeking-end s o k = record {
    found = sym (closed k.fuel (take j.n p.places) (search_of j s)) ∙ (rw o at k.same);
    is_set = k.is_set;
    permitted = k.permitted;
    kept = k.kept;
  }
