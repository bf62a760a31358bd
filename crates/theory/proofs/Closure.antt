-- The closure of a machine: the smallest set that holds it and, for each job on the set, the job's whole list.
use Prim.Native.Nat.{ℕ, zero, suc, ◌+◌, ◌≤◌, ◌<◌}
use mathlib.Core.Path.{◌≡◌, refl, sym, ap, ◌∙◌}
use mathlib.Core.Bool.{Bool, true, false, not}
use mathlib.Core.Logic.{◌⊎◌, inl, inr, ⊎_elim}
use mathlib.Core.List.{List}
use native.Mathlib.Nat.{le_refl}
use native.Mathlib.Omega.{arith}
use lib.ListN.{length}
use lib.Dec.{eqb}
use borrow.Author.Tests.{eqb-true, eq-eqb, not-true}
use Rattle.rules.specs.Fold.{◌and◌, pick, at, mem, sum_to, any_to, those_to}
use Rattle.rules.specs.Instance.{Instance, Assignment, n, eligible}
use Rattle.rules.specs.Group.{reach, reach_by, closure}
use Rattle.theory.proofs.Logic.{by_test, conflict, not-mk, and_left, and_right, and-mk, or_left, or_right, or_cases}
use Rattle.theory.proofs.Fold.{sum_to-ext, sum_to-gain, sum_to-bound}
use Rattle.theory.proofs.View.{Some, here, any_some, any_at, any_none}
use Rattle.theory.proofs.Those.{those-range, those-mem, those-length}

-- ---- a group: some of the machines, ascending

pub data IsGroup (I : Instance) : List ℕ → Type 0 where
  those : (p : ℕ → Bool) → IsGroup I (those_to I.m p)

pub group-range : {I : Instance} {g : List ℕ} → IsGroup I g → (i : ℕ) → mem i g ≡ true → (0 < i) × (i ≤ I.m)
group-range {I} (those p) i e = those-range I.m p i e

-- how many machines of 1 to m a list names
unfoldable pub count : Instance → List ℕ → ℕ
count I g = sum_to I.m (λ i. pick (mem i g) 1 0)

pub group-length : {I : Instance} {g : List ℕ} → IsGroup I g → length g ≡ count I g
unfolding count
group-length {I} (those p) =
    those-length I.m p
    ∙ sum_to-ext I.m _ _ (λ i l u. ap (λ (t : Bool). pick t 1 0) (sym (those-mem I.m p i l u)))

count-le : (I : Instance) (g : List ℕ) → count I g ≤ I.m
unfolding count
count-le I g = omega (arith, sum_to-bound I.m (λ i. pick (mem i g) 1 0) 1 (λ i p q. small (mem i g)))
  where
    small : (t : Bool) → pick t 1 0 ≤ 1
    small true = le_refl 1
    small false = omega arith

pub count-some : (I : Instance) (g : List ℕ) (i : ℕ) → 0 < i → i ≤ I.m → mem i g ≡ true → 0 < count I g
unfolding count
count-some I g i l u e =
    omega (arith, sum_to-gain I.m (λ j. 0) (λ j. pick (mem j g) 1 0) i l u (λ j p q. omega arith) (rw e (le_refl 1)))

-- ---- closed sets

module _ (I : Instance) (x : Assignment) where
  -- each job on the set has its whole list in the set
  unfoldable pub Closed : List ℕ → Type 0
  Closed g = (b i : ℕ) → 0 < b → b ≤ n I → mem (at x b) g ≡ true → 0 < i → i ≤ I.m → eligible I b i ≡ true → mem i g ≡ true

  pub reach-group : (g : List ℕ) → IsGroup I (reach I x g)
  unfolding reach
  reach-group g = those _

  reach-keeps : (g : List ℕ) (i : ℕ) → 0 < i → i ≤ I.m → mem i g ≡ true → mem i (reach I x g) ≡ true
  unfolding reach
  reach-keeps g i l u e = those-mem I.m _ i l u ∙ or_left _ _ e

  reach-adds : (g : List ℕ) (i b : ℕ) → 0 < i → i ≤ I.m → 0 < b → b ≤ n I → mem (at x b) g ≡ true → eligible I b i ≡ true
      → mem i (reach I x g) ≡ true
  unfolding reach
  reach-adds g i b l u p q e r = those-mem I.m _ i l u ∙ or_right _ _ (any_at (n I) _ b p q (and-mk _ _ e r))

  -- how a machine came in
  pub data Came (g : List ℕ) (i : ℕ) : Type 0 where
    before : mem i g ≡ true → Came g i
    by : (b : ℕ) → 0 < b → b ≤ n I → mem (at x b) g ≡ true → eligible I b i ≡ true → Came g i

  pub came : (g : List ℕ) (i : ℕ) → mem i (reach I x g) ≡ true → Came g i
  unfolding reach
  came g i e =
      let w = those-range I.m _ i e in
      or_cases (mem i g) (any_to (n I) (λ b. mem (at x b) g and eligible I b i)) (sym (those-mem I.m _ i w.0 w.1) ∙ e) before
      (λ t. from (any_some (n I) _ t))
    where
      from : Some (n I) (λ b. mem (at x b) g and eligible I b i) → Came g i
      from (here b p q r) = by b p q (and_left _ _ r) (and_right _ _ r)

  -- a closed set does not grow
  inside : (g h : List ℕ) → Closed h → ((i : ℕ) → mem i g ≡ true → mem i h ≡ true) → (i : ℕ) → mem i (reach I x g) ≡ true → mem i h ≡ true
  unfolding Closed
  inside g h c k i e =
      let w = group-range (reach-group g) i e in
      from w.0 w.1 (came g i e)
    where
      from : 0 < i → i ≤ I.m → Came g i → mem i h ≡ true
      from l u (before t) = k i t
      from l u (by b p q r w) = c b i p q (k (at x b) r) l u w

  pub reach_by-inside : (t : ℕ) (g h : List ℕ) → Closed h → ((i : ℕ) → mem i g ≡ true → mem i h ≡ true)
      → (i : ℕ) → mem i (reach_by I x t g) ≡ true → mem i h ≡ true
  unfolding reach_by
  reach_by-inside zero g h c k i e = k i e
  reach_by-inside (suc t) g h c k i e = reach_by-inside t (reach I x g) h c (inside g h c k) i e

  closed-reach : (g : List ℕ) → Closed g → Closed (reach I x g)
  unfolding Closed
  closed-reach g c b i p q e l u r = reach-keeps g i l u (c b i p q (inside g g c (λ j t. t) (at x b) e) l u r)

  closed-reach_by : (t : ℕ) (g : List ℕ) → Closed g → Closed (reach_by I x t g)
  unfolding reach_by
  closed-reach_by zero g c = c
  closed-reach_by (suc t) g c = closed-reach_by t (reach I x g) (closed-reach g c)

  pick-le : (s t : Bool) → (s ≡ true → t ≡ true) → pick s 1 0 ≤ pick t 1 0
  pick-le true t h = rw (h refl) (le_refl 1)
  pick-le false t h = omega arith

  count-grows : (g : List ℕ) → Some I.m (λ i. mem i (reach I x g) and not (mem i g)) → count I g < count I (reach I x g)
  unfolding count
  count-grows g (here i l u e) =
      sum_to-gain I.m _ _ i l u
      (λ j p q. pick-le (mem j g) (mem j (reach I x g)) (λ t. reach-keeps g j p q t))
      (rw (and_left _ _ e, not-true (mem i g) (and_right (mem i (reach I x g)) _ e)) (omega arith))

  -- a round that adds nothing: the set is closed
  still-closed : (g : List ℕ) → any_to I.m (λ i. mem i (reach I x g) and not (mem i g)) ≡ false → Closed g
  unfolding Closed
  still-closed g w b i p q e l u r =
      by_test (mem i g) (λ t. t)
      (λ t. conflict (and-mk _ _ (reach-adds g i b l u p q e r) (not-mk t)) (any_none I.m _ w i l u))

  -- after t rounds the set is closed, or each round added a machine
  closed-or-more : (t : ℕ) (g : List ℕ) → Closed (reach_by I x t g) ⊎ (t + count I g ≤ count I (reach_by I x t g))
  unfolding reach_by
  closed-or-more zero g = inr (omega arith)
  closed-or-more (suc t) g =
      by_test (any_to I.m (λ i. mem i (reach I x g) and not (mem i g)))
      (λ w. ⊎_elim (λ c. inl c) (λ h. inr (omega (arith, count-grows g (any_some I.m _ w)))) (closed-or-more t (reach I x g)))
      (λ w. inl (closed-reach_by t (reach I x g) (closed-reach g (still-closed g w))))

  reach_by-closed : (g : List ℕ) → 0 < count I g → Closed (reach_by I x I.m g)
  reach_by-closed g h =
      ⊎_elim (λ c. c) (λ w. absurd (omega (arith, count-le I (reach_by I x I.m g)))) (closed-or-more I.m g)

  reach_by-group : (t : ℕ) (g : List ℕ) → IsGroup I g → IsGroup I (reach_by I x t g)
  unfolding reach_by
  reach_by-group zero g r = r
  reach_by-group (suc t) g r = reach_by-group t (reach I x g) (reach-group g)

  reach_by-keeps : (t : ℕ) (g : List ℕ) (i : ℕ) → 0 < i → i ≤ I.m → mem i g ≡ true → mem i (reach_by I x t g) ≡ true
  unfolding reach_by
  reach_by-keeps zero g i l u e = e
  reach_by-keeps (suc t) g i l u e = reach_by-keeps t (reach I x g) i l u (reach-keeps g i l u e)

  -- ---- the closure of machine i

  module _ (i : ℕ) (i0 : 0 < i) (im : i ≤ I.m) where
    seed-own : mem i (those_to I.m (λ j. eqb j i)) ≡ true
    seed-own = those-mem I.m _ i i0 im ∙ eq-eqb i i refl

    pub seed-only : (j : ℕ) → mem j (those_to I.m (λ j. eqb j i)) ≡ true → j ≡ i
    seed-only j e =
        let w = those-range I.m _ j e in
        eqb-true j i (sym (those-mem I.m _ j w.0 w.1) ∙ e)

    pub closure-group : IsGroup I (closure I x i)
    unfolding closure
    closure-group = reach_by-group I.m _ (those _)

    pub closure-holds : mem i (closure I x i) ≡ true
    unfolding closure
    closure-holds = reach_by-keeps I.m _ i i0 im seed-own

    pub closure-closed : Closed (closure I x i)
    unfolding closure
    closure-closed = reach_by-closed _ (count-some I _ i i0 im seed-own)

    -- inside every closed set that holds i
    pub closure-smallest : (h : List ℕ) → Closed h → mem i h ≡ true → (j : ℕ) → mem j (closure I x i) ≡ true → mem j h ≡ true
    unfolding closure
    closure-smallest h c e j = reach_by-inside I.m _ h c (λ k t. rw (seed-only k t) e) j
