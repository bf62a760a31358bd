-- One round of the closure by words, and rounds until one adds nothing.
use Prim.Native.Nat.{ℕ, zero, suc, ◌-◌, ◌^◌, ◌≤◌, ◌<◌}
use mathlib.Core.Path.{◌≡◌, refl, sym, ap, ap₂, ◌∙◌}
use mathlib.Core.Bool.{Bool, true, false}
use mathlib.Core.List.{List}
use native.Mathlib.Omega.{arith}
use lib.Bits.{bit_or, or_lt}
use lib.ListN.{take}
use lib.Dec.{eqb, ltb, leb}
use borrow.Author.Tests.{eqb-true, ltb-true, leb-true, lt-ltb, le-leb}
use Rattle.rules.specs.Fold.{◌and◌, ◌or◌, pick, at, mem, any_to, those_to}
use Rattle.rules.specs.Instance.{Instance, Assignment, n, eligible}
use Rattle.rules.specs.Group.{reach, reach_by, closure}
use Rattle.theory.proofs.Logic.{by_test, and_left, and_right, or_cases, or-false, or_assoc, and-no-left}
use Rattle.theory.proofs.View.{Some, here, any_some}
use Rattle.theory.proofs.Closure.{IsGroup, those, group-range, reach-group}
use Rattle.arrays.specs.Sets.{has, SetOf}
use Rattle.arrays.specs.Reads.{Reads}
use Rattle.scans.specs.Grouping.{among}
use Rattle.arrays.proofs.Take.{at_take}
use Rattle.theory.proofs.Agree.{any-ext}
use Rattle.arrays.proofs.Words.{has-or, set-zero}
use Rattle.arrays.proofs.Masks.{set_same}
use Rattle.theory.proofs.Those.{those-all}
use Rattle.arrays.proofs.Members.{groups-same}

-- ---- what a job adds

pub among_none : (g m p : ℕ) → p ≡ 0 → among g m p ≡ false
unfolding among ◌and◌
among_none g m p e = rw e

pub among-past : (g m p : ℕ) → m < p → among g m p ≡ false
unfolding among
among-past g m p h =
    and-no-left _ _ (by_test (ltb 0 p and leb p m)
    (λ t. absurd (omega (arith, leb-true p m (and_right (ltb 0 p) (leb p m) t))))
    (λ t. t))

among-has : (g m p : ℕ) → 0 < p → p ≤ m → among g m p ≡ has g p
unfolding among ◌and◌
among-has g m p l u = rw (lt-ltb 0 p l, le-leb p m u)

pub among_in : (g m p : ℕ) (t : Bool) → 0 < p → p ≤ m → t ≡ has g (suc (p - 1)) → among g m p ≡ t
among_in g m p t l u e = let z : suc (p - 1) ≡ p = omega arith in among-has g m p l u ∙ sym (e ∙ rw z)

among-range : (g m p : ℕ) → among g m p ≡ true → (0 < p) × (p ≤ m)
unfolding among
among-range g m p t =
    let w = and_left (ltb 0 p and leb p m) (has g p) t in
    (ltb-true 0 p (and_left (ltb 0 p) (leb p m) w), leb-true p m (and_right (ltb 0 p) (leb p m) w))

has-pick : (t : Bool) (x i : ℕ) → has (pick t x 0) i ≡ t and has x i
unfolding ◌and◌
has-pick true x i = refl
has-pick false x i = set-zero 0 refl i

pick_small : (t : Bool) (x : ℕ) → x < 2 ^ 24 → pick t x 0 < 2 ^ 24
pick_small true x h = h
pick_small false x h = omega arith

-- x is g and what the first b jobs add
pub record Joined (places sets : List ℕ) (g m b x : ℕ) : Type 0 where
  pub small : ((k : ℕ) → at sets k < 2 ^ 24) → g < 2 ^ 24 → x < 2 ^ 24
  pub each : (i : ℕ) → has x i ≡ has g i or any_to b (λ k. among g m (at places k) and has (at sets k) i)

module _ (places sets : List ℕ) (g m : ℕ) where
  pub joined-none : Joined places sets g m 0 g
  unfolding any_to
  joined-none = record { small = λ w h. h; each = λ i. sym (or-false (has g i)) }

  pub joined-more : (b x r : ℕ) → Joined places sets g m b x → r ≡ pick (among g m (at places (suc b))) (at sets (suc b)) 0
      → Joined places sets g m (suc b) (bit_or x r)
  unfolding any_to
  joined-more b x r j e = rw e record {
    small = λ w h. or_lt 24 x _ (j.small w h) (pick_small (among g m (at places (suc b))) (at sets (suc b)) (w (suc b)));
    each = λ i.
        has-or x _ i
        ∙ ap₂ ◌or◌ (j.each i) (has-pick (among g m (at places (suc b))) (at sets (suc b)) i)
        ∙ or_assoc (has g i) _ _;
  }

-- ---- a round

module _ {I : Instance} {m c : ℕ} {lengths sets : List ℕ} (r : Reads I m c lengths sets) (places list : List ℕ) (g : ℕ)
    (group : IsGroup I list) (s : SetOf (λ i. mem i list) g) where
  on_list : (p : ℕ) → 0 < p → p ≤ m → among g m p ≡ mem p list
  on_list p l u = let f = r.few in among-has g m p l u ∙ s.each p l (omega arith)

  among-mem : (p : ℕ) → among g m p ≡ mem p list
  among-mem p =
      by_test (among g m p)
      (λ t. let w = among-range g m p t in on_list p w.0 w.1)
      (λ t. by_test (mem p list)
      (λ e. let w = group-range group p e in let z = r.machines in on_list p w.0 (omega arith))
      (λ e. t ∙ sym e))

  -- a machine of the round
  reached : ℕ → Bool
  reached i = mem i list or any_to (n I) (λ b. mem (at (take c places) b) list and eligible I b i)

  reached-range : (i : ℕ) → reached i ≡ true → i ≤ I.m
  unfolding reached
  reached-range i e =
      or_cases (mem i list) _ e (λ t. (group-range group i t).1) (λ t. from (any_some (n I) _ t))
    where
      from : Some (n I) (λ b. mem (at (take c places) b) list and eligible I b i) → i ≤ I.m
      from (here b l u t) = (r.valid.ranged b i (and_right _ _ t)).1

  pub joined-reach : (x : ℕ) → Joined places sets g m c x → SetOf (λ i. mem i (reach I (take c places) list)) x
  unfolding reach reached
  joined-reach x j = record {
    small = j.small r.words s.small;
    each = λ i l u.
        j.each i
        ∙ ap₂ ◌or◌ (s.each i l u)
        (any-ext c _ _ (λ b p q. ap₂ ◌and◌ (among-mem (at places b) ∙ ap (λ (k : ℕ). mem k list) (sym (at_take c places b q))) (r.masks b i p q l u))
        ∙ ap (λ (k : ℕ). any_to k (λ b. mem (at (take c places) b) list and eligible I b i)) (sym r.jobs))
        ∙ sym (those-all I.m reached reached-range i l);
  }

-- ---- rounds

-- with `left` rounds to go, the word g says a set that they lead to the closure of machine i
pub record Toward (I : Instance) (x : Assignment) (i left g : ℕ) : Type 0 where
  pub list : List ℕ
  pub group : IsGroup I list
  pub says : SetOf (λ j. mem j list) g
  pub leads : reach_by I x left list ≡ closure I x i

module _ (I : Instance) (x : Assignment) where
  pub toward-start : (i g m : ℕ) → I.m ≡ m → i ≤ m → SetOf (λ j. eqb j i or has 0 j) g → Toward I x i m g
  unfolding closure
  toward-start i g m z u s = record {
    list = those_to I.m (λ j. eqb j i);
    group = those (λ j. eqb j i);
    says = set_same (λ j. mem j (those_to I.m (λ j. eqb j i)))
        (λ j l h.
        ap (λ (t : Bool). eqb j i or t) (set-zero 0 refl j)
        ∙ or-false (eqb j i)
        ∙ sym (those-all I.m (λ j. eqb j i) (λ k t. let e = eqb-true k i t in omega arith) j l))
        s;
    leads = ap (λ (k : ℕ). reach_by I x k (those_to I.m (λ j. eqb j i))) (sym z);
  }

  one_less : (left : ℕ) (list : List ℕ) → 0 < left → reach_by I x left list ≡ reach_by I x (left - 1) (reach I x list)
  unfolding reach_by
  one_less zero list h = absurd (omega arith)
  one_less (suc k) list h = let e : suc k - 1 ≡ k = omega arith in rw e

  still : (left : ℕ) (list : List ℕ) → reach I x list ≡ list → reach_by I x left list ≡ list
  unfolding reach_by
  still zero list e = refl
  still (suc k) list e = ap (reach_by I x k) e ∙ still k list e

  module _ (i left g : ℕ) (t : Toward I x i left g) where
    pub toward-more : (h : ℕ) → 0 < left → SetOf (λ j. mem j (reach I x t.list)) h → Toward I x i (left - 1) h
    toward-more h l s = record {
      list = reach I x t.list;
      group = reach-group I x t.list;
      says = s;
      leads = sym (one_less left t.list l) ∙ t.leads;
    }

    -- none to go
    pub toward-end : left ≡ 0 → SetOf (λ j. mem j (closure I x i)) g
    unfolding reach_by
    toward-end e =
        let z : t.list ≡ closure I x i = ap (λ (k : ℕ). reach_by I x k t.list) (sym e) ∙ t.leads in
        rw z at t.says

    -- a round that added nothing
    pub toward-still : I.m ≤ 24 → SetOf (λ j. mem j (reach I x t.list)) g → SetOf (λ j. mem j (closure I x i)) g
    toward-still f s =
        let same = groups-same g f (reach-group I x t.list) t.group s t.says in
        let z : t.list ≡ closure I x i = sym (still left t.list same) ∙ t.leads in
        rw z at t.says
