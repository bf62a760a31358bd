-- Minutes confined to a group bound every permitted assignment, and a closed group confines all that is on it.
use Prim.Native.Nat.{ℕ, suc, ◌+◌, ◌*◌, ◌≤◌, ◌<◌}
use mathlib.Core.Path.{◌≡◌, refl, sym, ◌∙◌}
use mathlib.Core.Bool.{Bool, true, false}
use mathlib.Core.Logic.{◌≢◌}
use mathlib.Core.List.{List}
use native.Mathlib.Nat.{le_refl, le_trans, le_of_eq, le-div_iff_mul-le, div-lt_iff_lt-mul}
use native.Mathlib.Omega.{arith}
use native.Mathlib.Decide.{ℕ_discrete}
use lib.ListN.{length}
use lib.Dec.{eqb}
use borrow.Author.Tests.{eq-eqb, ne_eqb}
use Rattle.rules.specs.Fold.{pick, at, mem, every, sum_to}
use Rattle.rules.specs.Instance.{Instance, Assignment, n, list_of, minutes_of}
use Rattle.rules.specs.Load.{load, makespan}
use Rattle.rules.specs.LowerBound.{within, confined, share, ceil_div}
use Rattle.theory.proofs.Logic.{by_test}
use Rattle.theory.proofs.Fold.{sum_to-ext, sum_to-mono, sum_to-scale, sum_to-zero, sum_to-single, sum_to-swap, sum_to-pick, sum_to-gain-by}
use Rattle.theory.proofs.Member.{every-mem, every-mk}
use Rattle.theory.proofs.Valid.{Valid, Permitted}
use Rattle.theory.proofs.Makespan.{makespan-ge}
use Rattle.theory.proofs.Closure.{IsGroup, group-range, group-length, count, Closed}

-- ---- division, rounded up

pub ceil-le : (x c d : ℕ) → 0 < d → x ≤ c * d → ceil_div x d ≤ c
ceil-le x c d p h =
    let r : ceil_div x d < suc c = (div-lt_iff_lt-mul p).1 (omega arith) in
    omega arith

pub ceil-gt : (x c d : ℕ) → 0 < d → c * d < x → c < ceil_div x d
ceil-gt x c d p h = (le-div_iff_mul-le p).1 (omega arith)

-- ---- the minutes on a group, by machines and by jobs

module _ (I : Instance) where
  unfoldable pub on_group : Assignment → List ℕ → ℕ
  on_group x g = sum_to I.m (λ i. pick (mem i g) (load I x i) 0)

  unfoldable pub of_jobs : Assignment → List ℕ → ℕ
  of_jobs x g = sum_to (n I) (λ b. pick (mem (at x b) g) (minutes_of I b) 0)

  one-job : (g : List ℕ) (p t : ℕ) → IsGroup I g → sum_to I.m (λ j. pick (mem j g) (pick (eqb p j) t 0) 0) ≡ pick (mem p g) t 0
  one-job g p t r =
      by_test (mem p g)
      (λ e. let w = group-range r p e in
      sum_to-single I.m _ p w.0 w.1 (λ j ne. off j ne) ∙ rw (e, eq-eqb p p refl))
      (λ e. sum_to-zero I.m _ (λ j l u. elim (ℕ_discrete j p) [ yes q ↦ rw (q, e) | no ne ↦ off j ne ]) ∙ sym (rw e))
    where
      off : (j : ℕ) → j ≢ p → pick (mem j g) (pick (eqb p j) t 0) 0 ≡ 0
      off j ne = by_test (mem j g) (λ e. rw (e, ne_eqb p j (λ q. ne (sym q)))) (λ e. rw e)

  pub group-jobs : (x : Assignment) (g : List ℕ) → IsGroup I g → on_group x g ≡ of_jobs x g
  unfolding on_group of_jobs load
  group-jobs x g r =
      sum_to-ext I.m _ _ (λ j p q. sum_to-pick (mem j g) (n I) _)
      ∙ sum_to-swap I.m (n I) (λ j b. pick (mem j g) (pick (eqb (at x b) j) (minutes_of I b) 0) 0)
      ∙ sum_to-ext (n I) _ _ (λ b p q. one-job g (at x b) (minutes_of I b) r)

  pick-le : (s t : Bool) (v : ℕ) → (s ≡ true → t ≡ true) → pick s v 0 ≤ pick t v 0
  pick-le true t v h = rw (h refl) (le_refl v)
  pick-le false t v h = omega arith

  -- a permitted assignment puts the confined minutes on the group
  pub confined-on : (y : Assignment) (g : List ℕ) → Permitted I y → confined I g ≤ of_jobs y g
  unfolding confined of_jobs within
  confined-on y g w =
      sum_to-mono (n I) _ _ (λ b p q. pick-le (every (λ i. mem i g) (list_of I b)) (mem (at y b) g) (minutes_of I b)
      (λ t. every-mem (λ i. mem i g) (list_of I b) (at y b) t (w.listed b p q)))

  -- what is on a closed group is confined to it
  pub closed-confines : (x : Assignment) (g : List ℕ) → Valid I → Closed I x g → of_jobs x g ≤ confined I g
  unfolding confined of_jobs Closed within
  closed-confines x g v c =
      sum_to-mono (n I) _ _ (λ b p q. pick-le (mem (at x b) g) (every (λ i. mem i g) (list_of I b)) (minutes_of I b)
      (λ t. every-mk (λ i. mem i g) (list_of I b) (λ i e. let r = v.ranged b i e in c b i p q t r.0 r.1 e)))

  -- a group each of whose loads is above a, and one above a by more than c
  pub heavy-group : (x : Assignment) (g : List ℕ) (a c i : ℕ) → 0 < i → i ≤ I.m → mem i g ≡ true → a + c < load I x i
      → ((j : ℕ) → 0 < j → j ≤ I.m → mem j g ≡ true → a < load I x j) → suc a * count I g + c ≤ on_group x g
  unfolding on_group count
  heavy-group x g a c i l u e w h =
      rw (← sum_to-scale I.m (λ j. pick (mem j g) 1 0) (suc a))
      (sum_to-gain-by I.m (λ j. suc a * pick (mem j g) 1 0) (λ j. pick (mem j g) (load I x j) 0) i c l u
      (λ j p q. by_test (mem j g) (λ t. rw t (omega (arith, h j p q t))) (λ t. rw t (omega arith)))
      (rw e (omega arith)))

  -- no assignment puts more on a group than its makespan for each machine
  pub group-makespan : (y : Assignment) (g : List ℕ) → on_group y g ≤ makespan I y * count I g
  unfolding on_group count
  group-makespan y g =
      le_trans
      (sum_to-mono I.m _ (λ j. makespan I y * pick (mem j g) 1 0)
      (λ j p q. by_test (mem j g) (λ t. rw t (omega (arith, makespan-ge I y j p q))) (λ t. rw t (omega arith))))
      (le_of_eq (sum_to-scale I.m (λ j. pick (mem j g) 1 0) (makespan I y)))

  -- ---- the two bounds that a group gives

  pub confined-makespan : (y : Assignment) (g : List ℕ) → Permitted I y → IsGroup I g → confined I g ≤ makespan I y * length g
  confined-makespan y g w r =
      rw (group-length r) (omega (arith, confined-on y g w, group-jobs y g r, group-makespan y g))

  -- a group's share is below every permitted makespan
  pub share-makespan : (y : Assignment) (g : List ℕ) → Permitted I y → IsGroup I g → 0 < length g → share I g ≤ makespan I y
  unfolding share
  share-makespan y g w r p = ceil-le (confined I g) (makespan I y) (length g) p (confined-makespan y g w r)
