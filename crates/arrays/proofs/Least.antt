-- Of the indices below n that pass, the first of least height, by a chain `(0..n).filter(..).min_by_key(..)`.
use Prim.Native.Nat.{ℕ, zero, suc, ◌<◌}
use mathlib.Core.Path.{◌≡◌, refl, sym, ap, ap₂, subst, ◌∙◌}
use mathlib.Core.Bool.{Bool, true}
use mathlib.Core.List.{List, [], ◌∷◌, ◌++◌, map-id, append-nil}
use native.Mathlib.Omega.{arith}
use lib.Dec.{ltb}
use borrow.Author.Tests.{lt-ltb, le-ltb}
use denote.Param.Members.{Mut}
use denote.Ref.{Bor}
use Rattle.std.proofs.Common.{Option, None, Some}
use Rattle.std.specs.Fn.{CalledAt}
use Rattle.std.specs.Iterator.{PicksMinByKey, KeyTurn}
use Rattle.std.proofs.lemmas.Option.{none-some, same_Some}
use Rattle.std.specs.List.{FoldsTo, fold, reduce}
use Rattle.std.specs.Ordering.{nat_cmp, min_by_ordering, MatchOrdering}
use Rattle.std.specs.declared.cmp.Ordering.{Ordering}
use Rattle.std.specs.declared.cmp.Ordering.TheVariants.{Less, Equal, Greater}
use Rattle.std.proofs.lemmas.Cmp.{ranked}
use Rattle.std.specs.declared.iter.Filter.{Filter}
use Rattle.std.specs.declared.ops.Range.{Range}
use Rattle.std.specs.Iterator.Adapters.{filter_source, filter_callee, filter_steps}
use Rattle.std.proofs.iter.Yields.{gives_Drains, nat_range_steps}
use Rattle.std.proofs.lemmas.Iterator.Consumers.{YieldsList-from_filter}
use Rattle.std.proofs.lemmas.Iterator.{YieldsList, YieldsList-from_range}
use Rattle.std.proofs.lemmas.List.Sums.{fold-append}
use Rattle.rules.specs.Fold.{least_to, lesser, pick}
use Rattle.theory.proofs.Logic.{by_test}
use Rattle.arrays.specs.Found.{found}
use Rattle.arrays.proofs.Folds.{those, one-more}

-- the one of less height, the first on a tie
abbrev lower : (ℕ → ℕ) → ℕ → ℕ → ℕ
lower h a b = min_by_ordering (nat_cmp (h a) (h b)) a b

-- ---- `min_by_key`, where the closure computes the height

pass : (h : ℕ → ℕ) (o : Ordering) (a b : ℕ) → min_by_ordering o (h a) (h b) ≡ h (min_by_ordering o a b)
pass h Less a b = refl
pass h Equal a b = refl
pass h Greater a b = refl

module _ {F : Type 0} (g : Mut F (Bor ℕ × Unit {0}) ℕ) (h : ℕ → ℕ) (f : F)
    (calls : (x k : ℕ) (q : F) → CalledAt g f x k q → (q ≡ f) × (k ≡ h x)) where
  turns : (xs : List ℕ) (p q : (F × ℕ) × ℕ) → p.0.0 ≡ f → p.0.1 ≡ h p.1
      → FoldsTo {P = (F × ℕ) × ℕ} (KeyTurn min_by_ordering min_by_ordering g nat_cmp) p xs q
      → q.1 ≡ fold (lower h) p.1 xs
  turns [] p q e k c = ap (λ w. w.1) (sym c)
  turns (x ∷ xs) p q e k c =
      let t = c.1 in
      let m = calls x t.0 c.0.0.0 (subst (λ w. CalledAt g w x t.0 c.0.0.0) e t.2) in
      let chosen : c.0.1 ≡ min_by_ordering t.1 p.1 x = t.5 in
      let height : c.0.0.1 ≡ h c.0.1 = t.4 ∙ ap₂ (min_by_ordering t.1) k m.1 ∙ pass h t.1 p.1 x ∙ ap h (sym chosen) in
      turns xs c.0 q m.0 height c.2
      ∙ ap (λ b. fold (lower h) b xs) (chosen ∙ ap (λ o. min_by_ordering o p.1 x) (sym t.3 ∙ ap₂ nat_cmp k m.1))

least-picked : {F S : Type 0} {steps : S → Option ℕ → S → Type 0} {s : S} {all : List ℕ}
    (g : Mut F (Bor ℕ × Unit {0}) ℕ) (h : ℕ → ℕ) (f : F) (r : Option ℕ)
    → PicksMinByKey steps g nat_cmp s f r → YieldsList steps (λ x. x) s all
    → ((x k : ℕ) (q : F) → CalledAt g f x k q → (q ≡ f) × (k ≡ h x)) → r ≡ reduce (lower h) all
least-picked {steps = steps} {s} {all} g h f None ran road calls = ap (reduce (lower h)) (gives_Drains steps (λ x. x) [] all s road.runs ran)
least-picked {steps = steps} {s} {all} g h f (Some y) ran road calls =
    let m = calls ran.0 ran.2 ran.3 ran.6 in
    ap Some (turns g h f calls ran.1 ((ran.3, ran.2), ran.0) (ran.4, y) m.0 m.1 ran.7)
    ∙ ap (reduce (lower h)) (sym (map-id (ran.0 ∷ ran.1)) ∙ gives_Drains steps (λ x. x) (ran.0 ∷ ran.1) all s road.runs ran.5)

-- ---- the least of those that pass

add-last : {A : Type 0} (f : A → A → A) (xs : List A) (y a : A) → reduce f xs ≡ Some a → reduce f (xs ++ y ∷ []) ≡ Some (f a y)
add-last f [] y a e = absurd (none-some _ e)
add-last f (x ∷ xs) y a e = ap Some (fold-append f x xs (y ∷ []) ∙ ap (λ b. f b y) (same_Some _ _ e))

choose : (x y a n : ℕ) (o : Ordering) → MatchOrdering o (x < y) (x ≡ y) (y < x)
    → Some (min_by_ordering o a n) ≡ found (pick (ltb y x) (suc n) (suc a))
choose x y a n Less l = rw (le-ltb y x (omega (arith, l))) refl
choose x y a n Equal l = rw (le-ltb y x (omega (arith, l))) refl
choose x y a n Greater l = rw (lt-ltb y x l) refl

module _ (p : ℕ → Bool) (h : ℕ → ℕ) where
  -- by index
  abbrev first_lower : ℕ → ℕ → ℕ
  first_lower = lower (λ i. h (suc i))

  joins : (a n : ℕ) (l : List ℕ) → reduce first_lower l ≡ found a → reduce first_lower (l ++ n ∷ []) ≡ found (lesser h a true (suc n))
  unfolding lesser
  joins zero n [] e = refl
  joins zero n (x ∷ xs) e = absurd (none-some _ (sym e))
  joins (suc a) n l e = add-last first_lower l n a e ∙ choose (h (suc a)) (h (suc n)) a n _ (ranked (h (suc a)) (h (suc n)) _ refl)

  least-reduced : (n : ℕ) → reduce first_lower (those p n) ≡ found (least_to n p h)
  unfolding least_to lesser
  least-reduced zero = refl
  least-reduced (suc n) =
      by_test (p (suc n))
      (λ t. rw (one-more p n, t) (joins (least_to n p h) n (those p n) (least-reduced n)))
      (λ t. rw (one-more p n, t, append-nil) (least-reduced n))

-- the chain `(0..n).filter(..).min_by_key(..)`, whose closures compute p and h of the number
pub least-by_key : {F G : Type 0} {g : Mut F (Bor ℕ × Unit {0}) ℕ} {t : Mut G (Bor ℕ × Unit {0}) Bool} (p : ℕ → Bool) (h : ℕ → ℕ) (n : ℕ)
    (s : Filter (Range ℕ) G) (f : F) (e : G) (r : Option ℕ) → PicksMinByKey (filter_steps nat_range_steps t) g nat_cmp s f r
    → filter_source s ≡ record { start = 0; end = n } → filter_callee s ≡ e
    → ((x : ℕ) (b : Bool) (q : G) → CalledAt t e x b q → (q ≡ e) × (b ≡ p (suc x)))
    → ((x k : ℕ) (q : F) → CalledAt g f x k q → (q ≡ f) × (k ≡ h (suc x)))
    → r ≡ found (least_to n p h)
least-by_key {g = g} {t} p h n s f e r ran source callee passes keys =
    least-picked g (λ x. h (suc x)) f r ran
    (YieldsList-from_filter t (λ x. p (suc x)) (YieldsList-from_range 0 n n source (omega arith)) callee passes) keys
    ∙ least-reduced p h n
