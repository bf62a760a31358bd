-- What `min_by_key` answers, where its closure computes a key of each item.
use mathlib.Core.Path.{◌≡◌, refl, sym, ap, subst, ◌∙◌}
use mathlib.Core.List.{List, [], ◌∷◌, map-id}
use denote.Param.Members.{Mut}
use denote.Ref.{Bor}
use Rattle.std.proofs.Common.{Option, None, Some, Ordering}
use Rattle.std.specs.declared.cmp.Ordering.TheVariants.{Less, Equal, Greater}
use Rattle.std.specs.Fn.{CalledAt}
use Rattle.std.specs.Iterator.{Drains, KeyTurn, PicksMinByKey}
use Rattle.std.specs.List.{FoldsTo, fold, reduce}
use Rattle.std.specs.Ordering.{min_by_ordering}
use Rattle.std.proofs.lemmas.Iterator.{YieldsList, items_from_drains}

module _ {A K F : Type 0} {g : Mut F (Bor A × Unit {0}) K} (cmp : K → K → Ordering) (key : A → K) {f : F}
    (computes : (x : A) (k : K) (q : F) → CalledAt g f x k q → (q ≡ f) × (k ≡ key x)) where
  -- the lesser by its key, the first on a tie
  abbrev pub lesser_of : A → A → A
  lesser_of a b = min_by_ordering (cmp (key a) (key b)) a b

  key-of : (o : Ordering) (a b : A) → min_by_ordering o (key a) (key b) ≡ key (min_by_ordering o a b)
  key-of Less a b = refl
  key-of Equal a b = refl
  key-of Greater a b = refl

  turn : (x z : A) (j : (F × K) × A) → KeyTurn min_by_ordering min_by_ordering g cmp ((f, key x), x) z j
      → j ≡ ((f, key (lesser_of x z)), lesser_of x z)
  turn x z j h =
      let c = computes z h.0 j.0.0 h.2 in
      let o : h.1 ≡ cmp (key x) (key z) = sym h.3 ∙ ap (cmp (key x)) c.1 in
      let k : j.0.1 ≡ key (lesser_of x z)
      = h.4 ∙ ap (min_by_ordering h.1 (key x)) c.1 ∙ key-of h.1 x z ∙ ap (λ (v : Ordering). key (min_by_ordering v x z)) o in
      let i : j.1 ≡ lesser_of x z = h.5 ∙ ap (λ (v : Ordering). min_by_ordering v x z) o in
      ap (λ (v : F). ((v, j.0.1), j.1)) c.0 ∙ ap (λ (v : K). ((f, v), j.1)) k ∙ ap (λ (v : A). ((f, key (lesser_of x z)), v)) i

  turns : (xs : List A) (x y : A) (q : F × K) (p : (F × K) × A) → p ≡ ((f, key x), x)
      → FoldsTo {P = (F × K) × A} (KeyTurn min_by_ordering min_by_ordering g cmp) p xs (q, y) → y ≡ fold lesser_of x xs
  turns [] x y q p e h = ap (λ (z : (F × K) × A). z.1) (sym h ∙ e)
  turns (z ∷ zs) x y q p e h =
      turns zs (lesser_of x z) y q h.0
      (turn x z h.0 (subst (λ (v : (F × K) × A). KeyTurn min_by_ordering min_by_ordering g cmp v z h.0) e h.1)) h.2

  module _ {S : Type 0} {steps : S → Option A → S → Type 0} {all : List A} where
    listed : (xs : List A) (s : S) → Drains steps s xs → YieldsList steps (λ x. x) s all → xs ≡ all
    listed xs s h e = sym (map-id xs) ∙ items_from_drains xs (h.1.0, h.1.1, λ _. (h.0, h.1.2)) e

    pub min_is_reduce : (s : S) (r : Option A) → PicksMinByKey steps g cmp s f r → YieldsList steps (λ x. x) s all → r ≡ reduce lesser_of all
    min_is_reduce s None h e = ap (reduce lesser_of) (listed [] s h e)
    min_is_reduce s (Some y) h e =
        let c = computes h.0 h.2 h.3 h.6 in
        ap (λ (v : A). Some v)
        (turns h.1 h.0 y h.4 ((h.3, h.2), h.0) (ap (λ (v : F). ((v, h.2), h.0)) c.0 ∙ ap (λ (v : K). ((f, v), h.0)) c.1) h.7)
        ∙ ap (reduce lesser_of) (listed (h.0 ∷ h.1) s h.5 e)
