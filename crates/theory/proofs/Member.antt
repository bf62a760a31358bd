-- Laws of lists as sets: who is named, and what each entry passes.
use Prim.Native.Nat.{ℕ, zero, suc, ◌<◌}
use mathlib.Core.Path.{◌≡◌, refl, sym, ap, ◌∙◌}
use mathlib.Core.Bool.{Bool, true, false}
use mathlib.Core.List.{List, [], ◌∷◌, ◌++◌}
use native.Mathlib.Omega.{arith}
use lib.ListN.{length, get_or, set}
use lib.Dec.{eqb}
use borrow.Author.Tests.{eqb-true, eq-eqb}
use Rattle.rules.specs.Fold.{◌or◌, mem, every}
use Rattle.theory.proofs.Logic.{conflict, and_left, and_right, and-mk, or_left, or_right, or_cases, or_assoc, false-or}

-- ---- mem

pub mem-append : (l r : List ℕ) (i : ℕ) → mem i (l ++ r) ≡ mem i l or mem i r
unfolding mem
mem-append [] r i = sym (false-or (mem i r))
mem-append (y ∷ l) r i = ap (λ (t : Bool). eqb y i or t) (mem-append l r i) ∙ sym (or_assoc (eqb y i) (mem i l) (mem i r))

pub mem-one : (x i : ℕ) → mem i (x ∷ []) ≡ true → i ≡ x
unfolding mem
mem-one x i e = or_cases (eqb x i) false e (λ t. sym (eqb-true x i t)) (λ t. conflict t refl)

pub mem-none : (i : ℕ) → mem i [] ≡ false
unfolding mem
mem-none i = refl

pub mem-head : (x : ℕ) (l : List ℕ) → mem x (x ∷ l) ≡ true
unfolding mem
mem-head x l = or_left _ _ (eq-eqb x x refl)

-- ---- every

module _ {X : Type 0} (p : X → Bool) where
  pub every_append : (l r : List X) → every p l ≡ true → every p r ≡ true → every p (l ++ r) ≡ true
  unfolding every
  every_append [] r e f = f
  every_append (x ∷ l) r e f = and-mk _ _ (and_left _ _ e) (every_append l r (and_right (p x) _ e) f)

  pub every_one : (x : X) → p x ≡ true → every p (x ∷ []) ≡ true
  unfolding every
  every_one x e = and-mk _ _ e refl

  pub every-at : (l : List X) (d : X) (k : ℕ) → every p l ≡ true → k < length l → p (get_or l k d) ≡ true
  unfolding every
  every-at [] d k e h = absurd (omega arith)
  every-at (x ∷ l) d zero e h = and_left _ _ e
  every-at (x ∷ l) d (suc k) e h = every-at l d k (and_right (p x) _ e) (omega arith)

  pub every_set : (l : List X) (k : ℕ) (x : X) → every p l ≡ true → p x ≡ true → every p (set l k x) ≡ true
  unfolding every
  every_set [] k x e f = e
  every_set (y ∷ l) zero x e f = and-mk _ _ f (and_right (p y) _ e)
  every_set (y ∷ l) (suc k) x e f = and-mk _ _ (and_left _ _ e) (every_set l k x (and_right (p y) _ e) f)

pub every-mem : (p : ℕ → Bool) (l : List ℕ) (i : ℕ) → every p l ≡ true → mem i l ≡ true → p i ≡ true
unfolding every mem
every-mem p [] i e h = conflict h refl
every-mem p (x ∷ l) i e h =
    or_cases (eqb x i) (mem i l) h
    (λ t. rw (← eqb-true x i t) (and_left _ _ e))
    (λ t. every-mem p l i (and_right (p x) _ e) t)

pub every-mk : (p : ℕ → Bool) (l : List ℕ) → ((i : ℕ) → mem i l ≡ true → p i ≡ true) → every p l ≡ true
unfolding every mem
every-mk p [] h = refl
every-mk p (x ∷ l) h =
    and-mk _ _ (h x (or_left _ _ (eq-eqb x x refl))) (every-mk p l (λ i e. h i (or_right (eqb x i) _ e)))
