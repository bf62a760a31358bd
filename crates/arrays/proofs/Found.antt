-- What a search by number answers as an index.
use Prim.Native.Nat.{ℕ, zero, suc, ◌≤◌, ◌<◌}
use mathlib.Core.Path.{◌≡◌, refl, sym, ap}
use mathlib.Core.Bool.{Bool, true, false}
use mathlib.Core.List.{List}
use lib.ListN.{length, get_or}
use native.Mathlib.Omega.{arith}
use native.Mathlib.Decide.{dec_le}
use Rattle.std.proofs.Common.{Option, None, Some}
use Rattle.std.specs.Option.{MatchOption}
use Rattle.std.proofs.lemmas.Option.{none-some, same_Some}
use Rattle.std.specs.Bool.{MatchBool}
use Rattle.std.specs.Fn.{Called, CalledAt}
use Rattle.std.specs.Iterator.{FindsItem, ChecksAny, ChecksAll}
use Rattle.std.specs.List.{AllWithin, HoldsAt, range_with_len}
use Rattle.std.proofs.iter.Yields.{nat_range_steps}
use Rattle.std.proofs.lemmas.Iterator.{YieldsList-from_range, cases_from_all, cases_from_any, first_from_Range}
use Rattle.std.proofs.lemmas.List.FromFn.{length-range_with_len, get_or-range_with_len}
use Rattle.std.specs.declared.ops.Range.{Range}
use denote.Param.Members.{Mut}
use denote.Ref.{Bor}
use Rattle.rules.specs.Fold.{first_to, any_to}
use Rattle.theory.proofs.View as View
use Rattle.theory.proofs.View.{first-miss, first-hit, any_at}
use Rattle.theory.proofs.Agree.{any-miss}
use Rattle.arrays.specs.Found.{found}

-- the number of an index found
pub found_some : {k i : ℕ} → found k ≡ Some i → k ≡ suc i
found_some {k = zero} e = absurd (none-some _ e)
found_some {k = suc k} e = ap suc (same_Some _ _ e)

pub found_none : {k : ℕ} → found k ≡ None → k ≡ 0
found_none {k = zero} e = refl
found_none {k = suc k} e = absurd (none-some _ (sym e))

-- a search from an index on, where none before passes: the first that passes, by index
pub first-found : (a k : ℕ) (p : ℕ → Bool) (r : Option ℕ) → View.None a p
    → MatchOption r ((i : ℕ) → a ≤ i → i < k → p (suc i) ≡ false)
    (λ i. (a ≤ i) × (i < k) × (p (suc i) ≡ true) × ((j : ℕ) → a ≤ j → j < i → p (suc j) ≡ false))
    → r ≡ found (first_to k p)
first-found a k p None h f = sym (ap found (first-miss k p miss))
  where
    miss : View.None k p
    miss zero l u = absurd (omega arith)
    miss (suc i) l u = elim (dec_le a i) [ yes q ↦ f i q u | no q ↦ h (suc i) l (omega arith) ]
first-found a k p (Some i) h f = sym (ap found (first-hit k p i f.1 before f.2))
  where
    before : View.None i p
    before zero l u = absurd (omega arith)
    before (suc j) l u = elim (dec_le a j) [ yes q ↦ f.3 j q u | no q ↦ h (suc j) l (omega arith) ]

-- ---- chains over a range of indices, whose closure computes p of the number

-- `find`: the first that passes
pub found-by_find : {F : Type 0} {g : Mut F (Bor ℕ × Unit {0}) Bool} (p : ℕ → Bool) (s u : Range ℕ) (f : F) (r : Option ℕ) → View.None s.start p
    → FindsItem nat_range_steps g s f r u
    → ((x : ℕ) (b : Bool) (q : F) → CalledAt g f x b q → (q ≡ f) × (b ≡ p (suc x)))
    → r ≡ found (first_to s.end p)
found-by_find p s u f r none ran calls =
    first-found s.start s.end p r none
    (first_from_Range s u f r (λ i. p (suc i) ≡ true) (λ i. p (suc i) ≡ false) ran
    (λ x q k. sym ((calls x true q k).1))
    (λ x q k. ((calls x false q k).0, sym ((calls x false q k).1))))

-- `any`
pub any-by_range : {F : Type 0} {g : Mut F (ℕ × Unit {0}) Bool} (p : ℕ → Bool) (n : ℕ) (u : Range ℕ) (f : F) (r : Bool)
    → ChecksAny nat_range_steps g (record { start = 0; end = n }) f r u
    → ((x : ℕ) (b : Bool) (q : F) → Called g f (x, tt) b q → (q ≡ f) × (b ≡ p (suc x)))
    → r ≡ any_to n p
any-by_range p n u f r ran calls =
    from r
    (cases_from_any u f r (λ i. p (suc i) ≡ true) (λ i. p (suc i) ≡ false) ran (YieldsList-from_range 0 n n refl (omega arith))
    (λ x q k. sym ((calls x true q k).1))
    (λ x q k. ((calls x false q k).0, sym ((calls x false q k).1))))
  where
    all : List ℕ
    all = range_with_len 0 n

    index : (k : ℕ) → k < n → get_or all k 0 ≡ k
    index k l = omega (arith, get_or-range_with_len 0 n k 0 l)

    from : (b : Bool)
        → MatchBool b ((k : ℕ) × (k < length all) × HoldsAt (λ i. p (suc i) ≡ true) all k) (AllWithin (λ i. p (suc i) ≡ false) all 0 (length all))
        → b ≡ any_to n p
    from true h =
        let l : h.0 < n = omega (arith, h.1, length-range_with_len 0 n) in
        sym (any_at n p (suc h.0) (omega arith) l (rw (index h.0 l) at (h.2 0)))
    from false h = sym (any-miss n p miss)
      where
        miss : View.None n p
        miss zero l u = absurd (omega arith)
        miss (suc k) l u = rw (index k u) at (h k 0 (omega arith) (omega (arith, length-range_with_len 0 n)))

-- `all`, at a closure that computes p of the index: each passes, or one that does not
pub all-by_range : {F : Type 0} {g : Mut F (ℕ × Unit {0}) Bool} (p : ℕ → Bool) (n : ℕ) (u : Range ℕ) (f : F) (r : Bool)
    → ChecksAll nat_range_steps g (record { start = 0; end = n }) f r u
    → ((x : ℕ) (b : Bool) (q : F) → Called g f (x, tt) b q → (q ≡ f) × (b ≡ p x))
    → MatchBool r ((k : ℕ) → k < n → p k ≡ true) ((k : ℕ) × (k < n) × (p k ≡ false))
all-by_range p n u f r ran calls =
    from r
    (cases_from_all u f r (λ i. p i ≡ true) (λ i. p i ≡ false) ran (YieldsList-from_range 0 n n refl (omega arith))
    (λ x q k. ((calls x true q k).0, sym ((calls x true q k).1)))
    (λ x q k. sym ((calls x false q k).1)))
  where
    all : List ℕ
    all = range_with_len 0 n

    index : (k : ℕ) → k < n → get_or all k 0 ≡ k
    index k l = omega (arith, get_or-range_with_len 0 n k 0 l)

    from : (b : Bool) → MatchBool b (AllWithin (λ i. p i ≡ true) all 0 (length all)) ((k : ℕ) × (k < length all) × HoldsAt (λ i. p i ≡ false) all k)
        → MatchBool b ((k : ℕ) → k < n → p k ≡ true) ((k : ℕ) × (k < n) × (p k ≡ false))
    from true h = λ k l. rw (index k l) at (h k 0 (omega arith) (omega (arith, length-range_with_len 0 n)))
    from false h =
        let l : h.0 < n = omega (arith, h.1, length-range_with_len 0 n) in
        (h.0, l, rw (index h.0 l) at (h.2 0))
