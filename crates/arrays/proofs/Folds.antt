-- The sum and the greatest of the first numbers of a list, as chains of iterators give them.
use Prim.Native.Nat.{ℕ, zero, suc, ◌+◌, ◌≤◌, max}
use mathlib.Core.Path.{◌≡◌, refl, sym, ap, ◌∙◌}
use mathlib.Core.List.{List, [], ◌∷◌, ◌++◌, map-id}
use mathlib.Core.Bool.{Bool}
use native.Mathlib.Numerals.{add-one}
use native.Mathlib.Omega.{arith}
use lib.Dec.{ltb}
use lib.ListN.{length, take, get_or}
use borrow.Author.Tests.{ltb-true, ltb-false}
use Rattle.std.specs.List.{fold, reduce, sum_by, filter, range_with_len}
use Rattle.std.specs.Option.{unwrap_or}
use Rattle.std.specs.Iterator.{PicksByCmp}
use Rattle.std.specs.Ordering.{nat_cmp, max_by_ordering}
use Rattle.std.proofs.Common.{Option}
use Rattle.std.proofs.lemmas.Iterator.{YieldsList}
use Rattle.std.proofs.lemmas.Iterator.Adapters.{option_map_id}
use Rattle.std.proofs.lemmas.Iterator.Consumers.{max_from_yields_List}
use Rattle.std.proofs.lemmas.List.Sums.{sum_by_more, sum_by-append, fold_more}
use Rattle.std.proofs.lemmas.List.Elements.{filter-append}
use Rattle.std.proofs.lemmas.List.FromFn.{map-range_with_len_more}
use Rattle.rules.specs.Fold.{pick, at, most, sum_to, max_to}
use Rattle.theory.proofs.Logic.{by_test}

pub sum-front : (l : List ℕ) (k : ℕ) → k ≤ length l → sum_by (λ x. x) (take k l) ≡ sum_to k (λ b. at l b)
unfolding sum_to
sum-front l zero h = refl
sum-front l (suc k) h =
    (rw add-one at (sum_by_more (λ x. x) l k 0 h)) ∙ ap (λ a. a + get_or l k 0) (sum-front l k (omega arith))

pub most-max : (a b : ℕ) → max a b ≡ most a b
unfolding most
most-max a b =
    by_test (ltb a b)
    (λ t. rw t (omega (arith, ltb-true a b t)))
    (λ t. rw t (omega (arith, ltb-false a b t)))

from-zero : (l : List ℕ) → unwrap_or (reduce max l) 0 ≡ fold max 0 l
from-zero [] = refl
from-zero (x ∷ l) = ap (λ a. fold max a l) (omega arith)

greatest-front : (l : List ℕ) (k : ℕ) → k ≤ length l → fold max 0 (take k l) ≡ max_to k (λ b. at l b)
unfolding max_to
greatest-front l zero h = refl
greatest-front l (suc k) h =
    (rw add-one at (fold_more max 0 l k 0 h))
    ∙ ap (λ a. max a (get_or l k 0)) (greatest-front l k (omega arith))
    ∙ most-max (max_to k (λ b. at l b)) (get_or l k 0)

max-front : (l : List ℕ) (k : ℕ) → k ≤ length l → unwrap_or (reduce max (take k l)) 0 ≡ max_to k (λ b. at l b)
max-front l k h = from-zero (take k l) ∙ greatest-front l k h

-- `max` on them
pub max-read : {S : Type 0} {steps : S → Option ℕ → S → Type 0} (l : List ℕ) (k : ℕ) (s : S) (r : Option ℕ)
    → PicksByCmp steps max_by_ordering nat_cmp s r → YieldsList steps (λ x. x) s (take k l) → k ≤ length l → unwrap_or r 0 ≡ max_to k (λ b. at l b)
max-read l k s r ran road h =
    ap (λ o. unwrap_or o 0) (sym (option_map_id r) ∙ max_from_yields_List s r ran road) ∙ max-front l k h

-- ---- over the indices below n that pass, as `filter` and `map` give them

module _ (p : ℕ → Bool) where
  -- those that pass
  abbrev pub those : ℕ → List ℕ
  those n = filter (λ i. p (suc i)) (range_with_len 0 n)

  pub one-more : (n : ℕ) → those (suc n) ≡ those n ++ filter (λ i. p (suc i)) (n ∷ [])
  one-more n =
      let all = λ (k : ℕ). range_with_len 0 k in
      let e : all (suc n) ≡ all n ++ n ∷ []
      = rw add-one at (sym (map-id (all (n + 1))) ∙ map-range_with_len_more (λ i. i) 0 n n (omega arith) ∙ ap (λ l. l ++ n ∷ []) (map-id (all n))) in
      ap (filter (λ i. p (suc i))) e ∙ filter-append (λ i. p (suc i)) (all n) (n ∷ [])

  pub sum-those : (f : ℕ → ℕ) (n : ℕ) → sum_by (λ i. f (suc i)) (those n) ≡ sum_to n (λ b. pick (p b) (f b) 0)
  unfolding sum_to
  sum-those f zero = refl
  sum-those f (suc n) =
      let e = sum_by-append (λ i. f (suc i)) (those n) (filter (λ i. p (suc i)) (n ∷ [])) in
      let r = sum-those f n in
      ap (sum_by (λ i. f (suc i))) (one-more n)
      ∙ e
      ∙ by_test (p (suc n))
      (λ t. rw t (omega (arith, r)))
      (λ t. rw t (omega (arith, r)))
