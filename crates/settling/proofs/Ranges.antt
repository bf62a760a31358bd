-- What searches over the indices below n find is what the rules' searches over the numbers 1 to n find.
use Rattle.std.proofs.Common.{◌≡◌, refl, ap, ◌∙◌, arith, ℕ, zero, suc, ◌+◌, ◌<◌, ◌≤◌, ltb}
use Rattle.std.proofs.Common.{Bool, true, false, cond, ◌||◌, List, [], ◌∷◌, ◌++◌, Option, None, Some}
use Rattle.std.specs.declared.ops.Range.{Range}
use Rattle.std.proofs.iter.Yields.{nat_range_steps}
use Rattle.std.proofs.lemmas.Iterator.{YieldsList, YieldsList-from_range}
use Rattle.std.specs.List.{range_with_len, list_any, find, filter, reduce}
use Rattle.std.specs.Option.{option_or, IsSome}
use Rattle.std.specs.Ordering.{nat_cmp, min_by_ordering}
use Rattle.std.proofs.lemmas.List.Elements.{filter-append}
use Rattle.std.proofs.lemmas.List.Folds.{list_any-append, find-append}
use Rattle.std.proofs.lemmas.List.Sums.{fold-append}
use mathlib.Core.List.{append-nil}
use native.Mathlib.Nat.{le_refl}
use borrow.Author.Tests.{ltb-true, ltb-false, le-ltb, eq-eqb, ne_eqb}
use Rattle.rules.specs.Fold.{◌or◌, pick, or_else, any_to, first_to, lesser, least_to, greater, greatest_to}
use Rattle.arrays.specs.Found.{found}
use Rattle.theory.proofs.Logic.{by_test}
use Rattle.arrays.proofs.Turns.{greatest-le}

-- the source of a chain
pub below : {s : Range ℕ} (n : ℕ) → s ≡ record { start = 0; end = n } → YieldsList nat_range_steps (λ x. x) s (range_with_len 0 n)
below n e = YieldsList-from_range 0 n n e (omega arith)

range-more : (a n k : ℕ) → a + n ≡ k → range_with_len a (suc n) ≡ range_with_len a n ++ (k ∷ [])
range-more a zero k e = ap (λ (x : ℕ). x ∷ []) (omega arith)
range-more a (suc n) k e = ap (λ (xs : List ℕ). a ∷ xs) (range-more (a + 1) n k (omega arith))

-- ---- some, and the first

any-or : (a b : Bool) → (a || (b || false)) ≡ a or b
unfolding ◌or◌
any-or true b = refl
any-or false true = refl
any-or false false = refl

pub any_range : (p : ℕ → Bool) (n : ℕ) → list_any (λ k. p (suc k)) (range_with_len 0 n) ≡ any_to n p
unfolding any_to
any_range p zero = refl
any_range p (suc n) =
    ap (list_any (λ k. p (suc k))) (range-more 0 n n (omega arith))
    ∙ list_any-append (λ k. p (suc k)) (range_with_len 0 n) (n ∷ [])
    ∙ ap (λ (b : Bool). b || (p (suc n) || false)) (any_range p n)
    ∙ any-or (any_to n p) (p (suc n))

or-found : (a : ℕ) (b : Bool) (n : ℕ) → option_or (found a) (cond b (Some n) None) ≡ found (or_else a (pick b (suc n) 0))
unfolding or_else
or-found zero true n = refl
or-found zero false n = refl
or-found (suc a) b n = refl

pub find_range : (p : ℕ → Bool) (n : ℕ) → find (λ k. p (suc k)) (range_with_len 0 n) ≡ found (first_to n p)
unfolding first_to
find_range p zero = refl
find_range p (suc n) =
    ap (find (λ k. p (suc k))) (range-more 0 n n (omega arith))
    ∙ find-append (λ k. p (suc k)) (range_with_len 0 n) (n ∷ [])
    ∙ ap (λ (o : Option ℕ). option_or o (cond (p (suc n)) (Some n) None)) (find_range p n)
    ∙ or-found (first_to n p) (p (suc n)) n

-- ---- the best of those that pass, the first on a tie; `best` is of two

-- the indices below n whose numbers pass
abbrev passing : (ℕ → Bool) → ℕ → List ℕ
passing p n = filter (λ k. p (suc k)) (range_with_len 0 n)

-- the best so far, and one more
abbrev next : (ℕ → ℕ → ℕ) → Option ℕ → ℕ → Option ℕ
next best None k = Some k
next best (Some a) k = Some (best a k)

reduce-more : (best : ℕ → ℕ → ℕ) (xs : List ℕ) (k : ℕ) → reduce best (xs ++ (k ∷ [])) ≡ next best (reduce best xs) k
reduce-more best [] k = refl
reduce-more best (x ∷ xs) k = ap (λ (y : ℕ). Some y) (fold-append best x xs (k ∷ []))

module _ (best : ℕ → ℕ → ℕ) (p : ℕ → Bool) where
  best-more : (n : ℕ)
      → reduce best (passing p (suc n)) ≡ cond (p (suc n)) (next best (reduce best (passing p n)) n) (reduce best (passing p n))
  best-more n =
      ap (λ (xs : List ℕ). reduce best (filter (λ k. p (suc k)) xs)) (range-more 0 n n (omega arith))
      ∙ ap (reduce best) (filter-append (λ k. p (suc k)) (range_with_len 0 n) (n ∷ []))
      ∙ by_test (p (suc n))
      (λ t. rw t (reduce-more best (passing p n) n))
      (λ t. rw t (ap (reduce best) (append-nil (passing p n))))

-- of two, by the values of their numbers
abbrev pub less : (ℕ → ℕ) → ℕ → ℕ → ℕ
less f a i = min_by_ordering (nat_cmp (f (suc a)) (f (suc i))) a i

abbrev pub more : (ℕ → ℕ) → ℕ → ℕ → ℕ
more f a i = min_by_ordering (nat_cmp (f (suc i)) (f (suc a))) a i

-- the second of two only where its key is smaller
min-pick : (u v a k : ℕ) → Some (min_by_ordering (nat_cmp u v) a k) ≡ found (pick (ltb v u) (suc k) (suc a))
min-pick u v a k =
    by_test (ltb v u)
    (λ t. let l = ltb-true v u t in rw (t, le-ltb u v (omega arith), ne_eqb u v (omega arith)) refl)
    (λ t. let l = ltb-false v u t in
    by_test (ltb u v)
    (λ e. rw (t, e) refl)
    (λ e. let m = ltb-false u v e in rw (t, e, eq-eqb u v (omega arith)) refl))

least-turn : (f : ℕ → ℕ) (r : ℕ) (b : Bool) (k : ℕ)
    → cond b (next (less f) (found r) k) (found r) ≡ found (lesser f r b (suc k))
unfolding lesser
least-turn f zero false k = refl
least-turn f (suc a) false k = refl
least-turn f zero true k = refl
least-turn f (suc a) true k = min-pick (f (suc a)) (f (suc k)) a k

greatest-turn : (f : ℕ → ℕ) (r : ℕ) (b : Bool) (k : ℕ)
    → cond b (next (more f) (found r) k) (found r) ≡ found (greater f r b (suc k))
unfolding greater
greatest-turn f zero false k = refl
greatest-turn f (suc a) false k = refl
greatest-turn f zero true k = refl
greatest-turn f (suc a) true k = min-pick (f (suc k)) (f (suc a)) a k

module _ (p : ℕ → Bool) (f : ℕ → ℕ) where
  pub least_range : (n : ℕ) → reduce (less f) (passing p n) ≡ found (least_to n p f)
  unfolding least_to
  least_range zero = refl
  least_range (suc n) =
      best-more _ p n
      ∙ ap (λ (o : Option ℕ). cond (p (suc n)) (next (less f) o n) o) (least_range n)
      ∙ least-turn f (least_to n p f) (p (suc n)) n

  pub greatest_range : (n : ℕ) → reduce (more f) (passing p n) ≡ found (greatest_to n p f)
  unfolding greatest_to
  greatest_range zero = refl
  greatest_range (suc n) =
      best-more _ p n
      ∙ ap (λ (o : Option ℕ). cond (p (suc n)) (next (more f) o n) o) (greatest_range n)
      ∙ greatest-turn f (greatest_to n p f) (p (suc n)) n

-- the greatest by values that are the same
greater-same : (f g : ℕ → ℕ) (a k : ℕ) (b : Bool) → (0 < a → f a ≡ g a) → f k ≡ g k → greater f a b k ≡ greater g a b k
unfolding greater
greater-same f g zero k false h e = refl
greater-same f g zero k true h e = refl
greater-same f g (suc a) k false h e = refl
greater-same f g (suc a) k true h e = rw (h (omega arith), e) refl

pub greatest-ext : (n : ℕ) (p : ℕ → Bool) (f g : ℕ → ℕ) → ((i : ℕ) → 0 < i → i ≤ n → f i ≡ g i)
    → greatest_to n p f ≡ greatest_to n p g
unfolding greatest_to
greatest-ext zero p f g h = refl
greatest-ext (suc n) p f g h =
    ap (λ (r : ℕ). greater f r (p (suc n)) (suc n)) (greatest-ext n p f g (λ i l u. h i l (omega arith)))
    ∙ greater-same f g (greatest_to n p g) (suc n) (p (suc n))
    (λ l. h (greatest_to n p g) l (omega (arith, greatest-le n p g (greatest_to n p g) refl))) (h (suc n) (omega arith) (le_refl (suc n)))

-- ---- a search that found something

pub some_found : (a : ℕ) → 0 < a → IsSome (found a)
some_found zero l = absurd (omega arith)
some_found (suc a) l = refl

pub found_some : (a k : ℕ) → Some k ≡ found a → a ≡ suc k
found_some zero k e = cc
found_some (suc a) k e = cc

pub found_none : (a : ℕ) → None ≡ found a → a ≡ 0
found_none zero e = refl
found_none (suc a) e = cc
