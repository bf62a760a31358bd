-- A list as the code reads it: one number, and in quotes, after each comma, the next.
use Prim.Native.Nat.{ℕ, ◌+◌, ◌≤◌, ◌<◌}
use mathlib.Core.Path.{◌≡◌, refl, sym, ap, ◌∙◌}
use mathlib.Core.List.{List, [], ◌∷◌, ◌++◌, append_assoc, append-nil}
use native.Mathlib.Omega.{arith}
use lib.Dec.{eqb}
use lib.ListN.{length, set, take}
use Rattle.std.specs.Prelude.{Some, None}
use Rattle.rules.specs.Fold.{pick}
use Rattle.theory.proofs.Logic.{by_test}
use Rattle.worklist.specs.declared.row.Members.{Members}
use Rattle.worklist.specs.Rows.{Front, gives, fails, and_then, byte_at, number_at, start, onto, numbers_from, list_at}
use Rattle.sheet.specs.Represent.{firsts}
use Rattle.worklist.specs.Read.{behind, kept, one_number}
use Rattle.worklist.proofs.Members.{numbers_after, numbers-by-number}
use Rattle.worklist.proofs.Reading.{byte-none, byte-some, behind-shorter}
use Rattle.worklist.proofs.Digits.{number-left}
use Rattle.worklist.proofs.Kept.{kept_fills, count-fills, kept_full, count-full}

-- ---- what is kept of a list

pub kept-none : (p : Front (List ℕ)) → fails ≡ kept p → fails ≡ p
kept-none (gives l r) e = cc
kept-none fails e = refl

pub record KeptOf (p : Front (List ℕ)) (m : Members) (r : List ℕ) : Type 0 where
  pub numbers : List ℕ
  pub all : p ≡ gives numbers r
  pub count : m.count ≡ length (take 25 numbers)
  pub same : m.list ≡ firsts numbers

pub kept-some : (p : Front (List ℕ)) (m : Members) (r : List ℕ) → gives m r ≡ kept p → KeptOf p m r
kept-some (gives l u) m r e =
    let q : m ≡ record { count = length (take 25 l); list = firsts l } = cc in
    let h : u ≡ r = cc in
    record { numbers = l; all = rw h; count = ap (λ (x : Members). x.count) q; same = ap (λ (x : Members). x.list) q }
kept-some fails m r e = absurd (let z : gives m r ≡ fails = e in cc)

kept-made : (l list : List ℕ) (count : ℕ) (r : List ℕ) {p : Front (List ℕ)} → count ≡ length (take 25 l) → list ≡ firsts l → gives l r ≡ p
    → gives (record { count = count; list = list }) r ≡ kept p
kept-made l list count r c f e =
    let made : Members = record { count = count; list = list } in
    let q : gives made r ≡ kept (gives l r) = rw (c, f) in
    q ∙ ap kept e

-- ---- the numbers after l

abbrev after : List ℕ → Front (List ℕ) → Front (List ℕ)
after l p = and_then p (λ m r. gives (l ++ m) r)

-- after a comma the next
abbrev more_at : List ℕ → Front (List ℕ)
more_at [] = gives [] []
more_at (x ∷ t) = pick (eqb x 44) (numbers_from start t) (gives [] (x ∷ t))

more-none : (t : List ℕ) → None ≡ behind 44 t → more_at t ≡ gives [] t
more-none [] e = refl
more-none (x ∷ t) e = by_test (eqb x 44) (λ c. absurd (let z : None ≡ Some t = e ∙ rw c in cc)) (λ c. rw c)

more-some : (t r : List ℕ) → Some r ≡ behind 44 t → more_at t ≡ numbers_from start r
more-some [] r e = absurd (let z : Some r ≡ None = e in cc)
more-some (x ∷ t) r e =
    by_test (eqb x 44)
    (λ c. let z : Some r ≡ Some t = e ∙ rw c in let q : t ≡ r = cc in rw (c, q))
    (λ c. absurd (let z : Some r ≡ None = e ∙ rw c in cc))

after_more : (l : List ℕ) (v : ℕ) (p : Front (List ℕ)) → after l (after (v ∷ []) p) ≡ after (l ++ (v ∷ [])) p
after_more l v (gives m r) = ap (λ (d : List ℕ). gives d r) (sym (append_assoc l (v ∷ []) m))
after_more l v fails = refl

onto-after : (v : ℕ) (p : Front (List ℕ)) → onto v p ≡ after (v ∷ []) p
onto-after v (gives l r) = refl
onto-after v fails = refl

numbers_after_lem : (v : ℕ) (t : List ℕ) → numbers_after v t ≡ after (v ∷ []) (more_at t)
numbers_after_lem v [] = refl
numbers_after_lem v (x ∷ t) = by_test (eqb x 44) (λ c. rw c (onto-after v (numbers_from start t))) (λ c. rw c)

first-number : (t : List ℕ) (v : ℕ) (r : List ℕ) → number_at t ≡ gives v r → numbers_from start t ≡ after (v ∷ []) (more_at r)
first-number t v r e = numbers-by-number t ∙ rw e (numbers_after_lem v r)

no-numbers : (t : List ℕ) → number_at t ≡ fails → numbers_from start t ≡ fails
no-numbers t e = numbers-by-number t ∙ rw e

-- of a list of one
one-first : (t l r : List ℕ) → one_number t ≡ gives l r → numbers_from start t ≡ after l (more_at r)
one-first t l r e = from (number_at t) refl e
  where
    from : (p : Front ℕ) → number_at t ≡ p → and_then p (λ v u. gives (v ∷ []) u) ≡ gives l r → numbers_from start t ≡ after l (more_at r)
    from (gives v u) q d =
        let a : v ∷ [] ≡ l = cc in
        let b : u ≡ r = cc in
        rw (← a, ← b) (first-number t v u q)
    from fails q d = absurd (let z : ◌≡◌ {A = ℕ} 0 1 = cc in omega arith)

none_first : (t : List ℕ) → one_number t ≡ fails → numbers_from start t ≡ fails
none_first t e = from (number_at t) refl e
  where
    from : (p : Front ℕ) → number_at t ≡ p → and_then p (λ v u. gives (v ∷ []) u) ≡ fails → numbers_from start t ≡ fails
    from (gives v u) q d = absurd (let z : ◌≡◌ {A = ℕ} 0 1 = cc in omega arith)
    from fails q d = no-numbers t q

-- ---- the numbers up to rest are read

module _ (s : List ℕ) where
  pub record NumbersSofar (m : Members) (rest : List ℕ) : Type 0 where
    pub numbers : List ℕ
    pub size : m.count ≡ length (take 25 numbers)
    pub same : m.list ≡ firsts numbers
    pub more : after numbers (more_at rest) ≡ numbers_from start s

  pub no-first : fails ≡ kept (one_number s) → fails ≡ kept (numbers_from start s)
  no-first e = sym (ap kept (none_first s (sym (kept-none (one_number s) e))))

  pub one-read : (m : Members) (r : List ℕ) → gives m r ≡ kept (one_number s) → NumbersSofar m r
  one-read m r e =
      let k = kept-some (one_number s) m r e in
      record { numbers = k.numbers; size = k.count; same = k.same; more = sym (one-first s k.numbers r k.all) }

  module _ (m : Members) (rest : List ℕ) (f : NumbersSofar m rest) where
    -- a comma follows
    module _ (next : List ℕ) (c : Some next ≡ behind 44 rest) where
      turn : after f.numbers (numbers_from start next) ≡ numbers_from start s
      turn = ap (after f.numbers) (sym (more-some rest next c)) ∙ f.more

      -- and then no number
      pub then-missing : fails ≡ number_at next → fails ≡ kept (numbers_from start s)
      then-missing e = ap kept (sym (ap (after f.numbers) (no-numbers next (sym e))) ∙ turn)

      -- and then the number v
      module _ (v : ℕ) (u : List ℕ) (e : gives v u ≡ number_at next) where
        pub shorter : length u < length rest
        shorter = omega (arith, number-left next v u e, behind-shorter 44 rest next c)

        one_more : (count : ℕ) (list : List ℕ) → list ≡ firsts (f.numbers ++ (v ∷ [])) → count ≡ length (take 25 (f.numbers ++ (v ∷ [])))
            → NumbersSofar (record { count = count; list = list }) u
        one_more count list a b = record {
          numbers = f.numbers ++ (v ∷ []);
          size = b;
          same = a;
          more =
              sym (after_more f.numbers v (more_at u))
              ∙ ap (after f.numbers) (sym (first-number next v u (sym e)))
              ∙ turn;
        }

        pub one-kept : m.count < 25 → NumbersSofar (record { count = m.count + 1; list = set m.list m.count v }) u
        one-kept h =
            one_more (m.count + 1) (set m.list m.count v)
            (ap (λ (l : List ℕ). set l m.count v) f.same ∙ kept_fills f.numbers m.count v f.size h)
            (count-fills f.numbers m.count v f.size h)

        pub one-passed : 25 ≤ m.count → NumbersSofar m u
        one-passed h = one_more m.count m.list (f.same ∙ kept_full f.numbers m.count v f.size h) (count-full f.numbers m.count v f.size h)

    -- none follows
    pub all_read : None ≡ behind 44 rest → gives m rest ≡ kept (numbers_from start s)
    all_read c =
        kept-made f.numbers m.list m.count rest f.size f.same
        (ap (λ (l : List ℕ). gives l rest) (sym (append-nil f.numbers)) ∙ ap (after f.numbers) (sym (more-none rest c)) ∙ f.more)

-- ---- one number, or numbers in quotes

pub one-listed : (s : List ℕ) → None ≡ behind 34 s → kept (one_number s) ≡ kept (list_at s)
unfolding list_at number_at
one-listed [] e = refl
one-listed (x ∷ s) e = by_test (eqb x 34) (λ t. absurd (let z : None ≡ Some s = e ∙ rw t in cc)) (λ t. rw t)

many-listed : (s r : List ℕ) → Some r ≡ behind 34 s → list_at s ≡ and_then (numbers_from start r) (λ l u. byte_at 34 u (λ t. gives l t))
unfolding list_at
many-listed [] r e = absurd (let z : Some r ≡ None = e in cc)
many-listed (x ∷ s) r e =
    by_test (eqb x 34)
    (λ t. let z : Some r ≡ Some s = e ∙ rw t in let q : s ≡ r = cc in rw (t, q))
    (λ t. absurd (let z : Some r ≡ None = e ∙ rw t in cc))

module _ (s r : List ℕ) (q : Some r ≡ behind 34 s) where
  pub none-listed : fails ≡ kept (numbers_from start r) → fails ≡ kept (list_at s)
  none-listed e =
      ap (λ (p : Front (List ℕ)). kept (and_then p (λ l u. byte_at 34 u (λ t. gives l t)))) (kept-none (numbers_from start r) e)
      ∙ sym (ap kept (many-listed s r q))

  module _ (m : Members) (u : List ℕ) (e : gives m u ≡ kept (numbers_from start r)) where
    read : KeptOf (numbers_from start r) m u
    read = kept-some (numbers_from start r) m u e

    onward : byte_at 34 u (λ t. gives read.numbers t) ≡ list_at s
    onward = sym (many-listed s r q ∙ rw read.all)

    pub unclosed : None ≡ behind 34 u → fails ≡ kept (list_at s)
    unclosed c = ap kept (sym (byte-none 34 u (λ t. gives read.numbers t) c) ∙ onward)

    pub closed : (t : List ℕ) → Some t ≡ behind 34 u → gives m t ≡ kept (list_at s)
    closed t c =
        kept-made read.numbers m.list m.count t read.count read.same (sym (byte-some 34 u t (λ x. gives read.numbers x) c) ∙ onward)
