-- Reading a list: the numbers so far, the first 25 of them kept, and what is left goes on from them as the rules do.
use Prim.Native.Nat.{ℕ, suc, ◌+◌, ◌-◌, ◌≤◌, ◌<◌}
use mathlib.Core.Path.{◌≡◌, refl, sym, ap, ◌∙◌}
use mathlib.Core.List.{List, [], ◌∷◌, ◌++◌, append_assoc, append-nil}
use native.Mathlib.Omega.{arith}
use lib.ListN.{length, take, drop, length-append, length-take}
use Rattle.std.proofs.Common.{Some, None, min}
use Rattle.rules.specs.Refusal.{malformed}
use Rattle.rules.specs.Read.{Part, gives, refuses, and_then, number_at}
use Rattle.rules.specs.Journal.{numbers_at}
use Rattle.sheet.specs.Represent.{firsts}
use Rattle.fields.proofs.Reading.{next-at}
use Rattle.journal.specs.Entry.{list_as}

-- ---- k of the c numbers from at on are read, up to next

-- what is given after those of l
abbrev after : List ℕ → Part (List ℕ) → Part (List ℕ)
after l p = and_then p (λ m r. gives (l ++ m) r)

after_more : (l : List ℕ) (x : ℕ) (p : Part (List ℕ)) →
    after l (and_then p (λ m r. gives (x ∷ m) r)) ≡ after (l ++ (x ∷ [])) p
after_more l x (gives m r) = ap (λ (d : List ℕ). gives d r) (sym (append_assoc l (x ∷ []) m))
after_more l x (refuses e) = refl

after_none : (p : Part (List ℕ)) → after [] p ≡ p
after_none (gives m r) = refl
after_none (refuses e) = refl

module _ (s : List ℕ) (at c : ℕ) where
  pub record NumbersSofar (list : List ℕ) (k next : ℕ) : Type 0 where
    pub numbers : List ℕ
    pub count : length numbers ≡ k
    pub same : list ≡ firsts numbers
    pub room : next ≤ length s
    pub few : k ≤ c
    pub rest : after numbers (numbers_at (c - k) (drop next s)) ≡ numbers_at c (drop at s)

  pub none_yet : (list : List ℕ) → list ≡ firsts [] → at ≤ length s → NumbersSofar list 0 at
  none_yet list e h =
      let d : c - 0 ≡ c = omega arith in
      record {
        numbers = [];
        count = refl;
        same = e;
        room = h;
        few = omega arith;
        rest = after_none (numbers_at (c - 0) (drop at s)) ∙ ap (λ (i : ℕ). numbers_at i (drop at s)) d;
      }

  module _ (list : List ℕ) (k next : ℕ) (f : NumbersSofar list k next) where
    turn : k < c → after f.numbers (and_then (number_at (drop next s)) (λ x r.
        and_then (numbers_at (c - (k + 1)) r) (λ l u. gives (x ∷ l) u))) ≡ numbers_at c (drop at s)
    unfolding numbers_at
    turn h =
        let e : c - k ≡ suc (c - (k + 1)) = omega arith in
        ap (λ (i : ℕ). after f.numbers (numbers_at i (drop next s))) (sym e) ∙ f.rest

    -- the next number is missing
    pub then-missing : k < c → number_at (drop next s) ≡ refuses malformed → None ≡ list_as (length s) (numbers_at c (drop at s))
    then-missing h e = rw (← turn h, e)

    -- one number more
    pub one_more : (x : ℕ) (more : List ℕ) → k < c → number_at (drop next s) ≡ gives x (drop (next + 6) s) → next + 6 ≤ length s
        → more ≡ firsts (f.numbers ++ (x ∷ [])) → NumbersSofar more (k + 1) (next + 6)
    one_more x more h e l q =
        let g : after f.numbers (and_then (numbers_at (c - (k + 1)) (drop (next + 6) s)) (λ m u. gives (x ∷ m) u))
        ≡ numbers_at c (drop at s) = rw e at (turn h) in
        record {
          numbers = f.numbers ++ (x ∷ []);
          count = omega (arith, length-append f.numbers (x ∷ []), f.count);
          same = q;
          room = l;
          few = omega arith;
          rest = sym (after_more f.numbers x (numbers_at (c - (k + 1)) (drop (next + 6) s))) ∙ g;
        }

    -- all are read
    pub all_read : c ≤ k → Some (record { count = min c 25; numbers = list }, next) ≡ list_as (length s) (numbers_at c (drop at s))
    unfolding numbers_at
    all_read h =
        let z : c - k ≡ 0 = omega arith in
        let q : after f.numbers (numbers_at 0 (drop next s)) ≡ numbers_at c (drop at s) =
        ap (λ (i : ℕ). after f.numbers (numbers_at i (drop next s))) (sym z) ∙ f.rest in
        let p : gives f.numbers (drop next s) ≡ numbers_at c (drop at s) =
        ap (λ (l : List ℕ). gives l (drop next s)) (sym (append-nil f.numbers)) ∙ q in
        let n : min c 25 ≡ length (take 25 f.numbers) = omega (arith, length-take 25 f.numbers, f.count, f.few) in
        let u : Some (record { count = min c 25; numbers = list }, next) ≡ list_as (length s) (gives f.numbers (drop next s)) =
        rw (n, f.same, ← next-at s next f.room) refl in
        u ∙ ap (list_as (length s)) p
