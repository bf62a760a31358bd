-- An unquoted field: what its digits say is what is read from the front, digit by digit.
use Prim.Native.Nat.{ℕ, zero, suc, ◌+◌, ◌-◌, ◌*◌}
use mathlib.Core.Path.{◌≡◌, refl, sym, ap, ◌∙◌}
use mathlib.Core.Bool.{true, false}
use mathlib.Core.List.{List, [], ◌∷◌}
use mathlib.Core.Option.{Option, some, none}
use lib.Dec.{eqb}
use Rattle.rules.specs.Fold.{pick}
use Rattle.rules.specs.Field.{is_digit}
use Rattle.theory.proofs.Logic.{by_test, conflict}
use Rattle.rules.specs.Csv.{is_text, Rest, record_end, plain, fields_from}
use Rattle.rules.specs.Worklist.{when_some}
use Rattle.worklist.specs.Rows.{Front, gives, fails, and_then, or_fail, room, digits_at, number_at, number_or_nothing_at}
use Rattle.worklist.proofs.Bytes.{digit-text, text-comma}
use Rattle.worklist.proofs.Front.{on_rest, after, after_same, after-fails, after_text, field-ends}
use Rattle.worklist.proofs.Record.{judged, plain_end, plain-fails, plain-goes}

-- what may be read at the front: a number, or e where no digit stands there
unfoldable pub first_at : Option ℕ → List ℕ → Front ℕ
first_at e [] = or_fail e (λ v. gives v [])
first_at e (x ∷ s) = pick (is_digit x) (digits_at (room x) (x - 48) s) (or_fail e (λ v. gives v (x ∷ s)))

pub number-first : (s : List ℕ) → number_at s ≡ first_at none s
unfolding number_at first_at
number-first [] = refl
number-first (x ∷ s) = refl

pub place-first : (s : List ℕ) → number_or_nothing_at s ≡ first_at (some 0) s
unfolding number_or_nothing_at first_at
place-first [] = refl
place-first (x ∷ s) = refl

pub first-digit : (e : Option ℕ) (x : ℕ) (s : List ℕ) → is_digit x ≡ true → first_at e (x ∷ s) ≡ digits_at (room x) (x - 48) s
unfolding first_at
first-digit e x s i = rw i

pub first-none : (e : Option ℕ) (x : ℕ) (s : List ℕ) → is_digit x ≡ false → first_at e (x ∷ s) ≡ or_fail e (λ v. gives v (x ∷ s))
unfolding first_at
first-none e x s n = rw n

-- no digit, no further digit
pub digits-stop : (j v x : ℕ) (s : List ℕ) → is_digit x ≡ false → digits_at j v (x ∷ s) ≡ gives v (x ∷ s)
unfolding digits_at
digits-stop zero v x s n = refl
digits-stop (suc j) v x s n = rw n

pub digits-go : (j v x : ℕ) (s : List ℕ) → is_digit x ≡ true → digits_at (suc j) v (x ∷ s) ≡ digits_at j (10 * v + (x - 48)) s
unfolding digits_at
digits-go j v x s t = rw t

-- a check d that reads up to j more digits after digits of value v, and says g of the value
pub record Reads {X : Type 0} (d : ℕ → ℕ → List ℕ → Option X) (g : ℕ → X) : Type 0 where
  pub ends : (j v : ℕ) → d j v [] ≡ some (g v)
  pub full : (v x : ℕ) (f : List ℕ) → is_digit x ≡ true → d 0 v (x ∷ f) ≡ none
  pub more : (j v x : ℕ) (f : List ℕ) → is_digit x ≡ true → d (suc j) v (x ∷ f) ≡ d j (10 * v + (x - 48)) f
  pub other : (j v x : ℕ) (f : List ℕ) → is_digit x ≡ false → eqb x 44 ≡ false → d j v (x ∷ f) ≡ none

-- a check c of a whole field, of which d judges what comes after the first digit, and of which an empty field says e
pub record Begins {X : Type 0} (c : List ℕ → Option X) (d : ℕ → ℕ → List ℕ → Option X) (g : ℕ → X) (e : Option ℕ) : Type 0 where
  pub empty : c [] ≡ when_some e (λ v. some (g v))
  pub first : (x : ℕ) (f : List ℕ) → is_digit x ≡ true → c (x ∷ f) ≡ d (room x) (x - 48) f
  pub none-else : (x : ℕ) (f : List ℕ) → is_digit x ≡ false → c (x ∷ f) ≡ none

no_text : (x : ℕ) → is_text x ≡ false → is_digit x ≡ false
no_text x n = by_test (is_digit x) (λ t. conflict (digit-text x t) n) (λ t. t)

module _ {X Y : Type 0} (d : ℕ → ℕ → List ℕ → Option X) (g : ℕ → X) (laws : Reads d g)
    (k : X → List (List ℕ) → List ℕ → Front Y) where
  abbrev goes : Front ℕ → Front Y
  goes p = and_then p (λ u r. after (k (g u)) r)

  -- the field ends here
  ends-here : (j v x : ℕ) (s : List ℕ) → is_text x ≡ false
      → on_rest (fields_from plain (x ∷ s)) (judged (d j v) k) ≡ goes (digits_at j v (x ∷ s))
  ends-here j v x s n =
      ap (λ (p : Rest). on_rest p (judged (d j v) k)) (plain_end x s n)
      ∙ field-ends x s (judged (d j v) k)
      ∙ after_same (x ∷ s) (λ fs r. judged (d j v) k [] fs r) (k (g v)) (λ fs r. rw (laws.ends j v))
      ∙ sym (ap goes (digits-stop j v x s (no_text x n)))

  plain-digits : (j v : ℕ) (s : List ℕ) → on_rest (fields_from plain s) (judged (d j v) k) ≡ goes (digits_at j v s)
  unfolding fields_from record_end digits_at
  plain-digits j v [] = rw (laws.ends j v)
  plain-digits zero v (x ∷ s) =
      by_test (is_text x)
      (λ t.
      plain-fails (d 0 v) k x s t (λ f. by_test (is_digit x) (λ i. laws.full v x f i) (λ i. laws.other 0 v x f i (text-comma x t)))
      ∙ sym (after_text x s (k (g v)) t))
      (λ n. ends-here 0 v x s n)
  plain-digits (suc j) v (x ∷ s) =
      by_test (is_digit x)
      (λ i.
      plain-goes (d (suc j) v) (d j (10 * v + (x - 48))) k x s (digit-text x i) (λ f. laws.more j v x f i)
      ∙ plain-digits j (10 * v + (x - 48)) s
      ∙ sym (ap goes (digits-go j v x s i)))
      (λ i. by_test (is_text x)
      (λ t.
      plain-fails (d (suc j) v) k x s t (λ f. laws.other (suc j) v x f i (text-comma x t))
      ∙ sym (ap goes (digits-stop (suc j) v x s i) ∙ after_text x s (k (g v)) t))
      (λ n. ends-here (suc j) v x s n))

  module _ (c : List ℕ → Option X) (e : Option ℕ) (begins : Begins c d g e) where
    none_here : (s : List ℕ) (x : ℕ) (o : Option ℕ) → is_text x ≡ true → goes (or_fail o (λ v. gives v (x ∷ s))) ≡ fails
    none_here s x none t = refl
    none_here s x (some v) t = after_text x s (k (g v)) t

    empty-here : (s : List ℕ) (o : Option ℕ)
        → after (λ fs r. or_fail (when_some o (λ v. some (g v))) (λ u. k u fs r)) s ≡ goes (or_fail o (λ v. gives v s))
    empty-here s none = after-fails s _ (λ fs r. refl)
    empty-here s (some v) = refl

    pub plain-field : (s : List ℕ) → on_rest (fields_from plain s) (judged c k) ≡ and_then (first_at e s) (λ u r. after (k (g u)) r)
    unfolding fields_from record_end first_at
    plain-field [] = rw begins.empty (empty-here [] e)
    plain-field (x ∷ s) =
        by_test (is_digit x)
        (λ i.
        plain-goes c (d (room x) (x - 48)) k x s (digit-text x i) (λ f. begins.first x f i)
        ∙ plain-digits (room x) (x - 48) s ∙ sym (rw i))
        (λ i. by_test (is_text x)
        (λ t. plain-fails c k x s t (λ f. begins.none-else x f i) ∙ sym (rw i (none_here s x e t)))
        (λ n.
        ap (λ (p : Rest). on_rest p (judged c k)) (plain_end x s n)
        ∙ field-ends x s (judged c k)
        ∙ after_same (x ∷ s) (λ fs r. judged c k [] fs r) (λ fs r. or_fail (when_some e (λ v. some (g v))) (λ u. k u fs r)) (λ fs r. rw begins.empty)
        ∙ empty-here (x ∷ s) e
        ∙ sym (rw i)))
