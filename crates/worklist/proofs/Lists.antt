-- The checks of a number's field and of a list's, digit by digit.
use Prim.Native.Nat.{ℕ, zero, suc, ◌+◌, ◌-◌, ◌*◌}
use mathlib.Core.Path.{◌≡◌, refl, ap, ◌∙◌}
use mathlib.Core.Bool.{true, false}
use mathlib.Core.List.{List, [], ◌∷◌}
use mathlib.Core.Option.{Option, some, none}
use lib.Dec.{eqb}
use Rattle.rules.specs.Field.{is_digit}
use Rattle.theory.proofs.Logic.{by_test}
use Rattle.rules.specs.Worklist.{when_some, number, grow_first, parts, numbers, number_list}
use Rattle.worklist.specs.Rows.{room}
use Rattle.worklist.proofs.Bytes.{digit-text, text-comma}
use Rattle.worklist.proofs.Number.{digits_of, field_of, number_is}
use Rattle.worklist.proofs.Plain.{Reads, Begins}

-- ---- numbers

pub no_digit : (j v x : ℕ) (f : List ℕ) → is_digit x ≡ false → digits_of j v (x ∷ f) ≡ none
unfolding digits_of
no_digit zero v x f n = refl
no_digit (suc j) v x f n = rw n

pub digits-read : Reads digits_of (λ v. v)
unfolding digits_of
digits-read = record {
  ends = λ j v. refl;
  full = λ v x f i. refl;
  more = λ j v x f i. rw i;
  other = λ j v x f n c. no_digit j v x f n;
}

pub field-begins : (e : Option ℕ) → Begins (field_of e) digits_of (λ v. v) e
unfolding field_of
field-begins e = record { empty = by e; first = λ x f i. rw i; none-else = λ x f n. rw n }
  where
    by : (o : Option ℕ) → o ≡ when_some o (λ v. some v)
    by none = refl
    by (some v) = refl

-- ---- lists

-- the parts of a list, the first of which has begun with digits of value v and may have j more
unfoldable pub parts_of : ℕ → ℕ → List (List ℕ) → Option (List ℕ)
parts_of j v [] = some (v ∷ [])
parts_of j v (p ∷ ps) = when_some (digits_of j v p) (λ u. when_some (numbers ps) (λ l. some (u ∷ l)))

abbrev pub rest_of : ℕ → ℕ → List ℕ → Option (List ℕ)
rest_of j v f = parts_of j v (parts f)

parts_more : (x : ℕ) (f : List ℕ) → eqb x 44 ≡ false → parts (x ∷ f) ≡ grow_first x (parts f)
unfolding parts
parts_more x f c = rw c

parts_none : (j v x : ℕ) (ps : List (List ℕ)) → ((f : List ℕ) → digits_of j v (x ∷ f) ≡ none) → parts_of j v (grow_first x ps) ≡ none
unfolding parts_of
parts_none j v x [] h = rw (h [])
parts_none j v x (p ∷ ps) h = rw (h p)

parts-digit : (j v x : ℕ) (ps : List (List ℕ)) → is_digit x ≡ true → parts_of (suc j) v (grow_first x ps) ≡ parts_of j (10 * v + (x - 48)) ps
unfolding parts_of digits_of numbers
parts-digit j v x [] i = rw i
parts-digit j v x (p ∷ ps) i = rw i

digit-comma : (x : ℕ) → is_digit x ≡ true → eqb x 44 ≡ false
digit-comma x i = text-comma x (digit-text x i)

pub rest-reads : Reads rest_of (λ v. v ∷ [])
unfolding parts_of parts numbers digits_of
rest-reads = record {
  ends = λ j v. refl;
  full = λ v x f i. ap (λ (ps : List (List ℕ)). parts_of 0 v ps) (parts_more x f (digit-comma x i)) ∙ parts_none 0 v x (parts f) (λ f. refl);
  more = λ j v x f i.
      ap (λ (ps : List (List ℕ)). parts_of (suc j) v ps) (parts_more x f (digit-comma x i)) ∙ parts-digit j v x (parts f) i;
  other = λ j v x f n c.
      ap (λ (ps : List (List ℕ)). parts_of j v ps) (parts_more x f c) ∙ parts_none j v x (parts f) (λ f. no_digit j v x f n);
}

-- a comma ends a number, and a list begins anew
pub rest-comma : (j v x : ℕ) (f : List ℕ) → eqb x 44 ≡ true → rest_of j v (x ∷ f) ≡ when_some (number_list f) (λ l. some (v ∷ l))
unfolding parts_of parts digits_of number_list
rest-comma j v x f c = rw c

-- ---- the first number of a list

number-digit : (x : ℕ) (f : List ℕ) → is_digit x ≡ true → number (x ∷ f) ≡ digits_of (room x) (x - 48) f
unfolding field_of
number-digit x f i = number_is (x ∷ f) ∙ rw i

number-none : (x : ℕ) (f : List ℕ) → is_digit x ≡ false → number (x ∷ f) ≡ none
unfolding field_of
number-none x f n = number_is (x ∷ f) ∙ rw n

number-empty : number [] ≡ none
unfolding field_of
number-empty = number_is []

numbers-digit : (x : ℕ) (ps : List (List ℕ)) → is_digit x ≡ true → numbers (grow_first x ps) ≡ parts_of (room x) (x - 48) ps
unfolding numbers parts_of digits_of
numbers-digit x [] i = rw (number-digit x [] i)
numbers-digit x (p ∷ ps) i = rw (number-digit x p i)

numbers-none : (x : ℕ) (ps : List (List ℕ)) → is_digit x ≡ false → numbers (grow_first x ps) ≡ none
unfolding numbers
numbers-none x [] n = rw (number-none x [] n)
numbers-none x (p ∷ ps) n = rw (number-none x p n)

list-empty : number_list [] ≡ none
unfolding number_list parts numbers
list-empty = rw number-empty

list-digit : (x : ℕ) (f : List ℕ) → is_digit x ≡ true → number_list (x ∷ f) ≡ rest_of (room x) (x - 48) f
unfolding number_list
list-digit x f i = ap numbers (parts_more x f (digit-comma x i)) ∙ numbers-digit x (parts f) i

list-none : (x : ℕ) (f : List ℕ) → is_digit x ≡ false → number_list (x ∷ f) ≡ none
unfolding number_list parts numbers
list-none x f n =
    by_test (eqb x 44)
    (λ c. rw (c, number-empty))
    (λ c. ap numbers (parts_more x f c) ∙ numbers-none x (parts f) n)

pub list-begins : Begins number_list rest_of (λ v. v ∷ []) none
list-begins = record { empty = list-empty; first = λ x f i. list-digit x f i; none-else = λ x f n. list-none x f n }
