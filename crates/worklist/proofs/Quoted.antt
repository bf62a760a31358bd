-- A quoted field: what it says is what is read from the front, digit by digit, before a quote.
use Prim.Native.Nat.{ℕ, zero, suc, ◌+◌, ◌-◌, ◌*◌}
use mathlib.Core.Path.{◌≡◌, refl, sym, ap, ◌∙◌}
use mathlib.Core.Bool.{true, false}
use mathlib.Core.List.{List, [], ◌∷◌}
use mathlib.Core.Option.{Option, some, none}
use lib.Dec.{eqb}
use borrow.Author.Tests.{eqb-true}
use Rattle.rules.specs.Fold.{◌and◌}
use Rattle.rules.specs.Field.{is_digit}
use Rattle.theory.proofs.Logic.{by_test, or_left, or_right}
use Rattle.rules.specs.Csv.{is_inside, Rest, quoted, fields_from}
use Rattle.rules.specs.Worklist.{when_some, number_list}
use Rattle.worklist.specs.Rows.{Front, gives, fails, and_then, or_fail, byte_at, room, digits_at, Spot, start, within, onto, numbers_from}
use Rattle.worklist.proofs.Bytes.{digit-text, text-inside, text-quote, text-comma}
use Rattle.worklist.proofs.Front.{on_rest, rest-same, after, after-fails, or-when}
use Rattle.worklist.proofs.Record.{judged, quoted-quote, closed, quoted-fails, quoted-goes}
use Rattle.worklist.proofs.Number.{digits_of, field_of}
use Rattle.worklist.proofs.Plain.{first_at, first-digit, first-none, digits-stop, digits-go}
use Rattle.worklist.proofs.Lists.{no_digit, digits-read, field-begins, rest_of, rest-reads, rest-comma, list-begins}

digit-quote : (x : ℕ) → is_digit x ≡ true → eqb x 34 ≡ false
digit-quote x i = text-quote x (digit-text x i)

digit-inside : (x : ℕ) → is_digit x ≡ true → is_inside x ≡ true
digit-inside x i = text-inside x (digit-text x i)

comma-inside : (x : ℕ) → eqb x 44 ≡ true → is_inside x ≡ true
unfolding is_inside
comma-inside x c = or_right _ _ (or_left _ _ c)

module _ {X Y : Type 0} (k : X → List (List ℕ) → List ℕ → Front Y) where
  -- a quote, and then the record goes on
  abbrev quote_then : Front X → Front Y
  quote_then p = and_then p (λ u r. byte_at 34 r (λ s. after (k u) s))

  no-quote : (u : X) (x : ℕ) (s : List ℕ) → eqb x 34 ≡ false → quote_then (gives u (x ∷ s)) ≡ fails
  no-quote u x s q = rw q

  quote-here : (u : X) (x : ℕ) (s : List ℕ) → eqb x 34 ≡ true → quote_then (gives u (x ∷ s)) ≡ after (k u) s
  quote-here u x s q = rw q

  -- the field is closed, and says u
  closed-says : (c : List ℕ → Option X) (u : X) (x : ℕ) (s : List ℕ) → eqb x 34 ≡ true → ((f : List ℕ) → c (34 ∷ f) ≡ none) → c [] ≡ some u
      → on_rest (fields_from quoted (x ∷ s)) (judged c k) ≡ quote_then (gives u (x ∷ s))
  closed-says c u x s q h e =
      ap (λ (p : Rest). on_rest p (judged c k)) (quoted-quote x s q)
      ∙ closed c k s h
      ∙ ap (λ (o : Option X). after (λ fs r. or_fail o (λ u. k u fs r)) s) e
      ∙ sym (quote-here u x s q)

-- ---- numbers

module _ {Y : Type 0} (k : ℕ → List (List ℕ) → List ℕ → Front Y) where
  quoted-digits : (j v : ℕ) (s : List ℕ) → on_rest (fields_from quoted s) (judged (digits_of j v) k) ≡ quote_then k (digits_at j v s)
  unfolding fields_from digits_at digits_of ◌and◌
  quoted-digits j v [] = refl
  quoted-digits zero v (x ∷ s) =
      by_test (eqb x 34)
      (λ q. closed-says k (digits_of 0 v) v x s q (λ f. refl) refl)
      (λ q. quoted-fails (digits_of 0 v) k x s q (λ f. refl) ∙ sym (no-quote k v x s q))
  quoted-digits (suc j) v (x ∷ s) =
      by_test (is_digit x)
      (λ i.
      quoted-goes (digits_of (suc j) v) (digits_of j (10 * v + (x - 48))) k x s (digit-quote x i) (digit-inside x i) (λ f. digits-read.more j v x f i)
      ∙ quoted-digits j (10 * v + (x - 48)) s
      ∙ sym (ap (quote_then k) (digits-go j v x s i)))
      (λ n. sym (ap (quote_then k) (digits-stop (suc j) v x s n) ∙ sym (by_test (eqb x 34)
      (λ q. closed-says k (digits_of (suc j) v) v x s q (λ f. no_digit (suc j) v 34 f refl) refl)
      (λ q. quoted-fails (digits_of (suc j) v) k x s q (λ f. no_digit (suc j) v x f n) ∙ sym (no-quote k v x s q)))))

  -- a field that is empty, or begins with no digit
  none_here : (x : ℕ) (s : List ℕ) (o : Option ℕ) → eqb x 34 ≡ false → quote_then k (or_fail o (λ v. gives v (x ∷ s))) ≡ fails
  none_here x s none q = refl
  none_here x s (some v) q = no-quote k v x s q

  empty-here : (x : ℕ) (s : List ℕ) (o : Option ℕ) → eqb x 34 ≡ true
      → after (λ fs r. or_fail o (λ u. k u fs r)) s ≡ quote_then k (or_fail o (λ v. gives v (x ∷ s)))
  empty-here x s none q = after-fails s _ (λ fs r. refl)
  empty-here x s (some v) q = sym (quote-here k v x s q)

  empty-end : (o : Option ℕ) → fails ≡ quote_then k (or_fail o (λ v. gives v []))
  empty-end none = refl
  empty-end (some v) = refl

  pub quoted-field : (e : Option ℕ) (s : List ℕ)
      → on_rest (fields_from quoted s) (judged (field_of e) k) ≡ and_then (first_at e s) (λ u r. byte_at 34 r (λ s₁. after (k u) s₁))
  unfolding fields_from first_at field_of ◌and◌
  quoted-field e [] = empty-end e
  quoted-field e (x ∷ s) =
      by_test (is_digit x)
      (λ i.
      quoted-goes (field_of e) (digits_of (room x) (x - 48)) k x s (digit-quote x i) (digit-inside x i) (λ f. (field-begins e).first x f i)
      ∙ quoted-digits (room x) (x - 48) s
      ∙ sym (ap (quote_then k) (first-digit e x s i)))
      (λ n. sym (ap (quote_then k) (first-none e x s n) ∙ sym (by_test (eqb x 34)
      (λ q.
      ap (λ (p : Rest). on_rest p (judged (field_of e) k)) (quoted-quote x s q)
      ∙ closed (field_of e) k s (λ f. refl)
      ∙ empty-here x s e q)
      (λ q. quoted-fails (field_of e) k x s q (λ f. (field-begins e).none-else x f n) ∙ sym (none_here x s e q)))))

-- ---- lists

numbers-digit : (x : ℕ) (s : List ℕ) → is_digit x ≡ true → numbers_from start (x ∷ s) ≡ numbers_from (within (room x) (x - 48)) s
unfolding numbers_from
numbers-digit x s i = rw i

numbers-none : (x : ℕ) (s : List ℕ) → is_digit x ≡ false → numbers_from start (x ∷ s) ≡ fails
unfolding numbers_from
numbers-none x s n = rw n

numbers-full : (v x : ℕ) (s : List ℕ) → is_digit x ≡ true → numbers_from (within 0 v) (x ∷ s) ≡ gives (v ∷ []) (x ∷ s)
unfolding numbers_from
numbers-full v x s i = rw (text-comma x (digit-text x i))

numbers-go : (j v x : ℕ) (s : List ℕ) → is_digit x ≡ true
    → numbers_from (within (suc j) v) (x ∷ s) ≡ numbers_from (within j (10 * v + (x - 48))) s
unfolding numbers_from
numbers-go j v x s i = rw i

numbers-comma : (j v x : ℕ) (s : List ℕ) → is_digit x ≡ false → eqb x 44 ≡ true
    → numbers_from (within j v) (x ∷ s) ≡ onto v (numbers_from start s)
unfolding numbers_from
numbers-comma zero v x s n c = rw c
numbers-comma (suc j) v x s n c = rw (n, c)

numbers-stop : (j v x : ℕ) (s : List ℕ) → is_digit x ≡ false → eqb x 44 ≡ false
    → numbers_from (within j v) (x ∷ s) ≡ gives (v ∷ []) (x ∷ s)
unfolding numbers_from
numbers-stop zero v x s n c = rw c
numbers-stop (suc j) v x s n c = rw (n, c)

-- what the rest of a list's field must be, from a place in it
abbrev list_of : Spot → List ℕ → Option (List ℕ)
list_of start f = number_list f
list_of (within j v) f = rest_of j v f

onto-then : {Y : Type 0} (v : ℕ) (p : Front (List ℕ)) (k : List ℕ → List (List ℕ) → List ℕ → Front Y)
    → quote_then (λ l. k (v ∷ l)) p ≡ quote_then k (onto v p)
onto-then v (gives l r) k = refl
onto-then v fails k = refl

-- no digit: the number ends
module _ {Y : Type 0} (k : List ℕ → List (List ℕ) → List ℕ → Front Y) (j v x : ℕ) (s : List ℕ) (n : is_digit x ≡ false) where
  comma-here : eqb x 44 ≡ true
      → on_rest (fields_from quoted s) (judged number_list (λ l. k (v ∷ l))) ≡ quote_then (λ l. k (v ∷ l)) (numbers_from start s)
      → on_rest (fields_from quoted (x ∷ s)) (judged (rest_of j v) k) ≡ quote_then k (numbers_from (within j v) (x ∷ s))
  comma-here c ih =
      quoted-goes (rest_of j v) (λ f. when_some (number_list f) (λ l. some (v ∷ l))) k x s
      (ap (λ (y : ℕ). eqb y 34) (eqb-true x 44 c)) (comma-inside x c) (λ f. rest-comma j v x f c)
      ∙ rest-same (fields_from quoted s) _ (judged number_list (λ l. k (v ∷ l))) (λ f fs r. or-when (number_list f) (λ l. some (v ∷ l)) (λ u. k u fs r))
      ∙ ih
      ∙ onto-then v (numbers_from start s) k
      ∙ sym (ap (quote_then k) (numbers-comma j v x s n c))

  stop-here : eqb x 44 ≡ false
      → on_rest (fields_from quoted (x ∷ s)) (judged (rest_of j v) k) ≡ quote_then k (numbers_from (within j v) (x ∷ s))
  unfolding ◌and◌
  stop-here c =
      sym (ap (quote_then k) (numbers-stop j v x s n c) ∙ sym (by_test (eqb x 34)
      (λ q. closed-says k (rest_of j v) (v ∷ []) x s q (λ f. rest-reads.other j v 34 f refl refl) (rest-reads.ends j v))
      (λ q. quoted-fails (rest_of j v) k x s q (λ f. rest-reads.other j v x f n c) ∙ sym (no-quote k (v ∷ []) x s q))))

quoted-numbers : {Y : Type 0} (t : Spot) (s : List ℕ) (k : List ℕ → List (List ℕ) → List ℕ → Front Y)
    → on_rest (fields_from quoted s) (judged (list_of t) k) ≡ quote_then k (numbers_from t s)
unfolding fields_from numbers_from ◌and◌
quoted-numbers start [] k = refl
quoted-numbers start (x ∷ s) k =
    by_test (is_digit x)
    (λ i.
    quoted-goes number_list (rest_of (room x) (x - 48)) k x s (digit-quote x i) (digit-inside x i) (λ f. list-begins.first x f i)
    ∙ quoted-numbers (within (room x) (x - 48)) s k
    ∙ sym (ap (quote_then k) (numbers-digit x s i)))
    (λ n. sym (ap (quote_then k) (numbers-none x s n) ∙ sym (by_test (eqb x 34)
    (λ q.
    ap (λ (p : Rest). on_rest p (judged number_list k)) (quoted-quote x s q)
    ∙ closed number_list k s (λ f. list-begins.none-else 34 f refl)
    ∙ after-fails s (λ fs r. or_fail (number_list []) (λ u. k u fs r)) (λ fs r. rw list-begins.empty))
    (λ q. quoted-fails number_list k x s q (λ f. list-begins.none-else x f n)))))
quoted-numbers (within j v) [] k = refl
quoted-numbers (within zero v) (x ∷ s) k =
    by_test (is_digit x)
    (λ i.
    quoted-fails (rest_of 0 v) k x s (digit-quote x i) (λ f. rest-reads.full v x f i)
    ∙ sym (ap (quote_then k) (numbers-full v x s i) ∙ no-quote k (v ∷ []) x s (digit-quote x i)))
    (λ n. by_test (eqb x 44)
    (λ c. comma-here k 0 v x s n c (quoted-numbers start s (λ l. k (v ∷ l))))
    (λ c. stop-here k 0 v x s n c))
quoted-numbers (within (suc j) v) (x ∷ s) k =
    by_test (is_digit x)
    (λ i.
    quoted-goes (rest_of (suc j) v) (rest_of j (10 * v + (x - 48))) k x s (digit-quote x i) (digit-inside x i) (λ f. rest-reads.more j v x f i)
    ∙ quoted-numbers (within j (10 * v + (x - 48))) s k
    ∙ sym (ap (quote_then k) (numbers-go j v x s i)))
    (λ n. by_test (eqb x 44)
    (λ c. comma-here k (suc j) v x s n c (quoted-numbers start s (λ l. k (v ∷ l))))
    (λ c. stop-here k (suc j) v x s n c))

pub quoted-list : {Y : Type 0} (s : List ℕ) (k : List ℕ → List (List ℕ) → List ℕ → Front Y)
    → on_rest (fields_from quoted s) (judged number_list k) ≡ and_then (numbers_from start s) (λ l r. byte_at 34 r (λ r₁. after (k l) r₁))
quoted-list s k = quoted-numbers start s k
