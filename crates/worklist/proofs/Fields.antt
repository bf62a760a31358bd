-- A field from its first byte, quoted or not: what the grammar and the field's check make of it is what is read from the front.
use Prim.Native.Nat.{ℕ}
use mathlib.Core.Path.{◌≡◌, refl, sym, ap, ◌∙◌, fun_ext}
use mathlib.Core.Bool.{Bool, true, false}
use mathlib.Core.List.{List, [], ◌∷◌}
use mathlib.Core.Option.{Option, some, none}
use lib.Dec.{eqb}
use Rattle.rules.specs.Fold.{pick}
use Rattle.theory.proofs.Logic.{by_test}
use Rattle.rules.specs.Csv.{Rest, fields_from, record_at}
use Rattle.rules.specs.Worklist.{number, number_or_empty, number_list}
use Rattle.worklist.specs.Rows.{Front, gives, fails, and_then, byte_at, quoted_or, number_at, number_or_nothing_at, start, numbers_from, list_at}
use Rattle.worklist.proofs.Front.{on_rest, after}
use Rattle.worklist.proofs.Record.{judged, before-quote, before-plain}
use Rattle.worklist.proofs.Number.{digits_of, field_of, number_is, place_is}
use Rattle.worklist.proofs.Plain.{first_at, number-first, place-first, plain-field}
use Rattle.worklist.proofs.Lists.{digits-read, field-begins, rest_of, rest-reads, list-begins}
use Rattle.worklist.proofs.Quoted.{quoted-field, quoted-list}

-- what the check c says of a record's first field is what p reads at its front
abbrev pub Same : {X : Type 0} → Type 0 → (List ℕ → Option X) → (List ℕ → Front X) → Type 0
Same {X} Y c p = (s : List ℕ) (k : X → List (List ℕ) → List ℕ → Front Y)
    → on_rest (record_at s) (judged c k) ≡ and_then (p s) (λ u r. after (k u) r)

-- the closing quote may be read with the field or after it
close-then : {X Y : Type 0} (p : Front X) (h : X → List ℕ → Front Y)
    → and_then p (λ v r. byte_at 34 r (λ r₁. h v r₁)) ≡ and_then (and_then p (λ v r. byte_at 34 r (λ r₁. gives v r₁))) h
close-then (gives v []) h = refl
close-then (gives v (x ∷ s)) h = by (eqb x 34)
  where
    by : (t : Bool) → pick t (h v s) fails ≡ and_then (pick t (gives v s) fails) h
    by true = refl
    by false = refl
close-then fails h = refl

quoted-yes : {X : Type 0} (p : List ℕ → Front X) (x : ℕ) (s : List ℕ) → eqb x 34 ≡ true
    → quoted_or p (x ∷ s) ≡ and_then (p s) (λ v r. byte_at 34 r (λ r₁. gives v r₁))
quoted-yes p x s q = rw q

quoted-no : {X : Type 0} (p : List ℕ → Front X) (x : ℕ) (s : List ℕ) → eqb x 34 ≡ false → quoted_or p (x ∷ s) ≡ p (x ∷ s)
quoted-no p x s q = rw q

field-same : {Y : Type 0} (e : Option ℕ) (s : List ℕ) (k : ℕ → List (List ℕ) → List ℕ → Front Y)
    → on_rest (record_at s) (judged (field_of e) k) ≡ and_then (quoted_or (first_at e) s) (λ u r. after (k u) r)
unfolding fields_from
field-same e [] k = plain-field digits_of (λ v. v) digits-read k (field_of e) e (field-begins e) []
field-same e (x ∷ s) k =
    by_test (eqb x 34)
    (λ q.
    ap (λ (p : Rest). on_rest p (judged (field_of e) k)) (before-quote x s q)
    ∙ quoted-field k e s
    ∙ close-then (first_at e s) (λ u r. after (k u) r)
    ∙ sym (ap (λ (p : Front ℕ). and_then p (λ u r. after (k u) r)) (quoted-yes (first_at e) x s q)))
    (λ q.
    ap (λ (p : Rest). on_rest p (judged (field_of e) k)) (before-plain x s q)
    ∙ plain-field digits_of (λ v. v) digits-read k (field_of e) e (field-begins e) (x ∷ s)
    ∙ sym (ap (λ (p : Front ℕ). and_then p (λ u r. after (k u) r)) (quoted-no (first_at e) x s q)))

-- the same for other checks and readers that are equal to those
pub number_same : {Y : Type 0} → Same Y number (quoted_or number_at)
number_same s k =
    ap (λ (c : List ℕ → Option ℕ). on_rest (record_at s) (judged c k)) (fun_ext number_is)
    ∙ field-same none s k
    ∙ ap (λ (p : List ℕ → Front ℕ). and_then (quoted_or p s) (λ u r. after (k u) r)) (sym (fun_ext number-first))

pub place_same : {Y : Type 0} → Same Y number_or_empty (quoted_or number_or_nothing_at)
place_same s k =
    ap (λ (c : List ℕ → Option ℕ). on_rest (record_at s) (judged c k)) (fun_ext place_is)
    ∙ field-same (some 0) s k
    ∙ ap (λ (p : List ℕ → Front ℕ). and_then (quoted_or p s) (λ u r. after (k u) r)) (sym (fun_ext place-first))

-- ---- lists

one_then : {Y : Type 0} (p : Front ℕ) (h : List ℕ → List ℕ → Front Y)
    → and_then p (λ v r. h (v ∷ []) r) ≡ and_then (and_then p (λ v r. gives (v ∷ []) r)) h
one_then (gives v r) h = refl
one_then fails h = refl

list-yes : (x : ℕ) (s : List ℕ) → eqb x 34 ≡ true
    → list_at (x ∷ s) ≡ and_then (numbers_from start s) (λ l r. byte_at 34 r (λ r₁. gives l r₁))
unfolding list_at
list-yes x s q = rw q

list-no : (x : ℕ) (s : List ℕ) → eqb x 34 ≡ false → list_at (x ∷ s) ≡ and_then (number_at (x ∷ s)) (λ v r. gives (v ∷ []) r)
unfolding list_at
list-no x s q = rw q

pub list_same : {Y : Type 0} → Same Y number_list list_at
unfolding fields_from list_at first_at
list_same [] k = plain-field rest_of (λ v. v ∷ []) rest-reads k number_list none list-begins []
list_same (x ∷ s) k =
    by_test (eqb x 34)
    (λ q.
    ap (λ (p : Rest). on_rest p (judged number_list k)) (before-quote x s q)
    ∙ quoted-list s k
    ∙ close-then (numbers_from start s) (λ u r. after (k u) r)
    ∙ sym (ap (λ (p : Front (List ℕ)). and_then p (λ u r. after (k u) r)) (list-yes x s q)))
    (λ q.
    ap (λ (p : Rest). on_rest p (judged number_list k)) (before-plain x s q)
    ∙ plain-field rest_of (λ v. v ∷ []) rest-reads k number_list none list-begins (x ∷ s)
    ∙ ap (λ (p : Front ℕ). and_then p (λ v r. after (k (v ∷ [])) r)) (sym (number-first (x ∷ s)))
    ∙ one_then (number_at (x ∷ s)) (λ u r. after (k u) r)
    ∙ sym (ap (λ (p : Front (List ℕ)). and_then p (λ u r. after (k u) r)) (list-no x s q)))
