-- A row: the grammar with the checks of the four fields, and the reader from the front, say the same of every rest of a file.
use Prim.Native.Nat.{ℕ}
use mathlib.Core.Path.{◌≡◌, refl, ap, ◌∙◌}
use mathlib.Core.Bool.{Bool, true, false}
use mathlib.Core.List.{List, [], ◌∷◌}
use mathlib.Core.Option.{Option}
use lib.Dec.{eqb}
use borrow.Author.Tests.{eqb-true}
use Rattle.rules.specs.Fold.{pick}
use Rattle.theory.proofs.Logic.{by_test}
use Rattle.rules.specs.Csv.{record_end, record_at}
use Rattle.rules.specs.Worklist.{Row, next_field, no_field, number, number_or_empty, number_list, row_of}
use Rattle.worklist.specs.Rows.{Front, gives, fails, and_then, or_fail, byte_at, quoted_or, number_at, number_or_nothing_at, list_at, row_at}
use Rattle.worklist.proofs.Bytes.{no_end}
use Rattle.worklist.proofs.Front.{on_rest, rest-same, rest-fails, then_same, or-fails, or-when, after}
use Rattle.worklist.proofs.Fields.{Same, number_same, place_same, list_same}

-- the row of a record that is read, if its fields are well-formed
abbrev pub checked : {Z : Type 0} → (List (List ℕ) → Option Z) → List (List ℕ) → List ℕ → Front Z
checked check fs r = or_fail (check fs) (λ w. gives w r)

abbrev pub checked_row : List ℕ → Front Row
checked_row s = on_rest (record_at s) (λ f fs r. checked row_of (f ∷ fs) r)

byte-same : {Y : Type 0} (b : ℕ) (s : List ℕ) (k h : List ℕ → Front Y) → ((r : List ℕ) → k r ≡ h r) → byte_at b s k ≡ byte_at b s h
byte-same b [] k h e = refl
byte-same b (x ∷ s) k h e = by (eqb x b)
  where
    by : (t : Bool) → pick t (k s) fails ≡ pick t (h s) fails
    by true = e s
    by false = refl

module _ {X Z : Type 0} (c : List ℕ → Option X) (next : X → List (List ℕ) → Option Z) where
  -- a field and what comes after it
  a-field : (p : List ℕ → Front X) → Same Z c p → (s : List ℕ)
      → on_rest (record_at s) (λ f fs r. checked (λ gs. next_field c gs next) (f ∷ fs) r)
      ≡ and_then (p s) (λ u r. after (checked (next u)) r)
  a-field p same s =
      rest-same (record_at s) _ (λ f fs r. or_fail (c f) (λ u. checked (next u) fs r)) (λ f fs r. or-when (c f) (λ x. next x fs) (λ w. gives w r))
      ∙ same s (λ u fs r. checked (next u) fs r)

  -- where another field is wanted, a comma must follow
  a-comma : (s : List ℕ) → after (checked (λ gs. next_field c gs next)) s
      ≡ byte_at 44 s (λ r₁. on_rest (record_at r₁) (λ f fs r. checked (λ gs. next_field c gs next) (f ∷ fs) r))
  unfolding record_end
  a-comma [] = refl
  a-comma (x ∷ s) = by (eqb x 44)
    where
      by : (t : Bool)
          → pick t (on_rest (record_at s) (λ f fs r. checked (λ gs. next_field c gs next) (f ∷ fs) r))
          (or_fail (record_end (x ∷ s)) (λ r. checked (λ gs. next_field c gs next) [] r))
          ≡ pick t (on_rest (record_at s) (λ f fs r. checked (λ gs. next_field c gs next) (f ∷ fs) r)) fails
      by true = refl
      by false = or-fails (record_end (x ∷ s)) _ (λ r. refl)

-- where no other field is wanted, the record must end
an-end : {Z : Type 0} (w : Z) (s : List ℕ) → after (checked (λ gs. no_field gs w)) s ≡ or_fail (record_end s) (λ r. gives w r)
unfolding record_end
an-end w [] = refl
an-end w (x ∷ s) =
    by_test (eqb x 44)
    (λ c. rw (c, no_end x s (ap (λ (y : ℕ). eqb y 13) (eqb-true x 44 c))) (rest-fails (record_at s) _ (λ f fs r. refl)))
    (λ c. rw c)

pub row_same : (s : List ℕ) → checked_row s ≡ row_at s
unfolding row_of row_at
row_same s =
    a-field number _ (quoted_or number_at) number_same s
    ∙ then_same (quoted_or number_at s) _ _ (λ t r₁. a-comma number_or_empty _ r₁ ∙ byte-same 44 r₁ _ _ (λ r₂.
    a-field number_or_empty _ (quoted_or number_or_nothing_at) place_same r₂
    ∙ then_same (quoted_or number_or_nothing_at r₂) _ _ (λ p r₃. a-comma number _ r₃ ∙ byte-same 44 r₃ _ _ (λ r₄.
    a-field number _ (quoted_or number_at) number_same r₄
    ∙ then_same (quoted_or number_at r₄) _ _ (λ k r₅. a-comma number_list _ r₅ ∙ byte-same 44 r₅ _ _ (λ r₆.
    a-field number_list _ list_at list_same r₆
    ∙ then_same (list_at r₆) _ _ (λ l r₇. an-end (record { minutes = t; place = p; mark = k; list = l }) r₇)))))))
