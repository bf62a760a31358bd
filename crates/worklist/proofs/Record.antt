-- The grammar's steps from each place in a record, one law for each kind of byte.
use Prim.Native.Nat.{ℕ}
use mathlib.Core.Path.{◌≡◌, refl, sym, ap, ◌∙◌}
use mathlib.Core.Bool.{true, false}
use mathlib.Core.List.{List, [], ◌∷◌}
use mathlib.Core.Option.{Option, none}
use lib.Dec.{eqb}
use borrow.Author.Tests.{eqb-true}
use Rattle.rules.specs.Fold.{pick}
use Rattle.theory.proofs.Logic.{by_test}
use Rattle.rules.specs.Csv.{is_text, is_inside, Rest, broken, grow, another, last, record_end, plain, quoted, closing, fields_from, record_at}
use Rattle.worklist.specs.Rows.{Front, fails, or_fail}
use Rattle.worklist.proofs.Front.{on_rest, rest-grow, rest-fails, rest-same, after, after-not, field-ends}

-- where a field that is not quoted, or no longer, may end
abbrev pub ending : ℕ → List ℕ → Rest
ending x s = pick (eqb x 44) (another (record_at s)) (last (record_end (x ∷ s)))

module _ (x : ℕ) (s : List ℕ) where
  pub plain-text : is_text x ≡ true → fields_from plain (x ∷ s) ≡ grow x (fields_from plain s)
  unfolding fields_from
  plain-text e = rw e

  pub plain_end : is_text x ≡ false → fields_from plain (x ∷ s) ≡ ending x s
  unfolding fields_from
  plain_end e = rw e

  pub before-quote : eqb x 34 ≡ true → record_at (x ∷ s) ≡ fields_from quoted s
  unfolding fields_from
  before-quote e = rw e

  pub before-plain : eqb x 34 ≡ false → record_at (x ∷ s) ≡ fields_from plain (x ∷ s)
  unfolding fields_from
  before-plain e = rw e

  pub quoted-quote : eqb x 34 ≡ true → fields_from quoted (x ∷ s) ≡ fields_from closing s
  unfolding fields_from
  quoted-quote e = rw e

  pub quoted-inside : eqb x 34 ≡ false → is_inside x ≡ true → fields_from quoted (x ∷ s) ≡ grow x (fields_from quoted s)
  unfolding fields_from
  quoted-inside e t = rw (e, t)

  pub quoted-other : eqb x 34 ≡ false → is_inside x ≡ false → fields_from quoted (x ∷ s) ≡ broken
  unfolding fields_from
  quoted-other e t = rw (e, t)

  pub closing-quote : eqb x 34 ≡ true → fields_from closing (x ∷ s) ≡ grow 34 (fields_from quoted s)
  unfolding fields_from
  closing-quote e = rw e

  pub closing_end : eqb x 34 ≡ false → fields_from closing (x ∷ s) ≡ ending x s
  unfolding fields_from
  closing_end e = rw e

-- what a field says, and how the record goes on
abbrev pub judged : {X Y : Type 0} → (List ℕ → Option X) → (X → List (List ℕ) → List ℕ → Front Y)
    → List ℕ → List (List ℕ) → List ℕ → Front Y
judged c k f fs r = or_fail (c f) (λ u. k u fs r)

module _ {X Y : Type 0} (c : List ℕ → Option X) (k : X → List (List ℕ) → List ℕ → Front Y) where
  -- after a quote in a quoted field, where a quote that belongs to the field makes it none
  pub closed : (s : List ℕ) → ((f : List ℕ) → c (34 ∷ f) ≡ none)
      → on_rest (fields_from closing s) (judged c k) ≡ after (λ fs r. or_fail (c []) (λ u. k u fs r)) s
  unfolding fields_from record_end
  closed [] h = refl
  closed (x ∷ s) h =
      by_test (eqb x 34)
      (λ t.
      ap (λ (p : Rest). on_rest p (judged c k)) (closing-quote x s t)
      ∙ rest-grow 34 (fields_from quoted s) (judged c k)
      ∙ rest-fails (fields_from quoted s) _ (λ f fs r. rw (h f))
      ∙ sym (after-not x s (λ fs r. judged c k [] fs r) (ap (λ (y : ℕ). eqb y 44) (eqb-true x 34 t)) (ap (λ (y : ℕ). eqb y 13) (eqb-true x 34 t))))
      (λ t. ap (λ (p : Rest). on_rest p (judged c k)) (closing_end x s t) ∙ field-ends x s (judged c k))

  -- a byte of the field that makes it none
  pub plain-fails : (x : ℕ) (s : List ℕ) → is_text x ≡ true → ((f : List ℕ) → c (x ∷ f) ≡ none)
      → on_rest (fields_from plain (x ∷ s)) (judged c k) ≡ fails
  plain-fails x s t h =
      ap (λ (p : Rest). on_rest p (judged c k)) (plain-text x s t)
      ∙ rest-grow x (fields_from plain s) (judged c k)
      ∙ rest-fails (fields_from plain s) _ (λ f fs r. rw (h f))

  pub quoted-fails : (x : ℕ) (s : List ℕ) → eqb x 34 ≡ false → ((f : List ℕ) → c (x ∷ f) ≡ none)
      → on_rest (fields_from quoted (x ∷ s)) (judged c k) ≡ fails
  quoted-fails x s q h =
      by_test (is_inside x)
      (λ t.
      ap (λ (p : Rest). on_rest p (judged c k)) (quoted-inside x s q t)
      ∙ rest-grow x (fields_from quoted s) (judged c k)
      ∙ rest-fails (fields_from quoted s) _ (λ f fs r. rw (h f)))
      (λ t. ap (λ (p : Rest). on_rest p (judged c k)) (quoted-other x s q t))

-- a byte of the field that leaves d to say what the rest of it must be
module _ {X Y : Type 0} (c d : List ℕ → Option X) (k : X → List (List ℕ) → List ℕ → Front Y) where
  pub plain-goes : (x : ℕ) (s : List ℕ) → is_text x ≡ true → ((f : List ℕ) → c (x ∷ f) ≡ d f)
      → on_rest (fields_from plain (x ∷ s)) (judged c k) ≡ on_rest (fields_from plain s) (judged d k)
  plain-goes x s t h =
      ap (λ (p : Rest). on_rest p (judged c k)) (plain-text x s t)
      ∙ rest-grow x (fields_from plain s) (judged c k)
      ∙ rest-same (fields_from plain s) _ _ (λ f fs r. rw (h f))

  pub quoted-goes : (x : ℕ) (s : List ℕ) → eqb x 34 ≡ false → is_inside x ≡ true → ((f : List ℕ) → c (x ∷ f) ≡ d f)
      → on_rest (fields_from quoted (x ∷ s)) (judged c k) ≡ on_rest (fields_from quoted s) (judged d k)
  quoted-goes x s q t h =
      ap (λ (p : Rest). on_rest p (judged c k)) (quoted-inside x s q t)
      ∙ rest-grow x (fields_from quoted s) (judged c k)
      ∙ rest-same (fields_from quoted s) _ _ (λ f fs r. rw (h f))
