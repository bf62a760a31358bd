-- What an answer of the readers says of the text from a place on: a number or a refusal, and the LF or none.
use Prim.Native.Nat.{ℕ, ◌+◌, ◌-◌, ◌≤◌}
use mathlib.Core.Path.{◌≡◌, refl, ◌∙◌}
use mathlib.Core.Bool.{true, false}
use mathlib.Core.List.{List, [], ◌∷◌}
use native.Mathlib.Omega.{arith}
use lib.Dec.{leb}
use lib.ListN.{length, drop, length-drop, drop_of_length-le}
use lib.Seq.{drop-drop}
use borrow.Author.Tests.{leb-true, leb-false}
use Rattle.rules.specs.Refusal.{malformed}
use Rattle.rules.specs.Field.{value, blank, fault, field}
use Rattle.rules.specs.Field as F
use Rattle.rules.specs.Read.{Part, gives, refuses, or_refuse, field_part, number_at, blank_zero, place_at, end_of_line}
use Rattle.theory.proofs.Logic.{by_test, conflict}
use Rattle.theory.proofs.Field.{six, six-place}
use Rattle.fields.specs.declared.Field.{Field}
use Rattle.fields.specs.declared.Field.TheVariants.{Value}
use Rattle.fields.specs.Columns.{coded_field, ends_line}

-- ---- the field at a place

-- the part p gives a number v, at at, and what follows it is still in s
pub record NumberRead (p : Part ℕ) (s : List ℕ) (at v : ℕ) : Type 0 where
  pub number : p ≡ gives v (drop (at + 6) s)
  pub room : at + 6 ≤ length s

-- an answer that is no number refuses
by-none : (g : F.Field) (r : List ℕ) {f : Field} → f ≡ coded_field g → ((v : ℕ) → f ≡ Value v → ⊥) → field_part g r ≡ refuses malformed
by-none (value v) r d k = absurd (k v d)
by-none blank r d k = refl
by-none fault r d k = refl

module _ (s : List ℕ) (at : ℕ) where
  -- one that is a number is read from six columns
  by_number : (g : F.Field) → ((v : ℕ) → g ≡ value v → 6 ≤ length (drop at s)) → {f : Field} {v : ℕ} → f ≡ coded_field g → f ≡ Value v
      → NumberRead (field_part g (drop 6 (drop at s))) s at v
  by_number (value w) k {v = v} d e =
      let q : w ≡ v = cc in
      record { number = rw (drop-drop 6 at s, q); room = omega (arith, k w refl, length-drop at s) }
  by_number blank k d e = absurd (let z : ◌≡◌ {A = ℕ} 0 1 = cc in omega arith)
  by_number fault k d e = absurd (let z : ◌≡◌ {A = ℕ} 0 1 = cc in omega arith)

  -- a number's field
  module _ {f : Field} (d : f ≡ coded_field (field (drop at s))) where
    pub field-number : {v : ℕ} → f ≡ Value v → NumberRead (number_at (drop at s)) s at v
    unfolding number_at
    field-number = by_number (field (drop at s)) (six (drop at s)) d

    pub field-none : ((v : ℕ) → f ≡ Value v → ⊥) → number_at (drop at s) ≡ refuses malformed
    unfolding number_at
    field-none = by-none (field (drop at s)) _ d

  -- a place's field
  module _ {f : Field} (d : f ≡ coded_field (blank_zero (field (drop at s)))) where
    pub place-number : {v : ℕ} → f ≡ Value v → NumberRead (place_at (drop at s)) s at v
    unfolding place_at
    place-number = by_number (blank_zero (field (drop at s))) (six-place (drop at s) (field (drop at s)) refl) d

    pub place_none : ((v : ℕ) → f ≡ Value v → ⊥) → place_at (drop at s) ≡ refuses malformed
    unfolding place_at
    place_none = by-none (blank_zero (field (drop at s))) _ d

-- ---- the LF at a place

end_by : {X : Type 0} (r : List ℕ) (next : List ℕ → Part X) → end_of_line r next ≡ or_refuse (ends_line r) malformed (next (drop 1 r))
unfolding end_of_line
end_by [] next = refl
end_by (x ∷ r) next = refl

module _ (s : List ℕ) (at : ℕ) where
  pub end-room : ends_line (drop at s) ≡ true → at + 1 ≤ length s
  end-room e =
      by_test (leb (length s) at)
      (λ t. conflict e (rw (drop_of_length-le s {i = at} (leb-true _ _ t))))
      (λ t. omega (arith, leb-false (length s) at t))

  module _ {X : Type 0} (next : List ℕ → Part X) where
    pub end-missing : ends_line (drop at s) ≡ false → end_of_line (drop at s) next ≡ refuses malformed
    end-missing e = end_by (drop at s) next ∙ rw e

    pub end-there : ends_line (drop at s) ≡ true → end_of_line (drop at s) next ≡ next (drop (at + 1) s)
    end-there e = end_by (drop at s) next ∙ rw (e, drop-drop 1 at s)

pub next-at : (s : List ℕ) (at : ℕ) → at ≤ length s → at ≡ length s - length (drop at s)
next-at s at h = omega (arith, length-drop at s)
