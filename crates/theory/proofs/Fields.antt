-- Laws of fields and lines: how long they are, and one more field behind.
use Prim.Native.Nat.{ℕ, ◌+◌, ◌*◌}
use mathlib.Core.Path.{◌≡◌, refl, sym, ap, ◌∙◌}
use mathlib.Core.List.{List, [], ◌∷◌, ◌++◌, append_assoc, append-nil}
use native.Mathlib.Omega.{arith}
use lib.ListN.{length, length-append}
use Rattle.rules.specs.Render.{columns, fields, line}
use Rattle.theory.proofs.Field.{columns-length}

pub field-length : (v : ℕ) → length (columns 6 v) ≡ 6
field-length v = columns-length 6 v

pub fields-length : (s : List ℕ) → length (fields s) ≡ 6 * length s
unfolding fields
fields-length [] = refl
fields-length (x ∷ s) =
    length-append (columns 6 x) (fields s) ∙ omega (arith, columns-length 6 x, fields-length s)

pub line-length : (s : List ℕ) → length (line s) ≡ 6 * length s + 1
line-length s = length-append (fields s) (10 ∷ []) ∙ ap (λ (n : ℕ). n + 1) (fields-length s)

pub fields-append : (s t : List ℕ) → fields (s ++ t) ≡ fields s ++ fields t
unfolding fields
fields-append [] t = refl
fields-append (x ∷ s) t =
    ap (λ (r : List ℕ). columns 6 x ++ r) (fields-append s t) ∙ sym (append_assoc (columns 6 x) (fields s) (fields t))

pub fields-one : (x : ℕ) → fields (x ∷ []) ≡ columns 6 x
unfolding fields
fields-one x = append-nil (columns 6 x)

-- one more field behind
pub fields_snoc : (s : List ℕ) (x : ℕ) → fields (s ++ (x ∷ [])) ≡ fields s ++ columns 6 x
fields_snoc s x = fields-append s (x ∷ []) ∙ ap (λ (r : List ℕ). fields s ++ r) (fields-one x)
