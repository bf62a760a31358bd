-- What the field reader answers, by the rules, how one column more changes it, and where a line ends.
use Rattle.std.specs.Prelude.{ℕ, ◌+◌, ◌-◌, ◌*◌, ◌<◌, ◌≡◌, refl, Bool, false, List, [], ◌∷◌, eqb}
use Rattle.rules.specs.Fold.{pick}
use Rattle.rules.specs.Field.{value, blank, fault, is_digit, field_numbers}
use Rattle.rules.specs.Field as F
use Rattle.fields.specs.declared.Field.{Field}
use Rattle.fields.specs.declared.Field.TheVariants.{Value, Blank, Fault}

abbrev pub coded_field : F.Field → Field
coded_field (value v) = Value v
coded_field blank = Blank
coded_field fault = Fault

-- document 01's numbers for each case: the refusal, 0 for none, and the value; a blank field has none
abbrev pub field_answer : Field → List ℕ
field_answer (Value v) = 0 ∷ v ∷ []
field_answer Blank = 0 ∷ []
field_answer Fault = 1 ∷ []

pub field-answer : (f : F.Field) → field_answer (coded_field f) ≡ field_numbers f
field-answer (value v) = refl
field-answer blank = refl
field-answer fault = refl

-- ---- one column more

-- the number, where there is one, is below k
abbrev pub below : ℕ → Field → Type 0
below k (Value v) = v < k
below k Blank = Unit
below k Fault = Unit

-- column b, where a digit is due after digits of value v
abbrev pub digit_after : ℕ → ℕ → Field
digit_after v b = pick (is_digit b) (Value (10 * v + (b - 48))) Fault

-- column b after columns that give f
abbrev pub column_after : Field → ℕ → Field
column_after (Value v) b = pick (eqb v 0) Fault (digit_after v b)
column_after Blank b = pick (eqb b 32) Blank (digit_after 0 b)
column_after Fault b = Fault

-- ---- the LF that ends a line

-- r starts with it
abbrev pub ends_line : List ℕ → Bool
ends_line [] = false
ends_line (x ∷ r) = eqb x 10
