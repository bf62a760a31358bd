-- Document 01, "The sheet": a number in a file takes six columns, blanks first and then its digits. The number zero is
-- the one digit 0, and every other number starts with another digit. Document 02, C-11: a field may also be blank.
use Rattle.std.specs.Prelude.{ℕ, ◌+◌, ◌-◌, ◌*◌, Bool, List, [], ◌∷◌, length, take, leb, ltb, eqb}
use Rattle.rules.specs.Fold.{pick, ◌and◌}

abbrev pub field_width : ℕ
field_width = 6

-- what a field gives: its number, blank where all its columns are, or the fault that is refusal 1
pub data Field : Type 0 where
  value : ℕ → Field
  blank : Field
  fault : Field

abbrev pub is_digit : ℕ → Bool
is_digit x = leb 48 x and leb x 57

-- the columns that are left hold digits, after digits whose value is v
unfoldable pub digits : List ℕ → ℕ → Field
digits [] v = value v
digits (x ∷ s) v = pick (is_digit x) (digits s (10 * v + (x - 48))) fault

-- a 0 in front: nothing may follow it
unfoldable pub lone_zero : List ℕ → Field
lone_zero [] = value 0
lone_zero (x ∷ s) = fault

-- the columns that are left, after blanks alone
unfoldable pub blanks : List ℕ → Field
blanks [] = blank
blanks (x ∷ s) = pick (eqb x 32) (blanks s) (pick (eqb x 48) (lone_zero s) (digits (x ∷ s) 0))

-- the field at the front of the rest of a sheet; fewer bytes than its columns are a fault
unfoldable pub field : List ℕ → Field
field r = pick (ltb (length r) field_width) fault (blanks (take field_width r))

-- a field's answer as numbers: the refusal, 0 for none, and the value; a blank field has none
abbrev pub field_numbers : Field → List ℕ
field_numbers (value v) = 0 ∷ v ∷ []
field_numbers blank = 0 ∷ []
field_numbers fault = 1 ∷ []
