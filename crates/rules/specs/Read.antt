-- Document 01, "The sheet": reading goes from the front, and the first fault met decides. Document 02: line 2 has the calibrations (C-16),
-- a batch line has a mark of whether the batch has started (C-17), and its list ascends (C-20).
use Rattle.std.specs.Prelude.{ℕ, zero, suc, Bool, true, false, not, List, [], ◌∷◌, ◌++◌, drop, leb, eqb}
use Rattle.rules.specs.Fold.{◌and◌, ◌or◌, mem}
use Rattle.rules.specs.Refusal.{Refusal, malformed, bad_size, bad_length, bad_list, bad_place, bad_calibration, bad_order, number}
use Rattle.rules.specs.Sheet.{Book, Batch, max_batches, good_instruments, good_minutes, good_calibration, is_instrument, ascending, head}
use Rattle.rules.specs.Field.{Field, value, blank, fault, field, field_width}

-- ---- a part of a sheet: what it gives, with the rest of the bytes, or a refusal

pub data Part (X : Type 0) : Type 0 where
  gives : X → List ℕ → Part X
  refuses : Refusal → Part X

-- go on with what the part before gave
abbrev pub and_then : {X Y : Type 0} → Part X → (X → List ℕ → Part Y) → Part Y
and_then (gives x r) next = next x r
and_then (refuses e) next = refuses e

-- go on where the test passes; the refusal otherwise
abbrev pub or_refuse : {X : Type 0} → Bool → Refusal → Part X → Part X
or_refuse true e p = p
or_refuse false e p = refuses e

-- a field's number, or refusal 1
abbrev pub field_part : Field → List ℕ → Part ℕ
field_part (value v) r = gives v r
field_part blank r = refuses malformed
field_part fault r = refuses malformed

-- a number, in the next field, which is not blank
unfoldable pub number_at : List ℕ → Part ℕ
number_at r = field_part (field r) (drop field_width r)

-- blank stands for 0
abbrev pub blank_zero : Field → Field
blank_zero (value v) = value v
blank_zero blank = value 0
blank_zero fault = fault

-- a place, in the next field: the one field that may be blank
unfoldable pub place_at : List ℕ → Part ℕ
place_at r = field_part (blank_zero (field r)) (drop field_width r)

-- the byte LF, which ends a line
unfoldable pub end_of_line : {X : Type 0} → List ℕ → (List ℕ → Part X) → Part X
end_of_line [] next = refuses malformed
end_of_line (x ∷ r) next = or_refuse (eqb x 10) malformed (next r)

-- ---- line 1: m and n

pub record Head : Type 0 where
  pub m : ℕ
  pub n : ℕ

unfoldable pub head_line : List ℕ → Part Head
head_line s =
    and_then (number_at s) (λ m r₁.
    or_refuse (good_instruments m) bad_size
    (and_then (number_at r₁) (λ n r₂.
    or_refuse (leb n max_batches) bad_size
    (end_of_line r₂ (λ r₃. gives (record { m = m; n = n }) r₃)))))

-- ---- line 2: a calibration for each instrument

-- c more calibrations after those of l, each judged at its own field
unfoldable pub calibrations_at : ℕ → List ℕ → List ℕ → Part (List ℕ)
calibrations_at zero l r = gives l r
calibrations_at (suc c) l r =
    and_then (number_at r) (λ v r₁.
    or_refuse (good_calibration v) bad_calibration
    (calibrations_at c (l ++ (v ∷ [])) r₁))

unfoldable pub calibration_line : ℕ → List ℕ → Part (List ℕ)
calibration_line m r = and_then (calibrations_at m [] r) (λ l r₁. end_of_line r₁ (λ r₂. gives l r₂))

-- ---- a batch line: length, place, mark, how many instruments, and those instruments

-- whether the batch has started, in the next field: 1 where it has, 0 where it has not
unfoldable pub mark_at : List ℕ → Part Bool
mark_at r = and_then (number_at r) (λ x r₁. or_refuse (leb x 1) malformed (gives (eqb x 1) r₁))

-- c more instruments after those of l. Each is judged at its own field: it is one of 1 to m, and not in l already.
unfoldable pub instruments_at : ℕ → ℕ → List ℕ → List ℕ → Part (List ℕ)
instruments_at m zero l r = gives l r
instruments_at m (suc c) l r =
    and_then (number_at r) (λ i r₁.
    or_refuse (is_instrument m i and not (mem i l)) bad_list
    (instruments_at m c (l ++ (i ∷ [])) r₁))

-- place 0, or blank, is none given: the first listed is taken
abbrev pub place_or : ℕ → List ℕ → ℕ
place_or zero l = head l
place_or (suc p) l = suc p

-- a place as it is given is listed, or is none for a batch that has not started
unfoldable pub good_place : Bool → ℕ → List ℕ → Bool
good_place s p l = (not s and eqb p 0) or mem p l

-- a field's range is judged before the next field, the list's order after its last, and the place after the line's LF
unfoldable pub batch_line : ℕ → List ℕ → Part Batch
batch_line m r =
    and_then (number_at r) (λ t r₁.
    or_refuse (good_minutes t) bad_length
    (and_then (place_at r₁) (λ p r₂.
    and_then (mark_at r₂) (λ s r₃.
    and_then (number_at r₃) (λ c r₄.
    or_refuse (leb 1 c and leb c m) bad_list
    (and_then (instruments_at m c [] r₄) (λ l r₅.
    or_refuse (ascending l) bad_order
    (end_of_line r₅ (λ r₆.
    or_refuse (good_place s p l) bad_place
    (gives (record { minutes = t; list = l; place = place_or p l; started = s }) r₆))))))))))

-- ---- a whole sheet: its book, or a refusal with its line

pub data Reading : Type 0 where
  accepted : Book → Reading
  refused_at : Refusal → ℕ → Reading

abbrev pub on_line : {X : Type 0} → ℕ → Part X → (X → List ℕ → Reading) → Reading
on_line j (gives x r) next = next x r
on_line j (refuses e) next = refused_at e j

-- c more batch lines, the next of which is line j, after the batches bs; then nothing may follow. The calibrations are l.
unfoldable pub batch_lines : ℕ → List ℕ → ℕ → ℕ → List Batch → List ℕ → Reading
batch_lines m l zero j bs [] = accepted (record { m = m; calibrations = l; batches = bs })
batch_lines m l zero j bs (x ∷ r) = refused_at malformed j
batch_lines m l (suc c) j bs r = on_line j (batch_line m r) (λ b r₁. batch_lines m l c (suc j) (bs ++ (b ∷ [])) r₁)

-- from line 2 on
unfoldable pub lines_after : Head → List ℕ → Reading
lines_after h r = on_line 2 (calibration_line h.m r) (λ l r₁. batch_lines h.m l h.n 3 [] r₁)

unfoldable pub read : List ℕ → Reading
read s = on_line 1 (head_line s) (λ h r. lines_after h r)

-- a reading as numbers: the refusal and its line, 0 and 0 for none
abbrev pub reading_numbers : Reading → List ℕ
reading_numbers (accepted k) = 0 ∷ 0 ∷ []
reading_numbers (refused_at e j) = number e ∷ j ∷ []
