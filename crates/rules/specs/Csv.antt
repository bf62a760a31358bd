-- RFC 4180: a file of comma-separated values, read by its grammar, which Grammar has rule by rule.
-- So a file without a byte has a record, whose one field is empty.
use Rattle.std.specs.Prelude.{ℕ, zero, suc, Bool, List, [], ◌∷◌, length, leb, eqb}
use Rattle.std.proofs.Math.Option.{Option, some, none}
use Rattle.rules.specs.Fold.{pick, ◌and◌, ◌or◌}

-- ---- bytes

-- TEXTDATA
unfoldable pub is_text : ℕ → Bool
is_text x = (leb 32 x and leb x 33) or (leb 35 x and leb x 43) or (leb 45 x and leb x 126)

-- what may stand in a quoted field, but for the quote
unfoldable pub is_inside : ℕ → Bool
is_inside x = is_text x or eqb x 44 or eqb x 13 or eqb x 10

-- ---- a record

-- the bytes after a record that ends here: the file ends, or a CRLF stands here
unfoldable pub record_end : List ℕ → Option (List ℕ)
record_end [] = some []
record_end (x ∷ []) = none
record_end (x ∷ y ∷ s) = pick (eqb x 13 and eqb y 10) (some s) none

-- what is left of a record: the rest of the field at hand, the fields after it, and the bytes after the record
pub data Rest : Type 0 where
  rest : List ℕ → List (List ℕ) → List ℕ → Rest
  broken : Rest

-- x before the field at hand
abbrev pub grow : ℕ → Rest → Rest
grow x (rest f fs r) = rest (x ∷ f) fs r
grow x broken = broken

-- the field at hand ends, and another begins
abbrev pub another : Rest → Rest
another (rest f fs r) = rest [] (f ∷ fs) r
another broken = broken

-- the field at hand ends, and so does the record
abbrev pub last : Option (List ℕ) → Rest
last (some r) = rest [] [] r
last none = broken

-- a place in a record: before a field, in an unquoted field, in a quoted field, and there after a quote, which closes the
-- field unless another quote follows
pub data Place : Type 0 where
  before : Place
  plain : Place
  quoted : Place
  closing : Place

-- the rest of a record from a place in it
unfoldable pub fields_from : Place → List ℕ → Rest
fields_from before [] = last (record_end [])
fields_from before (x ∷ s) =
    let q = fields_from quoted s in
    let p = grow x (fields_from plain s) in
    let c = another (fields_from before s) in
    pick (eqb x 34) q (pick (is_text x) p (pick (eqb x 44) c (last (record_end (x ∷ s)))))
fields_from plain [] = last (record_end [])
fields_from plain (x ∷ s) =
    let p = grow x (fields_from plain s) in
    let c = another (fields_from before s) in
    pick (is_text x) p (pick (eqb x 44) c (last (record_end (x ∷ s))))
fields_from quoted [] = broken
fields_from quoted (x ∷ s) =
    let e = fields_from closing s in
    let q = grow x (fields_from quoted s) in
    pick (eqb x 34) e (pick (is_inside x) q broken)
fields_from closing [] = last (record_end [])
fields_from closing (x ∷ s) =
    let q = grow 34 (fields_from quoted s) in
    let c = another (fields_from before s) in
    pick (eqb x 34) q (pick (eqb x 44) c (last (record_end (x ∷ s))))

-- the record at the front
abbrev pub record_at : List ℕ → Rest
record_at s = fields_from before s

-- ---- a file

-- the records before the first that is not of the form, each with its fields, and that record's number, 0 for none
pub record Csv : Type 0 where
  pub records : List (List (List ℕ))
  pub fault : ℕ

abbrev pub record_first : List (List ℕ) → Csv → Csv
record_first f k = record { records = f ∷ k.records; fault = k.fault }

-- record number j, which was read so, and those after it: none behind a CRLF that ends the file
abbrev pub record_then : ℕ → Rest → (List ℕ → Csv) → Csv
record_then j (rest f fs []) next = record { records = (f ∷ fs) ∷ []; fault = 0 }
record_then j (rest f fs (x ∷ s)) next = record_first (f ∷ fs) (next (x ∷ s))
record_then j broken next = record { records = []; fault = j }

-- at most n records, from record number j on
unfoldable pub file_by : ℕ → ℕ → List ℕ → Csv
file_by zero j s = record { records = []; fault = j }
file_by (suc n) j s = record_then j (record_at s) (λ r. file_by n (suc j) r)

-- a file. It has at most one record more than it has bytes.
unfoldable pub csv : List ℕ → Csv
csv s = file_by (suc (length s)) 1 s
