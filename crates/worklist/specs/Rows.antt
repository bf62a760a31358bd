-- A worklist's rows read from the front, as the code does it. Each row is matched against
--   Q(number) , Q(number or nothing) , Q(number) , (number | "number(,number)*")   and then a CRLF or the end,
-- where Q(x) is x or "x".
use Rattle.std.specs.Prelude.{ℕ, zero, suc, ◌+◌, ◌-◌, ◌*◌, List, [], ◌∷◌, length, eqb}
use Rattle.std.proofs.Math.Option.{Option, some, none}
use Rattle.rules.specs.Fold.{pick}
use Rattle.rules.specs.Field.{is_digit}
use Rattle.rules.specs.Csv.{record_end}
use Rattle.rules.specs.Worklist.{Row, Worklist, rows, faulty_row, row_first}

-- what stands at the front, and the bytes behind it; or something else stands there
pub data Front (X : Type 0) : Type 0 where
  gives : X → List ℕ → Front X
  fails : Front X

abbrev pub and_then : {X Y : Type 0} → Front X → (X → List ℕ → Front Y) → Front Y
and_then (gives x r) next = next x r
and_then fails next = fails

abbrev pub or_fail : {X Y : Type 0} → Option X → (X → Front Y) → Front Y
or_fail (some x) next = next x
or_fail none next = fails

-- the byte b
abbrev pub byte_at : {X : Type 0} → ℕ → List ℕ → (List ℕ → Front X) → Front X
byte_at b [] next = fails
byte_at b (x ∷ s) next = pick (eqb x b) (next s) fails

-- x itself or x in quotes
abbrev pub quoted_or : {X : Type 0} → (List ℕ → Front X) → List ℕ → Front X
quoted_or p [] = p []
quoted_or p (x ∷ s) = pick (eqb x 34) (and_then (p s) (λ v r. byte_at 34 r (λ r₁. gives v r₁))) (p (x ∷ s))

-- ---- numbers

-- how many digits may follow the first digit x
abbrev pub room : ℕ → ℕ
room x = pick (eqb x 48) 0 5

-- up to j more digits, after digits of value v
unfoldable pub digits_at : ℕ → ℕ → List ℕ → Front ℕ
digits_at j v [] = gives v []
digits_at zero v (x ∷ s) = gives v (x ∷ s)
digits_at (suc j) v (x ∷ s) = let r = digits_at j (10 * v + (x - 48)) s in pick (is_digit x) r (gives v (x ∷ s))

unfoldable pub number_at : List ℕ → Front ℕ
number_at [] = fails
number_at (x ∷ s) = pick (is_digit x) (digits_at (room x) (x - 48) s) fails

-- nothing is the place 0
unfoldable pub number_or_nothing_at : List ℕ → Front ℕ
number_or_nothing_at [] = gives 0 []
number_or_nothing_at (x ∷ s) = pick (is_digit x) (digits_at (room x) (x - 48) s) (gives 0 (x ∷ s))

-- ---- lists

-- a place in a list: before a number, or in one of value v so far that j more digits may follow
pub data Spot : Type 0 where
  start : Spot
  within : ℕ → ℕ → Spot

abbrev pub onto : ℕ → Front (List ℕ) → Front (List ℕ)
onto v (gives l r) = gives (v ∷ l) r
onto v fails = fails

-- the numbers of a list from a place in it, separated by commas
unfoldable pub numbers_from : Spot → List ℕ → Front (List ℕ)
numbers_from start [] = fails
numbers_from start (x ∷ s) = let r = numbers_from (within (room x) (x - 48)) s in pick (is_digit x) r fails
numbers_from (within j v) [] = gives (v ∷ []) []
numbers_from (within zero v) (x ∷ s) =
    let c = onto v (numbers_from start s) in
    pick (eqb x 44) c (gives (v ∷ []) (x ∷ s))
numbers_from (within (suc j) v) (x ∷ s) =
    let r = numbers_from (within j (10 * v + (x - 48))) s in
    let c = onto v (numbers_from start s) in
    pick (is_digit x) r (pick (eqb x 44) c (gives (v ∷ []) (x ∷ s)))

-- one number, or a list in quotes
unfoldable pub list_at : List ℕ → Front (List ℕ)
list_at [] = fails
list_at (x ∷ s) =
    pick (eqb x 34)
    (and_then (numbers_from start s) (λ l r. byte_at 34 r (λ r₁. gives l r₁)))
    (and_then (number_at (x ∷ s)) (λ v r. gives (v ∷ []) r))

-- ---- a row

unfoldable pub row_at : List ℕ → Front Row
row_at s =
    and_then (quoted_or number_at s) (λ t r₁.
    byte_at 44 r₁ (λ r₂.
    and_then (quoted_or number_or_nothing_at r₂) (λ p r₃.
    byte_at 44 r₃ (λ r₄.
    and_then (quoted_or number_at r₄) (λ k r₅.
    byte_at 44 r₅ (λ r₆.
    and_then (list_at r₆) (λ l r₇.
    or_fail (record_end r₇) (λ r₈.
    gives (record { minutes = t; place = p; mark = k; list = l }) r₈))))))))

-- ---- a file

-- row number j, which was read so, and those after it
abbrev pub row_then : ℕ → Front Row → (List ℕ → Worklist) → Worklist
row_then j (gives w []) next = rows (w ∷ [])
row_then j (gives w (x ∷ s)) next = row_first w (next (x ∷ s))
row_then j fails next = faulty_row j

-- at most n rows, from row number j on
unfoldable pub rows_by : ℕ → ℕ → List ℕ → Worklist
rows_by zero j s = faulty_row j
rows_by (suc n) j s = row_then j (row_at s) (λ r. rows_by n (suc j) r)

-- the rows from number j on
unfoldable pub rows_from : ℕ → List ℕ → Worklist
rows_from j s = rows_by (suc (length s)) j s

unfoldable pub rows_read : List ℕ → Worklist
rows_read s = rows_from 1 s
