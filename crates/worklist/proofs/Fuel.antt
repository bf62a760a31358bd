-- A file has at most one record more than it has bytes, so the bound on the records that csv and rows_read set cuts off nothing.
use Prim.Native.Nat.{ℕ, zero, suc, ◌-◌, ◌≤◌, ◌<◌}
use mathlib.Core.Path.{◌≡◌, refl, sym, ap, ◌∙◌}
use mathlib.Core.Bool.{Bool, true, false}
use mathlib.Core.List.{List, [], ◌∷◌}
use mathlib.Core.Option.{some, none}
use native.Mathlib.Omega.{arith}
use lib.ListN.{length}
use lib.Dec.{eqb}
use Rattle.rules.specs.Fold.{pick, ◌and◌}
use Rattle.rules.specs.Csv.{is_text, is_inside, record_end, Rest, rest, broken, grow, another, last, Place, before, plain, quoted, closing, fields_from, record_at, Csv, record_first, record_then, file_by}
use Rattle.rules.specs.Worklist.{rows_of}
use Rattle.worklist.specs.Rows.{rows_by}
use Rattle.worklist.proofs.File.{rows_same}

-- at most n bytes come after the record
pub data Short (n : ℕ) : Rest → Type 0 where
  short : {f : List ℕ} {fs : List (List ℕ)} (r : List ℕ) → length r ≤ n → Short n (rest f fs r)
  nothing : Short n broken

module _ {n : ℕ} where
  short-pick : (t : Bool) {a b : Rest} → Short n a → Short n b → Short n (pick t a b)
  short-pick true p q = p
  short-pick false p q = q

  short-grow : (x : ℕ) {p : Rest} → Short (n - 1) p → Short n (grow x p)
  short-grow x (short r h) = short r (omega arith)
  short-grow x nothing = nothing

  short-another : {p : Rest} → Short (n - 1) p → Short n (another p)
  short-another (short r h) = short r (omega arith)
  short-another nothing = nothing

  short-more : {p : Rest} → Short (n - 1) p → Short n p
  short-more (short r h) = short r (omega arith)
  short-more nothing = nothing

short-end : (x : ℕ) (s : List ℕ) → Short (length s) (last (record_end (x ∷ s)))
unfolding record_end
short-end x [] = nothing
short-end x (y ∷ s) = by (eqb x 13 and eqb y 10)
  where
    by : (t : Bool) → Short (suc (length s)) (last (pick t (some s) none))
    by true = short s (omega arith)
    by false = nothing

module _ (x : ℕ) (s : List ℕ) (h : (p : Place) → Short (length s - 1) (fields_from p s)) where
  short-ending : Short (length s) (pick (eqb x 44) (another (record_at s)) (last (record_end (x ∷ s))))
  short-ending = short-pick (eqb x 44) (short-another (h before)) (short-end x s)

  short-step : (p : Place) → Short (length s) (fields_from p (x ∷ s))
  unfolding fields_from
  short-step before =
      short-pick (eqb x 34) (short-more (h quoted)) (short-pick (is_text x) (short-grow x (h plain)) short-ending)
  short-step plain = short-pick (is_text x) (short-grow x (h plain)) short-ending
  short-step quoted = short-pick (eqb x 34) (short-more (h closing)) (short-pick (is_inside x) (short-grow x (h quoted)) nothing)
  short-step closing = short-pick (eqb x 34) (short-grow 34 (h quoted)) short-ending

short_none : (p : Place) → Short 0 (fields_from p [])
unfolding fields_from record_end
short_none before = short [] (omega arith)
short_none plain = short [] (omega arith)
short_none quoted = nothing
short_none closing = short [] (omega arith)

one_less : (n : ℕ) → suc n - 1 ≡ n
one_less n = omega arith

-- some byte stands before what comes after a record, unless nothing does
pub record-short : (s : List ℕ) (p : Place) → Short (length s - 1) (fields_from p s)
record-short [] p = short_none p
record-short (x ∷ s) p = rw (one_less (length s)) (short-step x s (record-short s) p)

-- ---- more bounds than records

after_same : (n m j : ℕ) {b : ℕ} {p : Rest} → Short b p
    → ((r : List ℕ) → 0 < length r → length r ≤ b → file_by n (suc j) r ≡ file_by m (suc j) r)
    → record_then j p (λ r. file_by n (suc j) r) ≡ record_then j p (λ r. file_by m (suc j) r)
after_same n m j {b} (short {f} {fs} r h) e = by r h
  where
    by : (r : List ℕ) → length r ≤ b → record_then j (rest f fs r) (λ r. file_by n (suc j) r) ≡ record_then j (rest f fs r) (λ r. file_by m (suc j) r)
    by [] h = refl
    by (x ∷ s) h = ap (λ (k : Csv). record_first (f ∷ fs) k) (e (x ∷ s) (omega arith) h)
after_same n m j nothing e = refl

pub enough : (n m j : ℕ) (s : List ℕ) → length s < n → length s < m → file_by n j s ≡ file_by m j s
unfolding file_by
enough zero m j s p q = absurd (omega arith)
enough (suc n) zero j s p q = absurd (omega arith)
enough (suc n) (suc m) j s p q =
    after_same n m j (record-short s before) (λ r a b. enough n m (suc j) r (omega arith) (omega arith))

pub enough-rows : (n m j : ℕ) (s : List ℕ) → length s < n → length s < m → rows_by n (suc j) s ≡ rows_by m (suc j) s
enough-rows n m j s p q =
    sym (rows_same n j s) ∙ ap (λ (k : Csv). rows_of (suc j) k.records k.fault) (enough n m (suc j) s p q) ∙ rows_same m j s
