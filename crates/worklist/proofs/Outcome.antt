-- What the reader from the front says of a file, in the words of RFC 4180's rules: the rows, each of four well-formed fields;
-- or the first row that is no record of the form or has not four well-formed fields.
use Prim.Native.Nat.{ℕ, zero, suc, ◌+◌, ◌-◌, ◌≤◌, ◌<◌}
use mathlib.Core.Path.{◌≡◌, refl, sym, ap, ◌∙◌}
use mathlib.Core.List.{List, [], ◌∷◌}
use mathlib.Core.Option.{Option, some, none}
use native.Mathlib.Omega.{arith}
use lib.ListN.{length}
use Rattle.rules.specs.Csv.{Rest, rest, broken, before, record_at}
use Rattle.rules.specs.Grammar.{Record, Ends}
use Rattle.rules.specs.Worklist.{Row, row_of, Worklist, rows, faulty_row, row_first}
use Rattle.worklist.specs.Rows.{gives, fails, or_fail, row_at, row_then, rows_by, rows_from, rows_read}
use Rattle.worklist.proofs.Front.{on_rest}
use Rattle.worklist.proofs.SameRow.{checked, row_same}
use Rattle.worklist.proofs.Fuel.{Short, record-short}
use Rattle.worklist.proofs.Grammar.{Parsed, record-reads, record_is, at_most}

-- the file s says the rows ws
pub data Says : List ℕ → List Row → Type 0 where
  last_row : {e s f : List ℕ} {fs : List (List ℕ)} {w : Row} → Record e s f fs → Ends e [] → row_of (f ∷ fs) ≡ some w → Says s (w ∷ [])
  next_row : {s f t : List ℕ} {fs : List (List ℕ)} {x : ℕ} {w : Row} {ws : List Row}
      → Record (13 ∷ 10 ∷ x ∷ t) s f fs → row_of (f ∷ fs) ≡ some w → Says (x ∷ t) ws → Says s (w ∷ ws)

-- in the file s, i good rows come before one that is faulty
pub data FaultAfter : ℕ → List ℕ → Type 0 where
  no_record : {s : List ℕ} → ((e r f : List ℕ) (fs : List (List ℕ)) → Ends e r → Record e s f fs → ⊥) → FaultAfter 0 s
  not_four : {e r s f : List ℕ} {fs : List (List ℕ)} → Record e s f fs → Ends e r → row_of (f ∷ fs) ≡ none → FaultAfter 0 s
  next_row : {i : ℕ} {s f t : List ℕ} {fs : List (List ℕ)} {x : ℕ} {w : Row}
      → Record (13 ∷ 10 ∷ x ∷ t) s f fs → row_of (f ∷ fs) ≡ some w → FaultAfter i (x ∷ t) → FaultAfter (suc i) s

-- an answer, where the first row of s has number j
pub data Answers (j : ℕ) (s : List ℕ) : Worklist → Type 0 where
  says : {ws : List Row} → Says s ws → Answers j s (rows ws)
  faulty : (i k : ℕ) → FaultAfter i s → k ≡ j + i → Answers j s (faulty_row k)

no-rest : (s : List ℕ) → record_at s ≡ broken → FaultAfter 0 s
no-rest s h =
    FaultAfter.no_record (λ e r f fs a p.
    let q : rest f fs r ≡ broken = sym (record-reads p a) ∙ h in
    absurd (let z : ◌≡◌ {A = ℕ} 0 1 = cc in omega arith))

module _ (j : ℕ) (s f : List ℕ) (fs : List (List ℕ)) (w : Row) (good : row_of (f ∷ fs) ≡ some w) where
  more_rows : (x : ℕ) (t : List ℕ) {e : List ℕ} {k : Worklist} → Record e s f fs → Ends e (x ∷ t) → Answers (suc j) (x ∷ t) k
      → Answers j s (row_first w k)
  more_rows x t p Ends.end_of_line (Answers.says h) = Answers.says (Says.next_row p good h)
  more_rows x t p Ends.end_of_line (Answers.faulty i k h e) = Answers.faulty (suc i) k (FaultAfter.next_row p good h) (omega arith)

pub rows-answer : (n j : ℕ) (s : List ℕ) → length s < n → Answers j s (rows_by n j s)
unfolding rows_by
rows-answer zero j s b = absurd (omega arith)
rows-answer (suc n) j s b =
    rw (← (row_same s)) (from (record_at s) refl (record-short s before) (λ r a. rows-answer n (suc j) r a))
  where
    from : (p : Rest) → record_at s ≡ p → Short (length s - 1) p → ((r : List ℕ) → length r < n → Answers (suc j) r (rows_by n (suc j) r))
        → Answers j s (row_then j (on_rest p (λ f fs r. checked row_of (f ∷ fs) r)) (λ r. rows_by n (suc j) r))
    from broken e l ih = Answers.faulty 0 j (no-rest s e) (omega arith)
    from (rest f fs r) e l ih = by (row_of (f ∷ fs)) refl r (record_is s f fs r e) (at_most l)
      where
        by : (o : Option Row) → row_of (f ∷ fs) ≡ o → (r : List ℕ) → Parsed s f fs r → length r ≤ length s - 1
            → Answers j s (row_then j (or_fail o (λ w. gives w r)) (λ r. rows_by n (suc j) r))
        by none g r p a = Answers.faulty 0 j (FaultAfter.not_four p.is p.ends g) (omega arith)
        by (some w) g [] p a = Answers.says (Says.last_row p.is p.ends g)
        by (some w) g (x ∷ t) p a = more_rows j s f fs w g x t p.is p.ends (ih (x ∷ t) (omega arith))

pub answer : (s : List ℕ) → Answers 1 s (rows_read s)
unfolding rows_read rows_from
answer s = rows-answer (suc (length s)) 1 s (omega arith)

-- ---- and the other way round: what the rules say is answered

row-of : {e s f r : List ℕ} {fs : List (List ℕ)} → Record e s f fs → Ends e r
    → row_at s ≡ or_fail (row_of (f ∷ fs)) (λ w. gives w r)
row-of {s = s} p a = sym (row_same s) ∙ ap (λ (q : Rest). on_rest q (λ f fs r. checked row_of (f ∷ fs) r)) (record-reads p a)

pub shorter : {e s f r : List ℕ} {fs : List (List ℕ)} → Record e s f fs → Ends e r → length r ≤ length s - 1
shorter {s = s} p a =
    let l : Short (length s - 1) (record_at s) = record-short s before in
    at_most (rw (record-reads p a) at l)

says-rows : {s : List ℕ} {ws : List Row} → Says s ws → (n j : ℕ) → length s < n → rows_by n j s ≡ rows ws
unfolding rows_by
says-rows (Says.last_row p a g) zero j b = absurd (omega arith)
says-rows (Says.last_row p a g) (suc n) j b = rw (row-of p a, g)
says-rows (Says.next_row p g h) zero j b = absurd (omega arith)
says-rows (Says.next_row {w = w} p g h) (suc n) j b =
    let l = shorter p Ends.end_of_line in
    rw (row-of p Ends.end_of_line, g) (ap (λ (k : Worklist). row_first w k) (says-rows h n (suc j) (omega arith)))

no_row : (s : List ℕ) → ((e r f : List ℕ) (fs : List (List ℕ)) → Ends e r → Record e s f fs → ⊥) → row_at s ≡ fails
no_row s h = sym (row_same s) ∙ by (record_at s) refl
  where
    by : (p : Rest) → record_at s ≡ p → on_rest p (λ f fs r. checked row_of (f ∷ fs) r) ≡ fails
    by (rest f fs r) e = let p = record_is s f fs r e in absurd (h p.behind r f fs p.ends p.is)
    by broken e = refl

fault-rows : {i : ℕ} {s : List ℕ} → FaultAfter i s → (n j : ℕ) → length s < n → rows_by n j s ≡ faulty_row (j + i)
unfolding rows_by
fault-rows (FaultAfter.no_record h) zero j b = absurd (omega arith)
fault-rows (FaultAfter.no_record {s} h) (suc n) j b = rw (no_row s h) (ap faulty_row (omega arith))
fault-rows (FaultAfter.not_four p a g) zero j b = absurd (omega arith)
fault-rows (FaultAfter.not_four p a g) (suc n) j b = rw (row-of p a, g) (ap faulty_row (omega arith))
fault-rows (FaultAfter.next_row p g h) zero j b = absurd (omega arith)
fault-rows (FaultAfter.next_row {i = i} {w = w} p g h) (suc n) j b =
    let l = shorter p Ends.end_of_line in
    rw (row-of p Ends.end_of_line, g) (ap (λ (k : Worklist). row_first w k) (fault-rows h n (suc j) (omega arith)) ∙ ap faulty_row (omega arith))

pub says-read : {s : List ℕ} {ws : List Row} → Says s ws → rows_read s ≡ rows ws
unfolding rows_read rows_from
says-read {s} h = says-rows h (suc (length s)) 1 (omega arith)

pub fault-read : {i : ℕ} {s : List ℕ} → FaultAfter i s → rows_read s ≡ faulty_row (1 + i)
unfolding rows_read rows_from
fault-read {s = s} h = fault-rows h (suc (length s)) 1 (omega arith)
