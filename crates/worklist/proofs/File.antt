-- A file: both readers give the same rows, or the same first faulty row.
use Prim.Native.Nat.{ℕ, zero, suc}
use mathlib.Core.Path.{◌≡◌, refl, ap, ◌∙◌}
use mathlib.Core.List.{List, [], ◌∷◌}
use mathlib.Core.Option.{Option, some, none}
use lib.ListN.{length}
use Rattle.rules.specs.Csv.{Rest, rest, broken, Csv, record_at, record_then, file_by, csv}
use Rattle.rules.specs.Worklist.{Row, row_of, Worklist, rows, row_or_fault, rows_of, worklist}
use Rattle.worklist.specs.Rows.{Front, gives, or_fail, row_then, rows_by, rows_from, rows_read}
use Rattle.worklist.proofs.Front.{on_rest}
use Rattle.worklist.proofs.SameRow.{checked, row_same}

-- what a file says, from record number j on
abbrev said : ℕ → Csv → Worklist
said j k = rows_of j k.records k.fault

-- a row, its check's answer, and the rows after it
row-or : (j : ℕ) (o : Option Row) (x : ℕ) (s : List ℕ) (next : List ℕ → Worklist)
    → row_or_fault j o (next (x ∷ s)) ≡ row_then j (or_fail o (λ w. gives w (x ∷ s))) next
row-or j (some w) x s next = refl
row-or j none x s next = refl

row_last : (j : ℕ) (o : Option Row) (next : List ℕ → Worklist)
    → row_or_fault j o (rows []) ≡ row_then j (or_fail o (λ w. gives w [])) next
row_last j (some w) next = refl
row_last j none next = refl

record-row : (j : ℕ) (p : Rest) (n : List ℕ → Csv) (m : List ℕ → Worklist) → ((r : List ℕ) → said (suc (suc j)) (n r) ≡ m r)
    → said (suc j) (record_then (suc j) p n) ≡ row_then (suc j) (on_rest p (λ f fs r. checked row_of (f ∷ fs) r)) m
unfolding rows_of
record-row j (rest f fs []) n m h = row_last (suc j) (row_of (f ∷ fs)) m
record-row j (rest f fs (x ∷ s)) n m h =
    ap (λ (w : Worklist). row_or_fault (suc j) (row_of (f ∷ fs)) w) (h (x ∷ s)) ∙ row-or (suc j) (row_of (f ∷ fs)) x s m
record-row j broken n m h = refl

pub rows_same : (n j : ℕ) (s : List ℕ) → said (suc j) (file_by n (suc j) s) ≡ rows_by n (suc j) s
unfolding file_by rows_by rows_of
rows_same zero j s = refl
rows_same (suc n) j s =
    record-row j (record_at s) (λ r. file_by n (suc (suc j)) r) (λ r. rows_by n (suc (suc j)) r) (λ r. rows_same n (suc j) r)
    ∙ ap (λ (p : Front Row). row_then (suc j) p (λ r. rows_by n (suc (suc j)) r)) (row_same s)

-- the theorem: the reader from the front says of every file what the grammar and the checks of its fields say
pub worklist-same : (s : List ℕ) → worklist s ≡ rows_read s
unfolding worklist csv rows_read rows_from
worklist-same s = rows_same (suc (length s)) 0 s
