-- The rows of a file, passed one by one and counted.
use Prim.Native.Nat.{ℕ, suc, ◌+◌, ◌≤◌, ◌<◌}
use mathlib.Core.Path.{◌≡◌, refl, sym, ap, ◌∙◌}
use mathlib.Core.List.{List, [], ◌∷◌}
use native.Mathlib.Numerals.{add-one}
use native.Mathlib.Omega.{arith}
use lib.Dec.{eqb}
use lib.ListN.{length, take}
use borrow.Author.Tests.{eqb-false}
use mathlib.Core.Bool.{false}
use Rattle.std.specs.Prelude.{Result, Ok, Err}
use Rattle.rules.specs.Worklist.{Worklist, rows, faulty_row, row_first, worklist}
use Rattle.rules.specs.Worklist as W
use Rattle.worklist.specs.declared.row.Row.{Row}
use Rattle.worklist.specs.declared.row.FaultyRow.{FaultyRow}
use Rattle.worklist.specs.Rows.{Front, gives, fails, number_at, row_at, row_then, rows_from, rows_read}
use Rattle.sheet.specs.Represent.{firsts}
use Rattle.worklist.specs.Read.{kept_row, rows_as}
use Rattle.worklist.proofs.File.{worklist-same}
use Rattle.worklist.proofs.Loop.{row-shorter, rows-loop}

-- the rows of s, the first of which is row j; none where nothing is left
abbrev pub rows_after : ℕ → List ℕ → Worklist
rows_after j [] = rows []
rows_after j (x ∷ s) = rows_from j (x ∷ s)

-- ---- a row, and those after it

then-after : (j : ℕ) (w : W.Row) (r : List ℕ) → row_then j (gives w r) (λ u. rows_from (suc j) u) ≡ row_first w (rows_after (suc j) r)
then-after j w [] = refl
then-after j w (x ∷ r) = refl

pub rows_next : (j : ℕ) (s : List ℕ) (w : W.Row) (r : List ℕ) → row_at s ≡ gives w r
    → rows_from (suc j) s ≡ row_first w (rows_after (suc (suc j)) r)
rows_next j s w r e = rows-loop j s ∙ rw e (then-after (suc j) w r)

pub rows-fault : (j : ℕ) (s : List ℕ) → row_at s ≡ fails → rows_from (suc j) s ≡ faulty_row (suc j)
rows-fault j s e = rows-loop j s ∙ rw e

pub some_left : (j : ℕ) (s : List ℕ) → 0 < length s → rows_after j s ≡ rows_from j s
some_left j [] h = absurd (omega arith)
some_left j (x ∷ s) h = refl

pub none_left : (j : ℕ) (s : List ℕ) → length s ≡ 0 → rows_after j s ≡ rows []
none_left j [] h = refl
none_left j (x ∷ s) h = absurd (omega arith)

-- some byte is left
pub not-empty : (s : List ℕ) → false ≡ eqb (length s) 0 → 0 < length s
not-empty s e = let h = eqb-false (length s) 0 (sym e) in omega arith

-- ---- what the reader of a row answers

row_none : (p : Front W.Row) → fails ≡ kept_row p → p ≡ fails
row_none (gives w u) e = cc
row_none fails e = refl

-- the row in front, of whose list the first 25 are kept
pub record RowRead (s : List ℕ) (r : Row) (rest : List ℕ) : Type 0 where
  pub row : W.Row
  pub part : row_at s ≡ gives row rest
  pub is : r ≡ record { minutes = row.minutes; place = row.place; mark = row.mark; count = length (take 25 row.list); list = firsts row.list }
  pub shorter : length rest < length s

pub row_read : (s : List ℕ) (r : Row) (rest : List ℕ) → gives r rest ≡ kept_row (row_at s) → RowRead s r rest
row_read s r rest e = from (row_at s) refl e
  where
    from : (p : Front W.Row) → row_at s ≡ p → gives r rest ≡ kept_row p → RowRead s r rest
    from (gives w u) q d =
        let h : u ≡ rest = cc in
        let a : row_at s ≡ gives w rest = q ∙ rw h in
        record { row = w; part = a; is = cc; shorter = row-shorter s w rest a }
    from fails q d = absurd (let z : gives r rest ≡ fails = d in cc)

-- ---- the first pass: the rows so far are counted

-- a file's answer, where k rows come before these
abbrev pub with_rows : ℕ → Worklist → Result ℕ FaultyRow
with_rows k (rows ws) = Ok (k + length ws)
with_rows k (faulty_row j) = Err (record { row = j })

one_more : (k : ℕ) (w : W.Row) (q : Worklist) → with_rows k (row_first w q) ≡ with_rows (k + 1) q
one_more k w (rows ws) = let e : k + suc (length ws) ≡ k + 1 + length ws = omega arith in rw e
one_more k w (faulty_row j) = refl

none_before : (q : Worklist) → with_rows 0 q ≡ rows_as q
none_before (rows ws) = let e : 0 + length ws ≡ length ws = omega arith in rw e
none_before (faulty_row j) = refl

pub empty-file : (s : List ℕ) → length s ≡ 0 → worklist s ≡ faulty_row 1
unfolding rows_read row_at number_at
empty-file [] h = worklist-same [] ∙ rows-fault 0 [] refl
empty-file (x ∷ s) h = absurd (omega arith)

module _ (s : List ℕ) where
  -- count rows are read, and rest is left
  pub record RowsSofar (count : ℕ) (rest : List ℕ) : Type 0 where
    pub few : count + length rest ≤ length s
    pub same : with_rows count (rows_after (suc count) rest) ≡ rows_as (worklist s)

  pub none_yet : 0 < length s → RowsSofar 0 s
  unfolding rows_read
  none_yet h = record { few = omega arith; same = none_before (rows_after 1 s) ∙ ap rows_as (some_left 1 s h ∙ sym (worklist-same s)) }

  module _ (count : ℕ) (rest : List ℕ) (f : RowsSofar count rest) where
    pub all_read : length rest ≡ 0 → Ok count ≡ rows_as (worklist s)
    all_read h =
        let e : count + 0 ≡ count = omega arith in
        let d : Ok count ≡ with_rows count (rows []) = rw e in
        d ∙ ap (with_rows count) (sym (none_left (suc count) rest h)) ∙ f.same

    module _ (h : 0 < length rest) where
      pub then-faulty : fails ≡ kept_row (row_at rest) → Err (record { row = count + 1 }) ≡ rows_as (worklist s)
      then-faulty e =
          let made : FaultyRow = record { row = count + 1 } in
          let d : Err made ≡ with_rows count (faulty_row (suc count)) = rw add-one in
          d ∙ ap (with_rows count) (sym (some_left (suc count) rest h ∙ rows-fault count rest (row_none (row_at rest) e))) ∙ f.same

      module _ (r : Row) (u : List ℕ) (e : gives r u ≡ kept_row (row_at rest)) where
        pub then-good : RowsSofar (count + 1) u
        then-good =
            let n = row_read rest r u e in
            let q : rows_after (suc count) rest ≡ row_first n.row (rows_after (suc (suc count)) u) =
            some_left (suc count) rest h ∙ rows_next count rest n.row u n.part in
            record {
              few = omega (arith, f.few, n.shorter);
              same =
                  ap (λ (i : ℕ). with_rows (count + 1) (rows_after (suc i) u)) (add-one count)
                  ∙ sym (one_more count n.row (rows_after (suc (suc count)) u))
                  ∙ ap (with_rows count) (sym q)
                  ∙ f.same;
            }

        pub shorter : length u < length rest
        shorter = (row_read rest r u e).shorter
