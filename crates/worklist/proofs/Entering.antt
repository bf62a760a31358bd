-- The rows of a worklist entered one after the other, as the code does it.
use Prim.Native.Nat.{ℕ, suc, ◌+◌, ◌≤◌, ◌<◌}
use mathlib.Core.Path.{◌≡◌, refl, sym, ap, ◌∙◌}
use mathlib.Core.List.{List, [], ◌∷◌}
use native.Mathlib.Omega.{arith}
use native.Mathlib.Numerals.{add-one}
use lib.ListN.{length, take}
use borrow.Author.Tests.{le-leb, lt-ltb}
use denote.Ref.{Bor}
use Rattle.std.specs.Prelude.{Option, Some, None, Result, Ok, Err, IsSome, IsOkAnd}
use Rattle.rules.specs.Sheet.{Book, size}
use Rattle.rules.specs.Edit as E
use Rattle.rules.specs.Read as D
use Rattle.rules.specs.Worklist.{Row, Worklist, rows, faulty_row, row_first, worklist}
use Rattle.theory.proofs.Worklist.{with_row, with_rows, rows_on, row_cut, row_more, with-row-sound}
use Rattle.sheet.specs.declared.Sheet.{Sheet}
use Rattle.sheet.specs.declared.Refusal.{Refusal}
use Rattle.sheet.specs.Represent.{Sound, firsts, book_of, sheet_of}
use Rattle.sheet.specs.Answers.{Edited, left, edited_as, coded, fault, read_as}
use Rattle.sheet.proofs.Represent.{book-sheet, sheet-sound}
use Rattle.sheet.proofs.Firsts.{firsts-front}
use Rattle.sheet.proofs.SoundArrays.{book-m, few-instruments}
use Rattle.worklist.specs.declared.row.Row as C
use Rattle.worklist.specs.Rows.{Front, gives, fails, row_at, rows_from, rows_read}
use Rattle.worklist.specs.Read.{front_of, kept_row, rows_as}
use Rattle.worklist.proofs.File.{worklist-same}
use Rattle.worklist.proofs.Loop.{row-shorter}
use Rattle.worklist.proofs.Passing.{rows_after, rows_next, rows-fault, some_left, none_left, empty-file}

no_rows {ℓ} : {Y : Type ℓ} {j : ℕ} {ws : List Row} → faulty_row j ≡ rows ws → Y
no_rows e = absurd (let z : ◌≡◌ {A = ℕ} 0 1 = cc in omega arith)

-- ---- the first of the rows that are left

record First (s : List ℕ) (j : ℕ) (ws : List Row) : Type 0 where
  row : Row
  later : List Row
  all : row ∷ later ≡ ws
  next : List ℕ
  part : row_at s ≡ gives row next
  shorter : length next < length s
  rest : rows_after (suc (suc j)) next ≡ rows later

first_of : (s : List ℕ) (j : ℕ) (ws : List Row) → 0 < length s → rows_after (suc j) s ≡ rows ws → First s j ws
first_of s j ws h e = from (row_at s) refl
  where
    here : rows_from (suc j) s ≡ rows ws
    here = sym (some_left (suc j) s h) ∙ e

    by : (w : Row) (r : List ℕ) → row_at s ≡ gives w r → (v : Worklist) → rows_after (suc (suc j)) r ≡ v → row_first w v ≡ rows ws → First s j ws
    by w r q (rows us) p g = record { row = w; later = us; all = cc; next = r; part = q; shorter = row-shorter s w r q; rest = p }
    by w r q (faulty_row i) p g = no_rows g

    from : (p : Front Row) → row_at s ≡ p → First s j ws
    from (gives w r) q = by w r q (rows_after (suc (suc j)) r) refl (sym (rows_next j s w r q) ∙ here)
    from fails q = no_rows (sym (rows-fault j s q) ∙ here)

-- ---- the rows of a file

-- a file without a faulty row has rows
there : (s : List ℕ) → IsOkAnd (rows_as (worklist s)) (λ n. n ≤ 200) → (ws : List Row) × (worklist s ≡ rows ws) × (length ws ≤ 200)
there s h = from (worklist s) refl h
  where
    from : (v : Worklist) → worklist s ≡ v → IsOkAnd (rows_as v) (λ n. n ≤ 200) → (ws : List Row) × (worklist s ≡ rows ws) × (length ws ≤ 200)
    from (rows ws) q h = (ws, q, h)
    from (faulty_row k) q h = absurd h

-- and they start at its front
from_front : (s : List ℕ) (ws : List Row) → worklist s ≡ rows ws → rows_after 1 s ≡ rows ws
unfolding rows_read
from_front [] ws e = no_rows (sym (empty-file [] refl) ∙ e)
from_front (x ∷ s) ws e = sym (worklist-same (x ∷ s)) ∙ e

-- a row as the sheet is handed it
abbrev pub handed : C.Row → Row
handed r = record { minutes = r.minutes; place = r.place; mark = r.mark; list = take r.count r.list }

-- ---- between two rows: i are in the sheet, and what is left goes on from it as the rules do

module _ (s : List ℕ) (o : D.Reading) where
  pub record Entering (t : Sheet) (rest : List ℕ) (i : ℕ) : Type 0 where
    pub sound : Sound t
    pub batches : size (book_of t) ≡ i
    pub left : List Row
    pub few : i + length left ≤ 200
    pub more : rows_after (suc i) rest ≡ rows left
    pub same : with_rows (book_of t) (suc i) left ≡ o

pub entering-start : (s : List ℕ) (t : Sheet) → Sound t → size (book_of t) ≡ 0 → IsOkAnd (rows_as (worklist s)) (λ n. n ≤ 200)
    → Entering s (rows_on (book_of t) (worklist s)) t s 0
entering-start s t v z h =
    let r = there s h in
    record {
      sound = v;
      batches = z;
      left = r.0;
      few = omega (arith, r.2);
      more = from_front s r.0 r.1;
      same = rw (r.1, le-leb (length r.0) 200 r.2);
    }

module _ {s : List ℕ} {o : D.Reading} {t : Sheet} {rest : List ℕ} {i : ℕ} (g : Entering s o t rest i) where
  first : 0 < length rest → First rest i g.left
  first h = first_of rest i g.left h g.more

  pub roomy : 0 < length rest → size (book_of t) < 200
  roomy h = omega (arith, g.batches, g.few, ap length (first h).all)

  -- a row stands there
  pub row-there : 0 < length rest → (x : Option (C.Row × Bor (List ℕ))) → front_of x ≡ kept_row (row_at rest) → IsSome x
  row-there h (Some p) e = refl
  row-there h None e = absurd (let z : fails ≡ kept_row (gives (first h).row (first h).next) = e ∙ ap kept_row (first h).part in cc)

  module _ (h : 0 < length rest) (r : C.Row) (u : List ℕ) (q : gives r u ≡ kept_row (row_at rest)) where
    read : gives r u ≡ kept_row (gives (first h).row (first h).next)
    read = q ∙ ap kept_row (first h).part

    -- the row as the code has it
    row_is : r ≡ record {
      minutes = (first h).row.minutes;
      place = (first h).row.place;
      mark = (first h).row.mark;
      count = length (take 25 (first h).row.list);
      list = firsts (first h).row.list;
    }
    row_is = let e = read in cc

    next-is : u ≡ (first h).next
    next-is = let e = read in cc

    size_is : r.count ≡ length (take 25 (first h).row.list)
    size_is = ap (λ (x : C.Row). x.count) row_is

    -- its members are the first 25 of the list
    members : take r.count r.list ≡ take 25 (first h).row.list
    members =
        let l = (first h).row.list in
        ap (λ (x : List ℕ). take r.count x) (ap (λ (x : C.Row). x.list) row_is)
        ∙ ap (λ (k : ℕ). take k (firsts l)) size_is
        ∙ firsts-front l

    -- which the sheet judges as the whole
    judged : with_row (book_of t) (handed r)
        ≡ with_row (book_of t) (first h).row
    judged =
        ap (with_row (book_of t))
        (ap (λ (l : List ℕ). record { minutes = r.minutes; place = r.place; mark = r.mark; list = l }) members
        ∙ ap (λ (x : C.Row). record { minutes = x.minutes; place = x.place; mark = x.mark; list = take 25 (first h).row.list }) row_is)
        ∙ row_cut (book_of t) (first h).row 25 (omega (arith, book-m t, few-instruments t g.sound))

    whole : with_rows (book_of t) (suc i) ((first h).row ∷ (first h).later) ≡ o
    whole = ap (with_rows (book_of t) (suc i)) (first h).all ∙ g.same

    pub shorter : length u < length rest
    shorter = omega (arith, (first h).shorter, ap (λ (x : List ℕ). length x) next-is)

    module _ (t₁ : Sheet) where
      answer_is : {a : Result Unit Refusal}
          → left a t₁ ≡ edited_as t (with_row (book_of t) (handed r))
          → left a t₁ ≡ edited_as t (with_row (book_of t) (first h).row)
      answer_is f = f ∙ ap (edited_as t) judged

      pub row-refused : (e : Refusal)
          → left (Err e) t₁ ≡ edited_as t (with_row (book_of t) (handed r))
          → Err (fault e (i + 1)) ≡ read_as o
      unfolding with_rows
      row-refused e f = from (with_row (book_of t) (first h).row) refl (answer_is f)
        where
          from : (x : E.Edited) → with_row (book_of t) (first h).row ≡ x → left (Err e) t₁ ≡ edited_as t x → Err (fault e (i + 1)) ≡ read_as o
          from (E.refused y) a b =
              let w : D.refused_at y (suc i) ≡ o = rw a at whole in
              let d : Err e ≡ Err (coded y) = ap (λ (x : Edited). x.answer) b in
              let c : e ≡ coded y = cc in
              rw (add-one, c) (ap read_as w)
          from (E.edited k) a b = absurd (let d : Err e ≡ Ok tt = ap (λ (x : Edited). x.answer) b in cc)

      pub row-entered : (v : Unit)
          → left (Ok v) t₁ ≡ edited_as t (with_row (book_of t) (handed r))
          → Entering s o t₁ u (i + 1)
      unfolding with_rows
      row-entered v f = from (with_row (book_of t) (first h).row) refl (answer_is f)
        where
          from : (x : E.Edited) → with_row (book_of t) (first h).row ≡ x → left (Ok v) t₁ ≡ edited_as t x → Entering s o t₁ u (i + 1)
          from (E.refused y) a b = absurd (let d : Ok v ≡ Err (coded y) = ap (λ (x : Edited). x.answer) b in cc)
          from (E.edited k) a b =
              let w : t₁ ≡ sheet_of k = ap (λ (x : Edited). x.sheet) b in
              let d = with-row-sound (book_of t) (first h).row k g.sound.book (lt-ltb _ 200 (roomy h)) a in
              let y : book_of t₁ ≡ k = ap book_of w ∙ book-sheet k d in
              rw add-one
              (record {
                sound = rw w (sheet-sound k d);
                batches = ap size y ∙ row_more (book_of t) (first h).row k a ∙ ap suc g.batches;
                left = (first h).later;
                few = omega (arith, g.few, ap length (first h).all);
                more = ap (rows_after (suc (suc i))) next-is ∙ (first h).rest;
                same = ap (λ (x : Book). with_rows x (suc (suc i)) (first h).later) y ∙ (rw a at whole);
              })

  -- no row is left
  pub entered : length rest ≡ 0 → Ok t ≡ read_as o
  unfolding with_rows
  entered h =
      let z : g.left ≡ [] = (let q = sym g.more ∙ none_left (suc i) rest h in cc) in
      let e : D.accepted (book_of t) ≡ o = rw z at g.same in
      ap Ok (sym g.sound.arrays) ∙ ap read_as e
