-- What each edit gives on a sound sheet, in its arrays; and that the sheet stays sound.
use Prim.Native.Nat.{ℕ, ◌-◌, ◌≤◌, ◌<◌}
use mathlib.Core.Path.{◌≡◌, refl, sym, ap, ◌∙◌}
use mathlib.Core.Bool.{Bool, true, false}
use mathlib.Core.List.{List}
use native.Mathlib.Omega.{arith}
use lib.ListN.{length, get_or, take, replicate}
use lib.Seq.{take_at}
use lib.Dec.{leb, ltb}
use borrow.Author.Tests.{lt-ltb, le-ltb}
use Rattle.rules.specs.Fold.{◌and◌, pick, mem}
use Rattle.rules.specs.Refusal.{bad_list, bad_order}
use Rattle.rules.specs.Sheet.{Book, Batch, with_place, with_list, begun, size, batch, good_list, ascending, sound}
use Rattle.rules.specs.Edit.{Edit, add, withdraw, requalify, move, start, edit, edited, refused, kept, without, with_batches, with_batch, unless, if_waiting, if_listed}
use Rattle.rules.specs.Render.{mark}
use Rattle.rules.specs.Edit as E
use Rattle.theory.proofs.Logic.{by_test}
use Rattle.theory.proofs.Sound.{edit-sound}
use Rattle.theory.proofs.Worklist.{with_row, add_row}
use Rattle.sheet.specs.declared.Sheet.{Sheet}
use Rattle.std.specs.Prelude.{Result, Ok, Err}
use Rattle.sheet.specs.declared.Refusal.{Refusal}
use Rattle.sheet.specs.declared.Refusal.TheVariants.{BadList, BadPlace, BadOrder, NoBatch, SheetFull, HasStarted}
use Rattle.sheet.specs.Represent.{padded, sheet_of, batch_at, book_of, Sound}
use Rattle.sheet.specs.Answers.{Edited, left, edited_as, edit_of}
use Rattle.sheet.specs.Change.{removed, replaced, requalified, started_at, barred, judged_list}
use Rattle.sheet.proofs.Represent.{sheet-sound}
use Rattle.sheet.proofs.Change.{remove-law, move-law, requalify-law, start-law}
use Rattle.sheet.proofs.Scan.{in-range}
use Rattle.sheet.proofs.SoundArrays.{book-m, book-size, book-at, number-at, is_number, few-instruments, few-batches, narrow-book, mark_of, good-long, index}

-- a refusal, which leaves the sheet s; and the sheet s after an edit that is made
abbrev pub refusal : Refusal → Sheet → Edited
refusal r s = left (Err r) s

abbrev pub made : Sheet → Edited
made s = left (Ok tt) s

-- ---- a sound sheet stays sound

kept-sound : (s : Sheet) → Sound s → (o : E.Edited) → ((j : Book) → o ≡ edited j → sound j ≡ true) →
    Sound (edited_as s o).sheet
kept-sound s v (refused e) f = v
kept-sound s v (edited j) f = sheet-sound j (f j refl)

pub edit-keeps : (s : Sheet) (e : Edit) → Sound s → Sound (edit_of s e).sheet
unfolding edit_of
edit-keeps s e v = kept-sound s v (edit (book_of s) e) (λ j q. edit-sound (book_of s) e j v.book q)

-- a list stands at the front of its row
pub row-front : (l row : List ℕ) → row ≡ padded 24 l → take (length l) row ≡ l
row-front l row d = ap (take (length l)) d ∙ take_at l (replicate (24 - length l) 0) (length l) refl

-- m is the book's
pub good_book : (s : Sheet) (l : List ℕ) {t : Bool} → good_list s.m l ≡ t → good_list (book_of s).m l ≡ t
good_book s l g = ap (λ (m : ℕ). good_list m l) (book-m s) ∙ g

-- a batch on m instruments may have the list l, which stands in the row
pub record Fit (m : ℕ) (l row : List ℕ) : Type 0 where
  pub good : good_list m l ≡ true
  pub order : ascending l ≡ true
  pub entered : row ≡ padded 24 l

pub is-fit : (m : ℕ) (l : List ℕ) {row : List ℕ} → Ok row ≡ judged_list m l → Fit m l row
is-fit m l {row} q = from (good_list m l) (ascending l) refl refl q
  where
    from : (t u : Bool) → good_list m l ≡ t → ascending l ≡ u
        → Ok row ≡ pick t (pick u (Ok (padded 24 l)) (Err BadOrder)) (Err BadList) → Fit m l row
    from true true a b e = record { good = a; order = b; entered = cc }
    from true false a b e = cc
    from false u a b e = cc

-- or is refused for it
pub unfit-first : (s : Sheet) (l : List ℕ) {r : Refusal} (o : E.Edited) → Err r ≡ judged_list s.m l
    → refusal r s ≡ edited_as s (if_listed (book_of s).m l o)
unfit-first s l {r} o q =
    from (good_list s.m l) (ascending l) q
    ∙ ap (λ (m : ℕ). edited_as s (if_listed m l o)) (sym (book-m s))
  where
    from : (t u : Bool) → Err r ≡ pick t (pick u (Ok (padded 24 l)) (Err BadOrder)) (Err BadList)
        → refusal r s ≡ edited_as s (unless t bad_list (unless u bad_order o))
    from true true e = cc
    from true false e = ap (λ (a : Result Unit Refusal). left a s) (let f : r ≡ BadOrder = cc in rw f)
    from false u e = ap (λ (a : Result Unit Refusal). left a s) (let f : r ≡ BadList = cc in rw f)

-- batch number b, at the index i, may be edited
pub record Free (s : Sheet) (b i : ℕ) : Type 0 where
  pub number : leb 1 b and leb b s.n ≡ true
  pub waits : (batch (book_of s) b).started ≡ false
  pub at : i ≡ b - 1
  pub inside : i < s.n
  pub small : i < 200

module _ (s : Sheet) (v : Sound s) where
  -- ---- a batch that may not be edited

  -- batch number b as the arrays have it
  pub batch-is : (b : ℕ) → leb 1 b and leb b s.n ≡ true → batch (book_of s) b ≡ batch_at s (b - 1)
  batch-is b e =
      let r = in-range b s.n e in
      number-at (book_of s) b r.0 ∙ book-at s (b - 1) (omega arith)

  mark-is : (b : ℕ) → leb 1 b and leb b s.n ≡ true → (t : Bool) → (batch (book_of s) b).started ≡ t → get_or s.started (b - 1) 0 ≡ mark t
  mark-is b e t h =
      mark_of s v (b - 1) ∙ ap mark (ap (λ (c : Batch). c.started) (sym (number-at (book_of s) b (in-range b s.n e).0)) ∙ h)

  barred-none : (b : ℕ) → leb 1 b and leb b s.n ≡ false → barred s.started s.n b ≡ Err NoBatch
  barred-none b e = rw e

  barred-started : (b : ℕ) → leb 1 b and leb b s.n ≡ true → (batch (book_of s) b).started ≡ true
      → barred s.started s.n b ≡ Err HasStarted
  barred-started b e h = rw (e, mark-is b e true h)

  barred-free : (b : ℕ) → leb 1 b and leb b s.n ≡ true → (batch (book_of s) b).started ≡ false
      → barred s.started s.n b ≡ Ok (b - 1)
  barred-free b e h = rw (e, mark-is b e false h)

  -- refused for its number, or because it has started, before all else
  pub barred-first : (b : ℕ) {r : Refusal} (o : E.Edited) → Err r ≡ barred s.started s.n b
      → refusal r s ≡ edited_as s (if_waiting (book_of s) b o)
  barred-first b {r} o q =
      by_test (leb 1 b and leb b s.n)
      (λ t. by_test (batch (book_of s) b).started
      (λ u. let f : r ≡ HasStarted = let h = q ∙ barred-started b t u in cc in rw (is_number s b ∙ t, u, f))
      (λ u. let h = q ∙ barred-free b t u in cc))
      (λ t. let f : r ≡ NoBatch = let h = q ∙ barred-none b t in cc in rw (is_number s b ∙ t, f))

  -- or not refused yet
  pub is_free : (b : ℕ) {i : ℕ} → Ok i ≡ barred s.started s.n b → Free s b i
  is_free b {i} q =
      by_test (leb 1 b and leb b s.n)
      (λ t. by_test (batch (book_of s) b).started
      (λ u. let h = q ∙ barred-started b t u in cc)
      (λ u.
      let f : i ≡ b - 1 = let h = q ∙ barred-free b t u in cc in
      let n = index s v b t in
      record { number = t; waits = u; at = f; inside = rw f n.1; small = rw f n.2 }))
      (λ t. let h = q ∙ barred-none b t in cc)

  free-as : {b i : ℕ} (o : E.Edited) → Free s b i → edited_as s o ≡ edited_as s (if_waiting (book_of s) b o)
  free-as {b} {i} o f = rw (is_number s b ∙ f.number, f.waits)

  -- ---- withdraw

  pub withdraw-none : (b : ℕ) {r : Refusal} → Err r ≡ barred s.started s.n b → refusal r s ≡ edit_of s (withdraw b)
  unfolding edit_of edit
  withdraw-none b q = barred-first b _ q

  pub withdraw-done : (b : ℕ) {i : ℕ} (y : Sheet) → Free s b i → y ≡ removed s i → made y ≡ edit_of s (withdraw b)
  unfolding edit_of edit
  withdraw-done b y f u =
      let r = in-range b s.n f.number in
      let z = book-size s in
      let q : removed s (b - 1) ≡ sheet_of (with_batches (book_of s) (without (book_of s).batches (b - 1))) =
      ap (λ (t : Sheet). removed t (b - 1)) (sym v.arrays)
      ∙ remove-law (book_of s) (b - 1) (omega arith) (omega (arith, few-batches s v)) (narrow-book s v) in
      ap made (u ∙ ap (removed s) f.at ∙ q) ∙ free-as _ f

  -- ---- start

  pub start_none : (b : ℕ) {r : Refusal} → Err r ≡ barred s.started s.n b → refusal r s ≡ edit_of s (start b)
  unfolding edit_of edit
  start_none b q = barred-first b _ q

  pub start-done : (b : ℕ) {i : ℕ} → Free s b i → made (started_at s i) ≡ edit_of s (start b)
  unfolding edit_of edit
  start-done b f =
      let r = in-range b s.n f.number in
      let z = book-size s in
      let q : started_at s (b - 1) ≡ sheet_of (with_batch (book_of s) b (begun (batch (book_of s) b))) =
      ap (λ (t : Sheet). started_at t (b - 1)) (sym v.arrays)
      ∙ start-law (book_of s) (b - 1) (omega arith)
      ∙ ap (λ (c : Batch). sheet_of (with_batch (book_of s) b (begun c))) (sym (number-at (book_of s) b r.0)) in
      ap made (ap (started_at s) f.at ∙ q) ∙ free-as _ f

  -- ---- move

  pub move-none : (b p : ℕ) {r : Refusal} → Err r ≡ barred s.started s.n b → refusal r s ≡ edit_of s (move b p)
  unfolding edit_of edit
  move-none b p q = barred-first b _ q

  -- its list, by its index
  lists-as : {b i : ℕ} (p : ℕ) → Free s b i → mem p (batch (book_of s) b).list ≡ mem p (batch_at s i).list
  lists-as {b} {i} p f =
      ap (λ (c : Batch). mem p c.list) (batch-is b f.number ∙ ap (batch_at s) (sym f.at))

  pub move-strange : (b p : ℕ) {i : ℕ} → Free s b i → mem p (batch_at s i).list ≡ false → refusal BadPlace s ≡ edit_of s (move b p)
  unfolding edit_of edit
  move-strange b p f g = rw (← free-as _ f, lists-as p f ∙ g)

  pub move-done : (b p : ℕ) {i : ℕ} → Free s b i → mem p (batch_at s i).list ≡ true → made (replaced s i p) ≡ edit_of s (move b p)
  unfolding edit_of edit
  move-done b p f g =
      let r = in-range b s.n f.number in
      let z = book-size s in
      let q : replaced s (b - 1) p ≡ sheet_of (with_batch (book_of s) b (with_place (batch (book_of s) b) p)) =
      ap (λ (t : Sheet). replaced t (b - 1) p) (sym v.arrays)
      ∙ move-law (book_of s) (b - 1) p (omega arith)
      ∙ ap (λ (c : Batch). sheet_of (with_batch (book_of s) b (with_place c p))) (sym (number-at (book_of s) b r.0)) in
      rw (← free-as _ f, lists-as p f ∙ g) (ap made (ap (λ (j : ℕ). replaced s j p) f.at ∙ q))

  -- ---- requalify

  pub requalify-none : (b : ℕ) (l : List ℕ) {r : Refusal} → Err r ≡ barred s.started s.n b → refusal r s ≡ edit_of s (requalify b l)
  unfolding edit_of edit
  requalify-none b l q = barred-first b _ q

  pub requalify-unfit : (b : ℕ) (l : List ℕ) {i : ℕ} {r : Refusal} → Free s b i → Err r ≡ judged_list s.m l
      → refusal r s ≡ edit_of s (requalify b l)
  unfolding edit_of edit
  requalify-unfit b l f q = unfit-first s l _ q ∙ free-as _ f

  pub requalify-done : (b : ℕ) (l : List ℕ) {i : ℕ} {row : List ℕ} (y : Sheet) → Free s b i → Fit s.m l row →
      y ≡ requalified s i (kept (get_or s.places i 0) (take (length l) row)) (length l) row →
      made y ≡ edit_of s (requalify b l)
  unfolding edit_of edit
  requalify-done b l {i} {row} y f g u =
      let c = batch (book_of s) b in
      let r = in-range b s.n f.number in
      let z = book-size s in
      let d = g.entered in
      let w = row-front l row d in
      let p : kept (get_or s.places (b - 1) 0) (take (length l) row) ≡ kept c.place l =
      ap (kept (get_or s.places (b - 1) 0)) w ∙ ap (λ (x : Batch). kept x.place l) (sym (batch-is b f.number)) in
      let q : requalified s (b - 1) (kept c.place l) (length l) (padded 24 l)
      ≡ sheet_of (with_batch (book_of s) b (with_place (with_list c l) (kept c.place l))) =
      ap (λ (t : Sheet). requalified t (b - 1) (kept c.place l) (length l) (padded 24 l)) (sym v.arrays)
      ∙ requalify-law (book_of s) (b - 1) (kept c.place l) l (omega arith) (narrow-book s v)
      (omega (arith, few-instruments s v, (good-long s.m l g.good).1))
      ∙ ap (λ (x : Batch). sheet_of (with_batch (book_of s) b (with_place (with_list x l) (kept c.place l))))
      (sym (number-at (book_of s) b r.0)) in
      rw (← free-as _ f, good_book s l g.good, g.order)
      (ap made
      (u
      ∙ ap (λ (j : ℕ). requalified s j (kept (get_or s.places j 0) (take (length l) row)) (length l) row) f.at
      ∙ ap (λ (j : ℕ). requalified s (b - 1) j (length l) row) p
      ∙ ap (λ (j : List ℕ). requalified s (b - 1) (kept c.place l) (length l) j) d
      ∙ q))

  -- ---- add: a row without a place, and not started

  room : s.n < 200 → ltb (size (book_of s)) 200 ≡ true
  room h = let z = book-size s in lt-ltb (size (book_of s)) 200 (omega arith)

  pub add-full : (t : ℕ) (l : List ℕ) → 200 ≤ s.n → refusal SheetFull s ≡ edit_of s (add t l)
  unfolding edit_of edit
  add-full t l h = let z = book-size s in rw (le-ltb (size (book_of s)) 200 (omega arith))

  pub add_done : (t : ℕ) (l : List ℕ) → s.n < 200
      → edited_as s (with_row (book_of s) (record { minutes = t; place = 0; mark = 0; list = l })) ≡ edit_of s (add t l)
  unfolding edit_of
  add_done t l h = ap (edited_as s) (add_row (book_of s) t l (room h))
