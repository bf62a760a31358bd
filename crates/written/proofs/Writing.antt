-- The file of a sound sheet, from its arrays.
use Prim.Native.Nat.{ℕ, zero, suc, ◌+◌, ◌*◌, ◌≤◌, ◌<◌}
use mathlib.Core.Path.{◌≡◌, refl, sym, ap, ◌∙◌}
use mathlib.Core.Bool.{true}
use Rattle.std.proofs.Common.{Ok}
use mathlib.Core.List.{List, [], ◌∷◌, ◌++◌, map, append_assoc, append-nil, map-append}
use native.Mathlib.Omega.{arith}
use lib.ListN.{length, get_or, take, drop, length-append, length-map}
use lib.Seq.{paste}
use Rattle.std.specs.List.{All, AllByRecursion}
use Rattle.std.proofs.lemmas.List.Elements.{All-from_recursion}
use borrow.Author.Tests.{leb-true}
use Rattle.rules.specs.Fold.{every}
use Rattle.rules.specs.Sheet.{Book, Batch, size, good_calibration}
use Rattle.theory.proofs.Format.{good-calibrations-is}
use Rattle.theory.proofs.Sound.{sound-is}
use Rattle.theory.proofs.Logic.{and_left, and_right}
use Rattle.rules.specs.Render.{line, mark, Described, render_batch, render_batches, render, described_batch}
use Rattle.rules.specs.Read.{read}
use Rattle.rules.specs.Rewrite.{written}
use Rattle.theory.proofs.Fields.{line-length}
use Rattle.theory.proofs.Rewrite.{read-written}
use Rattle.sheet.specs.declared.Sheet.{Sheet}
use Rattle.sheet.specs.Answers.{read_as}
use Rattle.sheet.specs.Represent.{padded, rows, batch_at, batches_to, book_of, Sound}
use Rattle.sheet.proofs.SoundArrays.{book-m, book-size, few-batches, narrow-book, list-size, mark-small}
use Rattle.sheet.proofs.Padded.{length-padded}
use Rattle.sheet.proofs.Represent.{length-rows}
use Rattle.sheet.proofs.SoundViews.{view-instruments, view-batches, view-calibrated, view-calibrations}
use Rattle.sheet.proofs.SoundViews.{view-minutes, view_places, view-started, view-counts, view-rows}
use Rattle.text.proofs.Pasted.{wrote-more, wrote-start, start-wrote}
use Rattle.written.specs.Lines.{batch_lines}
use Rattle.written.proofs.Lines.{Rows, lines_to, bytes_to, lines-length}

-- one more batch behind others
batches-snoc : (bs : List Described) (b : Described) → render_batches (bs ++ (b ∷ [])) ≡ render_batches bs ++ render_batch b
unfolding render_batches
batches-snoc [] b = append-nil (render_batch b)
batches-snoc (c ∷ bs) b =
    ap (λ (r : List ℕ). render_batch c ++ r) (batches-snoc bs b) ∙ sym (append_assoc (render_batch c) (render_batches bs) (render_batch b))

lines_are : (s : Sheet) (b : ℕ)
    → render_batches (map described_batch (batches_to s b)) ≡ lines_to s.minutes s.places s.started s.counts s.lists b
unfolding batches_to lines_to render_batches
lines_are s zero = refl
lines_are s (suc b) =
    ap render_batches (map-append described_batch (batches_to s b) (batch_at s b ∷ []))
    ∙ batches-snoc (map described_batch (batches_to s b)) (described_batch (batch_at s b))
    ∙ ap (λ (r : List ℕ). r ++ render_batch (described_batch (batch_at s b))) (lines_are s b)

-- the lines of a sheet's batches, from its arrays
batch-lines : (s : Sheet) → batch_lines (book_of s) ≡ lines_to s.minutes s.places s.started s.counts s.lists s.n
unfolding book_of
batch-lines s = lines_are s s.n

-- ---- what the code takes of a sound sheet, and what it makes of it

-- the arrays of a sheet's n batches: what each line needs, and what all of them are
pub record Held (s : Sheet) (n : ℕ) (t p o k l : List ℕ) : Type 0 where
  pub each : Rows k l n
  pub marks : (b : ℕ) → get_or o b 0 ≤ 1
  pub lines : batch_lines (book_of s) ≡ lines_to t p o k l n
  pub bytes : length (batch_lines (book_of s)) ≡ bytes_to k n

-- calibrations within the limits have six columns at most
small : (l : List ℕ) → every good_calibration l ≡ true → AllByRecursion (λ x. (n : ℕ) → n ≡ x → n < 1000000) l
unfolding every good_calibration
small [] e = tt
small (x ∷ l) e =
    let t = leb-true x 240 (and_left _ _ e) in
    (λ n f. omega arith, small l (and_right (good_calibration x) _ e))

module _ (s : Sheet) (v : Sound s) where
  sheet-rows : Rows s.counts s.lists s.n
  sheet-rows = record {
    counted = omega (arith, few-batches s v, counts-long);
    narrow = λ b h. (list-size s v b h).1;
    long = omega (arith, few-batches s v, lists-long);
  }
    where
      counts-long : length s.counts ≡ 200
      counts-long =
          ap length (view-counts s v)
          ∙ length-padded 200 (map (λ (b : Batch). length b.list) (book_of s).batches)
          (omega (arith, length-map (book_of s).batches (λ (b : Batch). length b.list), book-size s, few-batches s v))

      lists-long : length s.lists ≡ 4800
      lists-long =
          ap length (view-rows s v)
          ∙ length-padded 4800 (rows (book_of s).batches)
          (omega (arith, length-rows (book_of s).batches (narrow-book s v), book-size s, few-batches s v))

  batch-bytes : length (batch_lines (book_of s)) ≡ bytes_to s.counts s.n
  batch-bytes =
      ap length (batch-lines s) ∙ lines-length s.minutes s.places s.started s.n sheet-rows (omega arith)

  pub held : (n : ℕ) (t p o k l : List ℕ) → n ≡ size (book_of s)
      → t ≡ padded 200 (map (λ (b : Batch). b.minutes) (book_of s).batches) → p ≡ padded 200 (map (λ (b : Batch). b.place) (book_of s).batches)
      → o ≡ padded 200 (map (λ (b : Batch). mark b.started) (book_of s).batches)
      → k ≡ padded 200 (map (λ (b : Batch). length b.list) (book_of s).batches) → l ≡ padded 4800 (rows (book_of s).batches)
      → Held s n t p o k l
  held n t p o k l a d e u f h =
      rw (
        a ∙ book-size s,
        d ∙ sym (view-minutes s v),
        e ∙ sym (view_places s v),
        u ∙ sym (view-started s v),
        f ∙ sym (view-counts s v),
        h ∙ sym (view-rows s v),
      )
      (record { each = sheet-rows; marks = mark-small s v; lines = batch-lines s; bytes = batch-bytes })

  -- how many bytes the lines have, from the counts
  pub lines-bytes : (n : ℕ) (k : List ℕ) → n ≡ size (book_of s) → k ≡ padded 200 (map (λ (b : Batch). length b.list) (book_of s).batches)
      → length (batch_lines (book_of s)) ≡ bytes_to k n
  lines-bytes n k a f = rw (a ∙ book-size s, f ∙ sym (view-counts s v)) batch-bytes

  -- the calibrations in an array of 24
  pub calibrations-in : (m : ℕ) (g : List ℕ) → m ≡ (book_of s).m → g ≡ padded 24 (book_of s).calibrations → take m g ≡ (book_of s).calibrations
  unfolding book_of
  calibrations-in m g a q = rw (a ∙ book-m s, q ∙ sym (view-calibrations s v)) refl

  -- none of them has more than six columns
  pub calibrations-small : (m : ℕ) (g : List ℕ) → m ≡ (book_of s).m → g ≡ padded 24 (book_of s).calibrations
      → All (λ x. (n : ℕ) → n ≡ x → n < 1000000) (take m g)
  calibrations-small m g a q =
      let good = good-calibrations-is _ _ (sound-is (book_of s) v.book).calibrations in
      rw (calibrations-in m g a q) (All-from_recursion _ (book_of s).calibrations (small (book_of s).calibrations good.each))

-- ---- the file of a book

written-parts : (k : Book) → written k ≡ line (k.m ∷ size k ∷ []) ++ (line k.calibrations ++ batch_lines k)
unfolding written render
written-parts k = rw (length-map k.batches described_batch) refl

pub written-length : (k : Book) → length k.calibrations ≡ k.m → length (written k) ≡ 6 * k.m + 14 + length (batch_lines k)
written-length k h =
    let head = line (k.m ∷ size k ∷ []) in
    let l = line k.calibrations in
    ap length (written-parts k)
    ∙ omega (
      arith,
      length-append head (l ++ batch_lines k),
      length-append l (batch_lines k),
      line-length (k.m ∷ size k ∷ []),
      line-length k.calibrations,
    )

-- behind line 1 line 2, and behind that all batch lines
pub file-wrote : (k : Book) (d e f g : List ℕ) → length k.calibrations ≡ k.m → length (written k) ≤ length d
    → e ≡ line (k.m ∷ size k ∷ []) ++ drop 13 d → f ≡ paste e 13 (line k.calibrations) (6 * length k.calibrations + 1)
    → g ≡ paste f (6 * k.m + 14) (batch_lines k) (length (batch_lines k))
    → g ≡ written k ++ drop (length (written k)) d
file-wrote k d e f g h room p q t =
    let head = line (k.m ∷ size k ∷ []) in
    let l = line k.calibrations in
    let n = written-length k h in
    let one = start-wrote {d = d} {s = head} {e = e} (line-length (k.m ∷ size k ∷ [])) (omega arith) p in
    let two = wrote-more l 13 (6 * length k.calibrations + 1) (6 * k.m + 14) one refl (omega arith) (line-length k.calibrations) (omega arith) q in
    wrote-start
    (wrote-more (batch_lines k) (6 * k.m + 14) (length (batch_lines k)) (length (written k)) two (omega arith) n refl (omega arith) t)
    (append_assoc head l (batch_lines k) ∙ sym (written-parts k))

-- ---- the file

-- no more instruments and batches than a sheet may have
pub few_instruments : (s : Sheet) → Sound s → (book_of s).m ≤ 24
few_instruments s v = (view-instruments s v).1

pub few_batches : (s : Sheet) → Sound s → size (book_of s) ≤ 200
few_batches s v = view-batches s v

-- how many bytes the file has, from what the code has of a sound sheet
pub file-length : (s : Sheet) → Sound s → (m n b : ℕ) (k : List ℕ) → m ≡ (book_of s).m → n ≡ size (book_of s)
    → k ≡ padded 200 (map (λ (b : Batch). length b.list) (book_of s).batches) → b ≡ bytes_to k n
    → (length (written (book_of s)) ≡ 6 * m + 14 + b) × (length (batch_lines (book_of s)) ≡ b)
file-length s v m n b k e f g h =
    let lines = lines-bytes s v n k f g in
    (omega (arith, written-length (book_of s) (view-calibrated s v), e, h, lines), lines ∙ sym h)

-- ---- and read again: the very same sheet

pub read_back : (s : Sheet) → Sound s → read_as (read (written (book_of s))) ≡ Ok s
read_back s v = ap read_as (read-written (book_of s) v.book) ∙ ap Ok v.arrays
