-- What a sound sheet's arrays hold, for those who read them.
use Prim.Native.Nat.{ℕ, zero, suc, ◌+◌, ◌*◌, ◌≤◌, ◌<◌}
use mathlib.Core.Path.{◌≡◌, refl, sym, ap, ◌∙◌}
use mathlib.Core.List.{List, [], ◌∷◌, ◌++◌, append_assoc, map}
use native.Mathlib.Omega.{arith}
use lib.ListN.{length, get_or, take, drop}
use lib.Seq.{take_at, drop-append-add}
use lib.Dec.{leb}
use borrow.Author.Tests.{leb-true}
use Rattle.rules.specs.Fold.{at}
use Rattle.rules.specs.Sheet.{Book, Batch, size, batch, no_batch_here, good_instruments}
use Rattle.rules.specs.Instance.{Assignment, qualified, instance, places}
use Rattle.rules.specs.Marks.{marks_of}
use Rattle.rules.specs.Render.{mark}
use Rattle.rules.specs.Run.{with_places}
use Rattle.theory.proofs.Small.{Small}
use Rattle.theory.proofs.Logic.{and_left, and_right}
use Rattle.theory.proofs.Valid.{Valid, Permitted}
use Rattle.theory.proofs.Marks.{length-marks}
use Rattle.theory.proofs.Format.{good-calibrations-is}
use Rattle.theory.proofs.Sound.{sound-is}
use Rattle.theory.proofs.Jobs.{sound-valid, sound-permitted, placed-sound}
use Rattle.theory.proofs.Limits.{sound-small}
use Rattle.sheet.specs.declared.Sheet.{Sheet}
use Rattle.sheet.specs.Represent.{padded, rows, sheet_of, book_of, Sound}
use Rattle.sheet.specs.View.{mark_rows}
use Rattle.sheet.proofs.Represent.{entry-by, book-sheet, sheet-sound}

-- ---- the arrays

calibrations-law : (k : Book) → (sheet_of k).calibrations ≡ padded 24 k.calibrations
unfolding sheet_of
calibrations-law k = refl

minutes-law : (k : Book) → (sheet_of k).minutes ≡ padded 200 (map (λ (b : Batch). b.minutes) k.batches)
unfolding sheet_of
minutes-law k = refl

places-law : (k : Book) → (sheet_of k).places ≡ padded 200 (map (λ (b : Batch). b.place) k.batches)
unfolding sheet_of
places-law k = refl

pub view-calibrations : (s : Sheet) → Sound s → s.calibrations ≡ padded 24 (book_of s).calibrations
view-calibrations s v = ap (λ (t : Sheet). t.calibrations) (sym v.arrays) ∙ calibrations-law (book_of s)

pub view-minutes : (s : Sheet) → Sound s → s.minutes ≡ padded 200 (map (λ (b : Batch). b.minutes) (book_of s).batches)
view-minutes s v = ap (λ (t : Sheet). t.minutes) (sym v.arrays) ∙ minutes-law (book_of s)

pub view_places : (s : Sheet) → Sound s → s.places ≡ padded 200 (map (λ (b : Batch). b.place) (book_of s).batches)
view_places s v = ap (λ (t : Sheet). t.places) (sym v.arrays) ∙ places-law (book_of s)

started-law : (k : Book) → (sheet_of k).started ≡ padded 200 (map (λ (b : Batch). mark b.started) k.batches)
unfolding sheet_of
started-law k = refl

pub view-started : (s : Sheet) → Sound s → s.started ≡ padded 200 (map (λ (b : Batch). mark b.started) (book_of s).batches)
view-started s v = ap (λ (t : Sheet). t.started) (sym v.arrays) ∙ started-law (book_of s)

counts-law : (k : Book) → (sheet_of k).counts ≡ padded 200 (map (λ (b : Batch). length b.list) k.batches)
unfolding sheet_of
counts-law k = refl

rows-law : (k : Book) → (sheet_of k).lists ≡ padded 4800 (rows k.batches)
unfolding sheet_of
rows-law k = refl

pub view-counts : (s : Sheet) → Sound s → s.counts ≡ padded 200 (map (λ (b : Batch). length b.list) (book_of s).batches)
view-counts s v = ap (λ (t : Sheet). t.counts) (sym v.arrays) ∙ counts-law (book_of s)

pub view-rows : (s : Sheet) → Sound s → s.lists ≡ padded 4800 (rows (book_of s).batches)
view-rows s v = ap (λ (t : Sheet). t.lists) (sym v.arrays) ∙ rows-law (book_of s)

-- the minutes of batch number b
pub minutes-at : (k : Book) (b : ℕ) → at (padded 200 (map (λ (c : Batch). c.minutes) k.batches)) b ≡ (batch k b).minutes
minutes-at k zero = refl
minutes-at k (suc b) = entry-by (λ (c : Batch). c.minutes) refl k.batches b

-- ---- the marks

-- the row of the batch at index b, whatever follows the rows
pub marks-row : (bs : List Batch) (r : List ℕ) (b : ℕ) → b < length bs →
    take 24 (drop (b * 24) (mark_rows bs ++ r)) ≡ marks_of (qualified (get_or bs b no_batch_here))
unfolding mark_rows
marks-row [] r b h = absurd (omega arith)
marks-row (c ∷ bs) r zero h = rw append_assoc (take_at (marks_of (qualified c)) (mark_rows bs ++ r) 24 (length-marks (qualified c)))
marks-row (c ∷ bs) r (suc b) h =
    let e : suc b * 24 ≡ length (marks_of (qualified c)) + b * 24 = omega (arith, length-marks (qualified c)) in
    rw (append_assoc, e, drop-append-add) (marks-row bs r b (omega arith))

-- ---- the limits

module _ (s : Sheet) (v : Sound s) where
  pub view-instruments : (1 ≤ (book_of s).m) × ((book_of s).m ≤ 24)
  unfolding good_instruments
  view-instruments =
      let g = (sound-is (book_of s) v.book).instruments in
      (leb-true _ _ (and_left _ _ g), leb-true _ _ (and_right (leb 1 (book_of s).m) _ g))

  pub view-batches : size (book_of s) ≤ 200
  view-batches = (sound-is (book_of s) v.book).room

  pub view-calibrated : length (book_of s).calibrations ≡ (book_of s).m
  view-calibrated = (good-calibrations-is _ _ (sound-is (book_of s) v.book).calibrations).count

  pub view-valid : Valid (instance (book_of s))
  view-valid = sound-valid (book_of s) v.book

  pub view-permitted : Permitted (instance (book_of s)) (places (book_of s))
  view-permitted = sound-permitted (book_of s) v.book

  pub view-small : Small (instance (book_of s))
  view-small = sound-small (book_of s) v.book

  -- other places, each on its batch's list: the sheet is sound, and its book has them
  pub view-placed : (x : Assignment) → Permitted (instance (book_of s)) x → Sound (sheet_of (with_places (book_of s) x))
  view-placed x w = sheet-sound (with_places (book_of s) x) (placed-sound (book_of s) x v.book w)

  pub view-placed-book : (x : Assignment) → Permitted (instance (book_of s)) x →
      book_of (sheet_of (with_places (book_of s) x)) ≡ with_places (book_of s) x
  view-placed-book x w = book-sheet (with_places (book_of s) x) (placed-sound (book_of s) x v.book w)
