-- A row entered in a sound sheet, in its arrays: refused in the order of a batch line, or the batch is appended. And a sheet without one.
use Prim.Native.Nat.{ℕ, ◌-◌, ◌≤◌, ◌<◌}
use mathlib.Core.Path.{◌≡◌, sym, ap, ◌∙◌}
use mathlib.Core.Bool.{Bool, true, false, not}
use mathlib.Core.List.{List, [], ◌∷◌, ◌++◌}
use native.Mathlib.Omega.{arith}
use Rattle.std.specs.Prelude.{Ok, Err}
use lib.ListN.{length, get_or, take}
use lib.Dec.{leb, eqb}
use borrow.Author.Tests.{leb-true, le-leb, lt-leb}
use Rattle.rules.specs.Fold.{pick, ◌and◌, mem}
use Rattle.rules.specs.Sheet.{good_instruments, good_minutes, good_calibration, good_calibrations}
use Rattle.rules.specs.Read.{good_place}
use Rattle.rules.specs.Edit.{with_batches}
use Rattle.rules.specs.Render.{mark}
use Rattle.rules.specs.Worklist.{Row}
use Rattle.theory.proofs.Entries.{get_d-zeros}
use Rattle.theory.proofs.Member.{every-at}
use Rattle.theory.proofs.Format.{mark-said, good-list-is, good-calibrations-is}
use Rattle.theory.proofs.Worklist.{row_batch, with_row, given}
use Rattle.sheet.specs.declared.Sheet.{Sheet}
use Rattle.sheet.specs.declared.Refusal.TheVariants.{Malformed, BadLength, BadPlace}
use Rattle.sheet.specs.declared.Refusal.{Refusal}
use Rattle.sheet.specs.Represent.{padded, sheet_of, book_of, Sound, appended, empty}
use Rattle.sheet.specs.Answers.{edited_as, read_as}
use Rattle.sheet.proofs.Represent.{append-law}
use Rattle.sheet.proofs.Place.{taken, place-listed, place-taken}
use Rattle.sheet.proofs.SoundArrays.{book-size, few-instruments, narrow-book, good-long}
use Rattle.sheet.specs.Change.{judged_list}
use Rattle.sheet.proofs.Edits.{refusal, made, row-front, good_book, Fit, unfit-first}

module _ (s : Sheet) (v : Sound s) (w : Row) where
  pub row-length : leb 1 w.minutes and leb w.minutes 1440 ≡ false → refusal BadLength s ≡ edited_as s (with_row (book_of s) w)
  unfolding with_row good_minutes
  row-length e = rw e

  -- the length is good
  module _ (e : leb 1 w.minutes and leb w.minutes 1440 ≡ true) where
    pub row-mark : 1 < w.mark → refusal Malformed s ≡ edited_as s (with_row (book_of s) w)
    unfolding with_row good_minutes
    row-mark h = rw (e, lt-leb w.mark 1 h)

    -- and the mark
    module _ (a : w.mark ≤ 1) where
      pub row-unfit : {r : Refusal} → Err r ≡ judged_list s.m w.list → refusal r s ≡ edited_as s (with_row (book_of s) w)
      unfolding with_row good_minutes
      row-unfit q = rw (e, le-leb w.mark 1 a) (unfit-first s w.list _ q)

      -- and the list, which stands at the front of a row of 24
      module _ (row : List ℕ) (f : Fit s.m w.list row) (p : ℕ)
          (q : p ≡ pick (not (eqb w.mark 1) and eqb w.place 0) (get_or row 0 0) w.place) where
        d : row ≡ padded 24 w.list
        d = f.entered

        front : take (length w.list) row ≡ w.list
        front = row-front w.list row d

        chosen : p ≡ taken (eqb w.mark 1) w.place w.list
        chosen =
            q ∙ ap (λ (x : ℕ). pick (not (eqb w.mark 1) and eqb w.place 0) x w.place)
            (ap (λ (r : List ℕ). get_or r 0 0) d ∙ get_d-zeros w.list (24 - length w.list) 0)

        test : {t : Bool} → mem p (take (length w.list) row) ≡ t → good_place (eqb w.mark 1) w.place w.list ≡ t
        test h =
            place-listed (eqb w.mark 1) w.place w.list (good-long s.m w.list f.good).0
            ∙ ap (λ (x : ℕ). mem x w.list) (sym chosen) ∙ ap (mem p) (sym front) ∙ h

        pub row-place : mem p (take (length w.list) row) ≡ false → refusal BadPlace s ≡ edited_as s (with_row (book_of s) w)
        unfolding with_row good_minutes
        row-place h = rw (e, le-leb w.mark 1 a, good_book s w.list f.good, f.order, test h)

        pub row_done : (y : Sheet) → s.n < 200 → mem p (take (length w.list) row) ≡ true
            → y ≡ appended s w.minutes p w.mark (length w.list) row → made y ≡ edited_as s (with_row (book_of s) w)
        unfolding with_row good_minutes
        row_done y n h u =
            let z = book-size s in
            let b = row_batch w in
            let o : p ≡ b.place = chosen ∙ place-taken (eqb w.mark 1) s.m w.place w.list (good-list-is s.m w.list f.good).ranged (test h) in
            let c : appended s w.minutes b.place w.mark (length w.list) (padded 24 w.list)
            ≡ sheet_of (with_batches (book_of s) ((book_of s).batches ++ (b ∷ []))) =
            ap (λ (i : ℕ). appended s w.minutes b.place i (length w.list) (padded 24 w.list)) (sym (mark-said w.mark a))
            ∙ ap (λ (x : Sheet). appended x w.minutes b.place (mark (eqb w.mark 1)) (length w.list) (padded 24 w.list)) (sym v.arrays)
            ∙ append-law (book_of s) b (omega arith) (narrow-book s v) (omega (arith, few-instruments s v, (good-long s.m w.list f.good).1)) in
            rw (e, le-leb w.mark 1 a, good_book s w.list f.good, f.order, test h)
            (ap made
            (u ∙ ap (λ (i : ℕ). appended s w.minutes i w.mark (length w.list) row) o
            ∙ ap (λ (i : List ℕ). appended s w.minutes b.place w.mark (length w.list) i) d
            ∙ c))

-- ---- a sheet without a batch

-- calibrations that are good fit a row of bytes
pub calibrations-fit : (m : ℕ) (l : List ℕ) → m ≤ 24 → good_calibrations m l ≡ true → (length l ≤ 24) × ((i : ℕ) → i < length l → get_or l i 0 < 256)
unfolding good_calibration
calibrations-fit m l h e =
    let g = good-calibrations-is m l e in
    (omega (arith, g.count), λ i u. omega (arith, leb-true (get_or l i 0) 240 (every-at good_calibration l 0 i g.each u)))

-- the arrays of a book without a batch
pub bare-is : (m : ℕ) (l : List ℕ) → good_instruments m ≡ true → good_calibrations m l ≡ true
    → read_as (given m l) ≡ Ok (empty m (padded 24 l))
unfolding given sheet_of
bare-is m l a b = rw (a, b)
