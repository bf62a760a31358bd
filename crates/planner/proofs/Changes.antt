-- The records that lead from a sheet's places to those of the sheet that balance or settle leaves.
use Prim.Native.Nat.{ℕ, zero, suc, ◌-◌, ◌≤◌}
use mathlib.Core.Path.{◌≡◌, refl, sym, ap, ◌∙◌}
use mathlib.Core.List.{List, map, map-append}
use native.Mathlib.Omega.{arith}
use lib.ListN.{length, get_or, take, length-map, get_or-append}
use lib.Seq.{get_or-take}
use Rattle.rules.specs.Fold.{at}
use Rattle.rules.specs.Sheet.{Book, Batch, size}
use Rattle.rules.specs.Instance.{Assignment, calibrations_to, instance, places}
use Rattle.rules.specs.Moves.{records}
use Rattle.rules.specs.Run.{with_places, records_to, balance_book, settle_book}
use Rattle.theory.proofs.Entries.{get_d-zeros}
use Rattle.theory.proofs.Valid.{Permitted}
use Rattle.theory.proofs.Records.{records-ext}
use Rattle.theory.proofs.Jobs.{batches-first, placed_at}
use Rattle.theory.proofs.Planning.{balanced-permitted, rested-permitted}
use Rattle.sheet.specs.declared.Sheet.{Sheet}
use Rattle.sheet.specs.Represent.{Sound, padded, sheet_of, book_of}
use Rattle.sheet.proofs.SoundViews.{view-valid, view-permitted, view-placed-book}
use Rattle.planner.specs.declared.Balanced.{Balanced}
use Rattle.planner.specs.declared.Settled.{Settled}
use Rattle.planner.specs.Calls.{balance_of, settle_of}

-- an array that is longer than what it holds
pub at-padded : (w : ℕ) (l : List ℕ) (b : ℕ) → at (padded w l) b ≡ at l b
at-padded w l zero = refl
at-padded w l (suc b) = get_d-zeros l (w - length l) b

-- the places of a book's batches are the first of its places
pub front-places : (k : Book) (b : ℕ) → b ≤ size k → at (map (λ (c : Batch). c.place) k.batches) b ≡ at (places k) b
front-places k zero h = refl
front-places k (suc b) h =
    let p = map (λ (c : Batch). c.place) k.batches in
    let q = map (λ (c : Batch). c.place) (calibrations_to k.calibrations k.m) in
    sym (ap (λ (l : List ℕ). get_or l b 0) (map-append (λ (c : Batch). c.place) k.batches (calibrations_to k.calibrations k.m))
    ∙ get_or-append p q 0 b (omega (arith, length-map k.batches (λ (c : Batch). c.place))))

pub at_front : (c : ℕ) (x : List ℕ) (b : ℕ) → b ≤ c → at (take c x) b ≡ at x b
at_front c x zero h = refl
at_front c x (suc b) h = get_or-take c x b 0 h

-- a sheet's array of places
abbrev pub places_in : Sheet → List ℕ
places_in s = padded 200 (map (λ (b : Batch). b.place) (book_of s).batches)

module _ (s : Sheet) (v : Sound s) where
  -- from the arrays of s and of the sheet with the places of x
  placed-change : (x : Assignment) → Permitted (instance (book_of s)) x → (t : Sheet) → t ≡ sheet_of (with_places (book_of s) x)
      → (c : ℕ) (old new : List ℕ) → c ≡ size (book_of s) → old ≡ places_in s → new ≡ places_in t
      → records c old new ≡ records_to (book_of s) x
  placed-change x w t e c old new f g h =
      let k = book_of s in
      let there : new ≡ padded 200 (take (size k) x) =
      h ∙ ap places_in e
      ∙ ap (λ (j : Book). padded 200 (map (λ (b : Batch). b.place) j.batches)) (view-placed-book s v x w)
      ∙ ap (padded 200) (placed_at k.batches x (omega (arith, w.size, batches-first k))) in
      rw (f, g, there)
      (records-ext _ _ _ _ _
      (λ b l u. at-padded 200 _ b ∙ front-places k b u)
      (λ b l u. at-padded 200 (take (size k) x) b ∙ at_front (size k) x b u))

  pub balance-change : (b : Balanced) → b ≡ balance_of (book_of s)
      → (c : ℕ) (old new : List ℕ) → c ≡ size (book_of s) → old ≡ places_in s → new ≡ places_in b.sheet
      → records c old new ≡ records_to (book_of s) (balance_book (book_of s)).assignment
  unfolding balance_of
  balance-change b e =
      placed-change _ (balanced-permitted (instance (book_of s)) (places (book_of s)) (view-valid s v) (view-permitted s v)) b.sheet
      (ap (λ (r : Balanced). r.sheet) e)

  pub settle-change : (z : Settled) → z ≡ settle_of (book_of s)
      → (c : ℕ) (old new : List ℕ) → c ≡ size (book_of s) → old ≡ places_in s → new ≡ places_in z.sheet
      → records c old new ≡ records_to (book_of s) (settle_book (book_of s)).assignment
  unfolding settle_of
  settle-change z e =
      placed-change _ (rested-permitted (view-valid s v) (view-permitted s v)) z.sheet (ap (λ (r : Settled). r.sheet) e)
