-- A book as a sheet's arrays.
use Prim.Native.Nat.{ℕ, zero, suc, ◌+◌, ◌-◌, ◌*◌, ◌≤◌, ◌<◌}
use mathlib.Core.Path.{◌≡◌, refl, sym, ap, ◌∙◌}
use mathlib.Core.Bool.{Bool, true}
use mathlib.Core.List.{List, [], ◌∷◌, ◌++◌, map, append_assoc, append-nil}
use native.Mathlib.Omega.{arith}
use lib.ListN.{length, get_or, take, drop, replicate, length-append, length-map, get_or-map}
use lib.Seq.{take_all, take_at, take-suc, drop-append-add}
use lib.Dec.{leb}
use borrow.Author.Tests.{leb-true, le-leb}
use Rattle.rules.specs.Fold.{every}
use Rattle.rules.specs.Sheet.{Book, Batch, size, sound, no_batch_here, good_instruments, good_list, good_batch}
use Rattle.rules.specs.Edit.{with_batches}
use Rattle.rules.specs.Render.{mark}
use Rattle.theory.proofs.Logic.{and_left, and_right, and-mk}
use Rattle.theory.proofs.Format.{mark-test, good-calibrations-is}
use Rattle.theory.proofs.Sound.{sound-is, good-is}
use Rattle.sheet.specs.declared.Sheet.{Sheet}
use Rattle.sheet.specs.Represent.{padded, rows, sheet_of, batch_at, batches_to, book_of, Sound, appended}
use Rattle.theory.proofs.Entries.{get_d-zeros}
use Rattle.sheet.proofs.Padded.{length-padded, set-append, paste-append}

-- ---- rows of 24

-- a batch whose list fits a row
abbrev pub narrow : Batch → Bool
narrow b = leb (length b.list) 24

pub length-rows : (bs : List Batch) → every narrow bs ≡ true → length (rows bs) ≡ length bs * 24
unfolding every
length-rows [] e = refl
length-rows (b ∷ bs) e =
    let n = length-rows bs (and_right (narrow b) _ e) in
    let h = length-padded 24 b.list (leb-true _ _ (and_left _ _ e)) in
    omega (arith, length-append (padded 24 b.list) (rows bs))

pub rows_append : (bs cs : List Batch) → rows (bs ++ cs) ≡ rows bs ++ rows cs
rows_append [] cs = refl
rows_append (b ∷ bs) cs =
    ap (λ (r : List ℕ). padded 24 b.list ++ r) (rows_append bs cs) ∙ sym (append_assoc (padded 24 b.list) (rows bs) (rows cs))

pub map-append : (f : Batch → ℕ) (bs cs : List Batch) → map f (bs ++ cs) ≡ map f bs ++ map f cs
map-append f [] cs = refl
map-append f (b ∷ bs) cs = ap (λ (r : List ℕ). f b ∷ r) (map-append f bs cs)

-- ---- a batch's list found again

row_first : (l r z : List ℕ) → take (length l) ((padded 24 l ++ r) ++ z) ≡ l
row_first l r z =
    let o : List ℕ = replicate (24 - length l) 0 in
    ap (take (length l)) (append_assoc (l ++ o) r z ∙ append_assoc l o (r ++ z)) ∙ take_at l (o ++ (r ++ z)) (length l) refl

row_at : (bs : List Batch) (b : ℕ) (z : List ℕ) → every narrow bs ≡ true → b < length bs →
    take (length (get_or bs b no_batch_here).list) (drop (b * 24) (rows bs ++ z)) ≡ (get_or bs b no_batch_here).list
unfolding every
row_at [] b z e h = absurd (omega arith)
row_at (c ∷ bs) zero z e h = row_first c.list (rows bs) z
row_at (c ∷ bs) (suc b) z e h =
    let n = length-padded 24 c.list (leb-true _ _ (and_left _ _ e)) in
    let k : suc b * 24 ≡ length (padded 24 c.list) + b * 24 = omega arith in
    let p = padded 24 c.list in
    ap (take (length (get_or bs b no_batch_here).list))
    (ap (λ (j : ℕ). drop j ((p ++ rows bs) ++ z)) k
    ∙ ap (drop (length p + b * 24)) (append_assoc p (rows bs) z)
    ∙ drop-append-add p (rows bs ++ z) (b * 24))
    ∙ row_at bs b z (and_right (narrow c) _ e) (omega arith)

-- ---- the book of a book's sheet

-- an entry of one of the arrays of 200
pub entry-by : (f : Batch → ℕ) → f no_batch_here ≡ 0 → (bs : List Batch) (b : ℕ) →
    get_or (padded 200 (map f bs)) b 0 ≡ f (get_or bs b no_batch_here)
entry-by f z bs b =
    get_d-zeros (map f bs) (200 - length (map f bs)) b
    ∙ ap (get_or (map f bs) b) (sym z)
    ∙ get_or-map f bs b no_batch_here

batch-at : (k : Book) (b : ℕ) → every narrow k.batches ≡ true → b < size k →
    batch_at (sheet_of k) b ≡ get_or k.batches b no_batch_here
unfolding sheet_of
batch-at k b e h =
    let bs = k.batches in
    rw (
      entry-by (λ (c : Batch). c.minutes) refl bs b,
      entry-by (λ (c : Batch). c.place) refl bs b,
      entry-by (λ (c : Batch). mark c.started) refl bs b,
      mark-test (get_or bs b no_batch_here).started,
      entry-by (λ (c : Batch). length c.list) refl bs b,
      row_at bs b (replicate (4800 - length (rows bs)) 0) e h,
    )

batches-to : (s : Sheet) (bs : List Batch) (n : ℕ) → n ≤ length bs → ((b : ℕ) → b < length bs →
    batch_at s b ≡ get_or bs b no_batch_here) → batches_to s n ≡ take n bs
unfolding batches_to
batches-to s bs zero h f = refl
batches-to s bs (suc n) h f =
    rw (batches-to s bs n (omega arith) f, f n h) (sym (take-suc bs n no_batch_here h))

book-narrow : (k : Book) → length k.calibrations ≡ k.m → every narrow k.batches ≡ true → book_of (sheet_of k) ≡ k
unfolding book_of sheet_of batches_to
book-narrow k c e =
    let h : batches_to (sheet_of k) (size k) ≡ k.batches =
    batches-to (sheet_of k) k.batches (size k) (omega arith) (λ b l. batch-at k b e l) ∙ take_all (size k) k.batches (omega arith) in
    let l : take k.m (padded 24 k.calibrations) ≡ k.calibrations =
    take_at k.calibrations (replicate (24 - length k.calibrations) 0) k.m c in
    rw (h, l)

-- the lists of a sound book fit their rows
good-narrow : (m : ℕ) (bs : List Batch) → m ≤ 24 → every (good_batch m) bs ≡ true → every narrow bs ≡ true
unfolding every good_list
good-narrow m [] h e = refl
good-narrow m (b ∷ bs) h e =
    let g = good-is m b (and_left _ _ e) in
    let l : length b.list ≤ m = leb-true _ _ (and_left _ _ (and_right (leb 1 (length b.list)) _ g.list)) in
    and-mk _ _ (le-leb (length b.list) 24 (omega arith)) (good-narrow m bs h (and_right (good_batch m b) _ e))

pub sound-narrow : (k : Book) → sound k ≡ true → every narrow k.batches ≡ true
unfolding good_instruments
sound-narrow k v =
    let s = sound-is k v in
    good-narrow k.m k.batches (leb-true _ _ (and_right (leb 1 k.m) _ s.instruments)) s.batches

pub book-sheet : (k : Book) → sound k ≡ true → book_of (sheet_of k) ≡ k
book-sheet k v =
    book-narrow k (good-calibrations-is k.m k.calibrations (sound-is k v).calibrations).count (sound-narrow k v)

-- the sheet of a sound book is sound
pub sheet-sound : (k : Book) → sound k ≡ true → Sound (sheet_of k)
sheet-sound k v = record { book = rw (book-sheet k v) v; arrays = rw (book-sheet k v) }

-- ---- one batch more

pub append-law : (k : Book) (b : Batch) → size k < 200 → every narrow k.batches ≡ true → length b.list ≤ 24 →
    appended (sheet_of k) b.minutes b.place (mark b.started) (length b.list) (padded 24 b.list)
    ≡ sheet_of (with_batches k (k.batches ++ (b ∷ [])))
unfolding sheet_of
append-law k b h e l =
    let bs = k.batches in
    let c = b ∷ [] in
    let t = set-append 200 (map (λ (x : Batch). x.minutes) bs) (size k) b.minutes (length-map bs (λ (x : Batch). x.minutes)) h in
    let p = set-append 200 (map (λ (x : Batch). x.place) bs) (size k) b.place (length-map bs (λ (x : Batch). x.place)) h in
    let s = set-append 200 (map (λ (x : Batch). mark x.started) bs) (size k) (mark b.started) (length-map bs (λ (x : Batch). mark x.started)) h in
    let n = set-append 200 (map (λ (x : Batch). length x.list) bs) (size k) (length b.list)
    (length-map bs (λ (x : Batch). length x.list)) h in
    let r = paste-append 4800 (rows bs) (padded 24 b.list) (size k * 24) 24 (length-rows bs e)
    (length-padded 24 b.list l) (omega arith) in
    let z : rows (b ∷ []) ≡ padded 24 b.list = append-nil (padded 24 b.list) in
    let q : rows (bs ++ c) ≡ rows bs ++ padded 24 b.list = rows_append bs c ∙ ap (λ (x : List ℕ). rows bs ++ x) z in
    rw (
      t,
      p,
      s,
      n,
      r,
      length-append bs c,
      map-append (λ (x : Batch). x.minutes) bs c,
      map-append (λ (x : Batch). x.place) bs c,
      map-append (λ (x : Batch). mark x.started) bs c,
      map-append (λ (x : Batch). length x.list) bs c,
      q,
    )
