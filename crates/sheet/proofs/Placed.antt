-- A sheet with other places.
use Prim.Native.Nat.{ℕ, zero, suc, ◌+◌, ◌-◌, ◌≤◌, ◌<◌}
use mathlib.Core.Path.{◌≡◌, refl, sym, ap, ◌∙◌}
use mathlib.Core.Bool.{true, false}
use mathlib.Core.List.{List, [], ◌∷◌, ◌++◌, map}
use native.Mathlib.Omega.{arith}
use lib.ListN.{length, get_or, set, take, replicate, length-map, length-take}
use lib.Seq.{paste, take_all, take-suc, get_or-take}
use Rattle.rules.specs.Fold.{at, mem, list_to}
use Rattle.rules.specs.Sheet.{Book, Batch, size, batch, no_batch_here}
use Rattle.rules.specs.Edit.{kept}
use Rattle.rules.specs.Instance.{Assignment, qualified, instance}
use Rattle.rules.specs.Render.{mark}
use Rattle.rules.specs.Run.{place_all, with_places}
use Rattle.theory.proofs.Valid.{Permitted}
use Rattle.theory.proofs.Sound.{good-some, kept-listed}
use Rattle.theory.proofs.Items.{started-qualified, qualified-some}
use Rattle.theory.proofs.Jobs.{batches-first, placed_at, front-placed, batches-fit, fit-sound}
use Rattle.sheet.specs.declared.Sheet.{Sheet}
use Rattle.sheet.specs.Represent.{padded, rows, sheet_of, batch_at, book_of, Sound}
use Rattle.sheet.specs.View.{kept_places}
use Rattle.sheet.proofs.Padded.{paste-at}
use Rattle.sheet.proofs.Represent.{sheet-sound}
use Rattle.sheet.proofs.SoundArrays.{book-size, book-at, list_at, good-index}
use Rattle.theory.proofs.Enter.{Entered, entered-step, entered-skip, entered-end}
use Rattle.theory.proofs.Entries.{length-list_to, get_d-list_to}

-- ---- what the places do not touch

placed-count : (bs : List Batch) (x : Assignment) → length (place_all bs x) ≡ length bs
placed-count [] x = refl
placed-count (b ∷ bs) [] = refl
placed-count (b ∷ bs) (p ∷ x) = omega (arith, placed-count bs x)

placed-minutes : (bs : List Batch) (x : Assignment) →
    map (λ (b : Batch). b.minutes) (place_all bs x) ≡ map (λ (b : Batch). b.minutes) bs
placed-minutes [] x = refl
placed-minutes (b ∷ bs) [] = refl
placed-minutes (b ∷ bs) (p ∷ x) = ap (λ (r : List ℕ). b.minutes ∷ r) (placed-minutes bs x)

placed-started : (bs : List Batch) (x : Assignment) →
    map (λ (b : Batch). mark b.started) (place_all bs x) ≡ map (λ (b : Batch). mark b.started) bs
placed-started [] x = refl
placed-started (b ∷ bs) [] = refl
placed-started (b ∷ bs) (p ∷ x) = ap (λ (r : List ℕ). mark b.started ∷ r) (placed-started bs x)

placed-counts : (bs : List Batch) (x : Assignment) →
    map (λ (b : Batch). length b.list) (place_all bs x) ≡ map (λ (b : Batch). length b.list) bs
placed-counts [] x = refl
placed-counts (b ∷ bs) [] = refl
placed-counts (b ∷ bs) (p ∷ x) = ap (λ (r : List ℕ). length b.list ∷ r) (placed-counts bs x)

placed-rows : (bs : List Batch) (x : Assignment) → rows (place_all bs x) ≡ rows bs
placed-rows [] x = refl
placed-rows (b ∷ bs) [] = refl
placed-rows (b ∷ bs) (p ∷ x) = ap (λ (r : List ℕ). padded 24 b.list ++ r) (placed-rows bs x)

-- ---- the places

-- x over all of l, which zeros follow
paste-front : (w : ℕ) (l x : List ℕ) (k : ℕ) → length l ≡ k → length x ≡ k → paste (padded w l) 0 x k ≡ padded w x
paste-front w l x k e f =
    let h : w - length l ≡ w - length x = omega arith in
    paste-at [] l (replicate (w - length l) 0) x 0 k refl e f ∙ ap (λ (j : ℕ). x ++ replicate j 0) h

-- the sheet with the places p in its array
abbrev pub placing : Sheet → List ℕ → Sheet
placing s p = record {
  m = s.m;
  n = s.n;
  calibrations = s.calibrations;
  minutes = s.minutes;
  places = p;
  started = s.started;
  counts = s.counts;
  lists = s.lists;
}

place-law : (k : Book) (x : Assignment) → length x ≡ size k →
    placing (sheet_of k) (paste (sheet_of k).places 0 x (size k)) ≡ sheet_of (with_places k x)
unfolding sheet_of
place-law k x h =
    let bs = k.batches in
    rw (
      paste-front 200 (map (λ (b : Batch). b.place) bs) x (size k) (length-map bs (λ (b : Batch). b.place)) h,
      placed-count bs x,
      placed-minutes bs x,
      placed-started bs x,
      placed-counts bs x,
      placed-rows bs x,
      placed_at bs x (omega arith),
      take_all (length bs) x (omega arith),
    )

-- ---- the places kept

kept-size : (k : Book) (x : List ℕ) → length (kept_places k x) ≡ size k
unfolding kept_places
kept-size k x = length-list_to (size k) (λ b. kept (at x b) (qualified (batch k b)))

kept_at : (k : Book) (x : List ℕ) (b : ℕ) → b < size k →
    get_or (kept_places k x) b 0 ≡ kept (get_or x b 0) (qualified (get_or k.batches b no_batch_here))
unfolding kept_places
kept_at k x b h = get_d-list_to (size k) (λ b. kept (at x b) (qualified (batch k b))) b h

-- one batch more has its place
pub kept_step : (s : Sheet) (x : List ℕ) {a : List ℕ} {b : ℕ} (p : ℕ) →
    Entered s.places 0 (kept_places (book_of s) x) s.n a b → s.n ≤ length s.places → b < s.n →
    (get_or (book_of s).batches b no_batch_here).started ≡ false → p ≡ kept (get_or x b 0) (batch_at s b).list →
    Entered s.places 0 (kept_places (book_of s) x) s.n (set a b p) (b + 1)
kept_step s x {a} {b} p e h g t q =
    let k = book_of s in
    let f : p ≡ get_or (kept_places k x) b 0 =
    rw (kept_at k x b (omega (arith, book-size s)), t) (q ∙ ap (kept (get_or x b 0)) (sym (list_at s b g))) in
    let z : 0 + b ≡ b = omega arith in
    rw f (rw z at (entered-step e (omega arith) (omega (arith, kept-size k x, book-size s)) g))

-- a started one has it already
pub kept-skip : (s : Sheet) (x : List ℕ) {a : List ℕ} {b : ℕ} →
    Entered s.places 0 (kept_places (book_of s) x) s.n a b → s.n ≤ length s.places → b < s.n →
    (get_or (book_of s).batches b no_batch_here).started ≡ true →
    Entered s.places 0 (kept_places (book_of s) x) s.n a (b + 1)
kept-skip s x {a} {b} e h g t =
    let k = book_of s in
    let z : 0 + b ≡ b = omega arith in
    let c = get_or k.batches b no_batch_here in
    let l : mem (kept (get_or x b 0) (qualified c)) (qualified c) ≡ true = kept-listed (get_or x b 0) (qualified c) (rw t (omega arith)) in
    let q : get_or (kept_places k x) b 0 ≡ get_or s.places (0 + b) 0 =
    rw (z, kept_at k x b (omega (arith, book-size s))) (started-qualified c _ t l ∙ ap (λ (y : Batch). y.place) (book-at s b g)) in
    entered-skip e (omega arith) (omega (arith, kept-size k x, book-size s)) g q

-- all have theirs
pub kept-end : (s : Sheet) (x : List ℕ) {a : List ℕ} {b : ℕ} → Sound s →
    Entered s.places 0 (kept_places (book_of s) x) s.n a b → s.n ≤ b →
    placing s a ≡ sheet_of (with_places (book_of s) (kept_places (book_of s) x))
kept-end s x {a} {b} v e h =
    let k = book_of s in
    let y = kept_places k x in
    let z = book-size s in
    ap (placing s) (entered-end e h)
    ∙ ap (λ (j : ℕ). placing s (paste s.places 0 y j)) (sym z)
    ∙ ap (λ (t : Sheet). placing t (paste t.places 0 y (size k))) (sym v.arrays)
    ∙ place-law k y (kept-size k x)

-- whatever is kept counts as qualified, so the sheet is sound
pub kept-sound : (s : Sheet) (x : List ℕ) → Sound s → Sound (sheet_of (with_places (book_of s) (kept_places (book_of s) x)))
kept-sound s x v =
    let k = book_of s in
    sheet-sound (with_places k (kept_places k x)) (fit-sound k (kept_places k x) v.book
    (λ b h. rw (kept_at k x b h)
    (kept-listed (get_or x b 0) _ (qualified-some (get_or k.batches b no_batch_here) (good-some k.m _ (good-index s v b (omega (arith, book-size s))).list)))))

-- places that count are kept
kept-front : (k : Book) (x : List ℕ) (c : ℕ) → c ≤ length x →
    ((b : ℕ) → b < c → mem (get_or x b 0) (qualified (get_or k.batches b no_batch_here)) ≡ true) →
    list_to c (λ b. kept (at x b) (qualified (batch k b))) ≡ take c x
unfolding list_to kept
kept-front k x zero h w = refl
kept-front k x (suc c) h w = rw (kept-front k x c (omega arith) (λ b l. w b (omega arith)), w c (omega arith)) (sym (take-suc x c 0 h))

-- the places of a permitted assignment's batches are entered as they are
pub kept-taken : (k : Book) (x : List ℕ) (y : Assignment) → Permitted (instance k) y → take (size k) x ≡ take (size k) y →
    with_places k (kept_places k x) ≡ with_places k y
unfolding kept_places
kept-taken k x y w e =
    let same : (b : ℕ) → b < size k → get_or x b 0 ≡ get_or y b 0 = λ b h. sym (get_or-take (size k) x b 0 h) ∙ ap (λ (l : List ℕ). get_or l b 0) e ∙ get_or-take (size k) y b 0 h in
    let long : size k ≤ length x =
    omega (arith, ap length e, length-take (size k) x, length-take (size k) y, w.size, batches-first k) in
    ap (with_places k) (kept-front k x (size k) long (λ b h. rw (same b h) (batches-fit k y w b h)) ∙ e) ∙ front-placed k y
