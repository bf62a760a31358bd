-- The arrays of a book's sheet after a batch is entered anew, started or taken out.
use Prim.Native.Nat.{ℕ, zero, suc, ◌-◌, ◌*◌, ◌≤◌, ◌<◌}
use mathlib.Core.Path.{◌≡◌, refl, sym, ap, ◌∙◌}
use mathlib.Core.Bool.{Bool, true}
use mathlib.Core.List.{List, [], ◌∷◌, ◌++◌, map}
use native.Mathlib.Omega.{arith}
use lib.ListN.{length, get_or, set, take, drop, length-set, length-map}
use lib.Seq.{paste, split_at, set_split, map-set_same, length-take-le}
use borrow.Author.Tests.{leb-true}
use Rattle.rules.specs.Fold.{every}
use Rattle.rules.specs.Sheet.{Book, Batch, with_place, with_list, begun, size, no_batch_here}
use Rattle.rules.specs.Edit.{without, with_batches}
use Rattle.rules.specs.Render.{mark}
use Rattle.theory.proofs.Logic.{and_left, and_right, and-mk}
use Rattle.theory.proofs.Member.{every-at}
use Rattle.sheet.specs.Represent.{padded, rows, sheet_of}
use Rattle.sheet.specs.Change.{cut, removed, replaced, requalified, started_at}
use Rattle.sheet.proofs.Padded.{length-padded, set-replace, paste-replace, cut_out}
use Rattle.sheet.proofs.Represent.{narrow, length-rows, rows_append, map-append}

every_take : (p : Batch → Bool) (bs : List Batch) (i : ℕ) → every p bs ≡ true → every p (take i bs) ≡ true
unfolding every
every_take p [] i e = every-nil i
  where
    every-nil : (i : ℕ) → every p (take i []) ≡ true
    every-nil zero = refl
    every-nil (suc i) = refl
every_take p (b ∷ bs) zero e = refl
every_take p (b ∷ bs) (suc i) e = and-mk _ _ (and_left _ _ e) (every_take p bs i (and_right (p b) _ e))

without-split : (bs : List Batch) (i : ℕ) → i < length bs → without bs i ≡ take i bs ++ drop (suc i) bs
without-split [] i h = absurd (omega arith)
without-split (b ∷ bs) zero h = refl
without-split (b ∷ bs) (suc i) h = ap (λ (r : List Batch). b ∷ r) (without-split bs i (omega arith))

-- ---- the arrays of 200

module _ (f : Batch → ℕ) (bs : List Batch) (i : ℕ) (h : i < length bs) where
  lead : length (map f (take i bs)) ≡ i
  lead = length-map (take i bs) f ∙ length-take-le i bs (omega arith)

  about : map f bs ≡ map f (take i bs) ++ f (get_or bs i no_batch_here) ∷ map f (drop (suc i) bs)
  about = ap (map f) (split_at bs i no_batch_here h) ∙ map-append f (take i bs) (get_or bs i no_batch_here ∷ drop (suc i) bs)

  column-set : (c : Batch) → set (padded 200 (map f bs)) i (f c) ≡ padded 200 (map f (set bs i c))
  column-set c =
      ap (λ (d : List ℕ). set (padded 200 d) i (f c)) about
      ∙ set-replace 200 (map f (take i bs)) (f (get_or bs i no_batch_here)) (map f (drop (suc i) bs)) i (f c) lead
      ∙ ap (padded 200) (sym (ap (map f) (set_split bs i c h) ∙ map-append f (take i bs) (c ∷ drop (suc i) bs)))

  column-cut : length bs ≤ 200 → cut i 1 (padded 200 (map f bs)) ≡ padded 200 (map f (without bs i))
  column-cut l =
      ap (λ (d : List ℕ). cut i 1 (padded 200 d)) about
      ∙ cut_out 200 (map f (take i bs)) (f (get_or bs i no_batch_here) ∷ []) (map f (drop (suc i) bs)) i 1 lead refl
      (omega (arith, ap length about, length-map bs f))
      ∙ ap (padded 200) (sym (ap (map f) (without-split bs i h) ∙ map-append f (take i bs) (drop (suc i) bs)))

-- ---- the rows

module _ (bs : List Batch) (i : ℕ) (h : i < length bs) (e : every narrow bs ≡ true) where
  rows-lead : length (rows (take i bs)) ≡ i * 24
  rows-lead =
      length-rows (take i bs) (every_take narrow bs i e) ∙ ap (λ (k : ℕ). k * 24) (length-take-le i bs (omega arith))

  row-long : length (padded 24 (get_or bs i no_batch_here).list) ≡ 24
  row-long = length-padded 24 (get_or bs i no_batch_here).list (leb-true _ _ (every-at narrow bs no_batch_here i e h))

  rows-about : rows bs ≡ rows (take i bs) ++ (padded 24 (get_or bs i no_batch_here).list ++ rows (drop (suc i) bs))
  rows-about = ap rows (split_at bs i no_batch_here h) ∙ rows_append (take i bs) (get_or bs i no_batch_here ∷ drop (suc i) bs)

  rows-set : (c : Batch) → length c.list ≤ 24 →
      paste (padded 4800 (rows bs)) (i * 24) (padded 24 c.list) 24 ≡ padded 4800 (rows (set bs i c))
  rows-set c l =
      ap (λ (d : List ℕ). paste (padded 4800 d) (i * 24) (padded 24 c.list) 24) rows-about
      ∙ paste-replace 4800 (rows (take i bs)) (padded 24 (get_or bs i no_batch_here).list) (rows (drop (suc i) bs)) (padded 24 c.list)
      (i * 24) 24 rows-lead row-long (length-padded 24 c.list l)
      ∙ ap (padded 4800) (sym (ap rows (set_split bs i c h) ∙ rows_append (take i bs) (c ∷ drop (suc i) bs)))

  rows_cut : length bs ≤ 200 → cut (i * 24) 24 (padded 4800 (rows bs)) ≡ padded 4800 (rows (without bs i))
  rows_cut l =
      ap (λ (d : List ℕ). cut (i * 24) 24 (padded 4800 d)) rows-about
      ∙ cut_out 4800 (rows (take i bs)) (padded 24 (get_or bs i no_batch_here).list) (rows (drop (suc i) bs)) (i * 24) 24 rows-lead row-long
      (omega (arith, ap length rows-about, length-rows bs e))
      ∙ ap (padded 4800) (sym (ap rows (without-split bs i h) ∙ rows_append (take i bs) (drop (suc i) bs)))

rows_same : (bs : List Batch) (i : ℕ) (c : Batch) → c.list ≡ (get_or bs i no_batch_here).list → rows (set bs i c) ≡ rows bs
rows_same [] i c e = refl
rows_same (b ∷ bs) zero c e = ap (λ (l : List ℕ). padded 24 l ++ rows bs) e
rows_same (b ∷ bs) (suc i) c e = ap (λ (r : List ℕ). padded 24 b.list ++ r) (rows_same bs i c e)

-- ---- the sheets

without-size : (bs : List Batch) (i : ℕ) → i < length bs → length (without bs i) ≡ length bs - 1
without-size [] i h = absurd (omega arith)
without-size (b ∷ bs) zero h = omega arith
without-size (b ∷ bs) (suc i) h = omega (arith, without-size bs i (omega arith))

pub remove-law : (k : Book) (i : ℕ) → i < size k → size k ≤ 200 → every narrow k.batches ≡ true →
    removed (sheet_of k) i ≡ sheet_of (with_batches k (without k.batches i))
unfolding sheet_of
remove-law k i h l e =
    let bs = k.batches in
    rw (
      column-cut (λ (b : Batch). b.minutes) bs i h l,
      column-cut (λ (b : Batch). b.place) bs i h l,
      column-cut (λ (b : Batch). mark b.started) bs i h l,
      column-cut (λ (b : Batch). length b.list) bs i h l,
      rows_cut bs i h e l,
      without-size bs i h,
    )

pub move-law : (k : Book) (i p : ℕ) → i < size k →
    replaced (sheet_of k) i p
    ≡ sheet_of (with_batches k (set k.batches i (with_place (get_or k.batches i no_batch_here) p)))
unfolding sheet_of
move-law k i p h =
    let bs = k.batches in
    let c = with_place (get_or bs i no_batch_here) p in
    rw (
      column-set (λ (b : Batch). b.place) bs i h c,
      length-set bs i c,
      map-set_same (λ (b : Batch). b.minutes) bs i c no_batch_here refl,
      map-set_same (λ (b : Batch). mark b.started) bs i c no_batch_here refl,
      map-set_same (λ (b : Batch). length b.list) bs i c no_batch_here refl,
      rows_same bs i c refl,
    )

pub requalify-law : (k : Book) (i p : ℕ) (l : List ℕ) → i < size k → every narrow k.batches ≡ true → length l ≤ 24 →
    requalified (sheet_of k) i p (length l) (padded 24 l)
    ≡ sheet_of (with_batches k (set k.batches i (with_place (with_list (get_or k.batches i no_batch_here) l) p)))
unfolding sheet_of
requalify-law k i p l h e f =
    let bs = k.batches in
    let c = with_place (with_list (get_or bs i no_batch_here) l) p in
    rw (
      column-set (λ (b : Batch). b.place) bs i h c,
      column-set (λ (b : Batch). length b.list) bs i h c,
      rows-set bs i h e c f,
      length-set bs i c,
      map-set_same (λ (b : Batch). b.minutes) bs i c no_batch_here refl,
      map-set_same (λ (b : Batch). mark b.started) bs i c no_batch_here refl,
    )

pub start-law : (k : Book) (i : ℕ) → i < size k →
    started_at (sheet_of k) i ≡ sheet_of (with_batches k (set k.batches i (begun (get_or k.batches i no_batch_here))))
unfolding sheet_of
start-law k i h =
    let bs = k.batches in
    let c = begun (get_or bs i no_batch_here) in
    rw (
      column-set (λ (b : Batch). mark b.started) bs i h c,
      length-set bs i c,
      map-set_same (λ (b : Batch). b.minutes) bs i c no_batch_here refl,
      map-set_same (λ (b : Batch). b.place) bs i c no_batch_here refl,
      map-set_same (λ (b : Batch). length b.list) bs i c no_batch_here refl,
      rows_same bs i c refl,
    )
