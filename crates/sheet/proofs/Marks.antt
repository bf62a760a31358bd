-- The marks of all batches, made row by row.
use Prim.Native.Nat.{ℕ, zero, suc, ◌+◌, ◌-◌, ◌*◌, ◌≤◌, ◌<◌}
use mathlib.Core.Path.{◌≡◌, refl, sym, ap, ◌∙◌}
use mathlib.Core.Bool.{true}
use mathlib.Core.List.{List, [], ◌∷◌, ◌++◌, append-nil, append_assoc}
use native.Mathlib.Omega.{arith}
use native.Mathlib.Numerals.{add-one}
use lib.ListN.{length, get_or, take, drop, replicate, length-append, length-replicate, length-drop}
use lib.Seq.{paste, length-paste, take-suc, take_all, get_or-take, get_or-drop, length-take-le}
use lib.Dec.{leb, eqb}
use borrow.Author.Tests.{leb-true}
use Rattle.rules.specs.Fold.{pick}
use Rattle.rules.specs.Sheet.{Batch, no_batch_here, is_instrument, good_list}
use Rattle.rules.specs.Instance.{qualified}
use Rattle.rules.specs.Marks.{marks_of}
use Rattle.theory.proofs.Logic.{by_test, and_left, and_right}
use Rattle.theory.proofs.Member.{every-at}
use Rattle.theory.proofs.Sound.{good-ranged}
use Rattle.theory.proofs.Marks.{length-marks}
use Rattle.sheet.specs.declared.Sheet.{Sheet}
use Rattle.sheet.specs.Represent.{padded, book_of, Sound}
use Rattle.sheet.specs.View.{mark_rows}
use Rattle.sheet.proofs.Padded.{padded-room, paste-at, paste-append}
use Rattle.sheet.proofs.SoundArrays.{book-m, book-size, book-at, list_at, good-entry, few-instruments, good-index, list-size, mark_of}

-- ---- rows

pub length-mark-rows : (bs : List Batch) → length (mark_rows bs) ≡ length bs * 24
unfolding mark_rows
length-mark-rows [] = refl
length-mark-rows (b ∷ bs) =
    omega (arith, length-append (marks_of (qualified b)) (mark_rows bs), length-marks (qualified b), length-mark-rows bs)

pub mark-rows-last : (bs : List Batch) (b : Batch) → mark_rows (bs ++ (b ∷ [])) ≡ mark_rows bs ++ marks_of (qualified b)
unfolding mark_rows
mark-rows-last [] b = append-nil (marks_of (qualified b))
mark-rows-last (c ∷ bs) b =
    ap (λ (r : List ℕ). marks_of (qualified c) ++ r) (mark-rows-last bs b)
    ∙ sym (append_assoc (marks_of (qualified c)) (mark_rows bs) (marks_of (qualified b)))

-- the rows of the first i lists of f
abbrev pub rows_sofar : (ℕ → List ℕ) → ℕ → List ℕ
rows_sofar f zero = []
rows_sofar f (suc i) = rows_sofar f i ++ marks_of (f i)

length-rows-to : (f : ℕ → List ℕ) (i : ℕ) → length (rows_sofar f i) ≡ i * 24
length-rows-to f zero = refl
length-rows-to f (suc i) =
    omega (arith, length-append (rows_sofar f i) (marks_of (f i)), length-marks (f i), length-rows-to f i)

-- the instruments that count as qualified for the batch at the index i, as the arrays have them
abbrev pub row_at : List ℕ → List ℕ → List ℕ → List ℕ → ℕ → List ℕ
row_at started places counts lists i =
    pick (eqb (get_or started i 0) 0) (take (get_or counts i 0) (drop (i * 24) lists)) (take 1 (drop i places))

abbrev pub row_of : Sheet → ℕ → List ℕ
row_of s = row_at s.started s.places s.counts s.lists

take-one : (l : List ℕ) (i : ℕ) → i < length l → take 1 (drop i l) ≡ get_or l i 0 ∷ []
take-one [] i h = absurd (omega arith)
take-one (x ∷ l) zero h = refl
take-one (x ∷ l) (suc i) h = take-one l i (omega arith)

row_is : (s : Sheet) → Sound s → (i : ℕ) → i < s.n → s.n ≤ length s.places → row_of s i ≡ qualified (get_or (book_of s).batches i no_batch_here)
row_is s v i h l =
    let b = get_or (book_of s).batches i no_batch_here in
    let p = ap (λ (c : Batch). c.place) (book-at s i h) in
    by_test b.started
    (λ t. rw (mark_of s v i, t, take-one s.places i (omega arith)) (ap (λ (x : ℕ). x ∷ []) (sym p)))
    (λ t. rw (mark_of s v i, t) (sym (list_at s i h)))

rows_are : (s : Sheet) → Sound s → s.n ≤ length s.places → (i : ℕ) → i ≤ s.n
    → rows_sofar (row_of s) i ≡ mark_rows (take i (book_of s).batches)
unfolding mark_rows
rows_are s v l zero h = refl
rows_are s v l (suc i) h =
    let bs = (book_of s).batches in
    let k : i < length bs = omega (arith, book-size s) in
    ap (λ (r : List ℕ). r ++ marks_of (row_of s i)) (rows_are s v l i (omega arith))
    ∙ ap (λ (x : List ℕ). mark_rows (take i bs) ++ marks_of x) (row_is s v i h l)
    ∙ sym (ap mark_rows (take-suc bs i no_batch_here k) ∙ mark-rows-last (take i bs) (get_or bs i no_batch_here))

-- ---- the loop

-- a holds the rows of the first i lists
pub record Rows (f : ℕ → List ℕ) (n : ℕ) (a : List ℕ) (i : ℕ) : Type 0 where
  pub few : i ≤ n
  pub room : n ≤ 200
  pub long : length a ≡ 4800
  pub same : a ≡ padded 4800 (rows_sofar f i)

pub rows_start : {f : ℕ → List ℕ} {n : ℕ} → n ≤ 200 → Rows f n (replicate 4800 0) 0
rows_start h = record { few = omega arith; room = h; long = length-replicate {A = ℕ} 4800 0; same = refl }

module _ {f : ℕ → List ℕ} {n : ℕ} {a : List ℕ} {i : ℕ} (e : Rows f n a i) where
  -- the next row is all 0
  pub rows_next : i < n → paste a (i * 24) (replicate 24 0) 24 ≡ a
  rows_next h =
      let r = rows_sofar f i in
      let l = length-rows-to f i in
      let z : List ℕ = replicate (4800 - (length r + 24)) 0 in
      let q : a ≡ r ++ (replicate 24 0 ++ z) = e.same ∙ padded-room 4800 24 r (omega arith) in
      ap (λ (d : List ℕ). paste d (i * 24) (replicate 24 0) 24) q
      ∙ paste-at r (replicate 24 0) z (replicate 24 0) (i * 24) 24 l (length-replicate {A = ℕ} 24 0) (length-replicate {A = ℕ} 24 0)
      ∙ sym q

  pub rows_step : (b l : List ℕ) → i < n → b ≡ paste a (i * 24) (marks_of l) 24 → l ≡ f i → Rows f n b (i + 1)
  rows_step b l h u q =
      let r = rows_sofar f i in
      record {
        few = omega arith;
        room = e.room;
        long = ap length u ∙ length-paste a (i * 24) (marks_of l) 24 (omega arith) (omega (arith, length-marks l)) ∙ e.long;
        same =
            u
            ∙ ap (λ (d : List ℕ). paste d (i * 24) (marks_of l) 24) e.same
            ∙ paste-append 4800 r (marks_of l) (i * 24) 24 (length-rows-to f i) (length-marks l) (omega arith)
            ∙ ap (λ (x : List ℕ). padded 4800 (r ++ marks_of x)) q
            ∙ ap (λ (j : ℕ). padded 4800 (rows_sofar f j)) (sym (add-one i));
      }

pub rows_end : (s : Sheet) (a : List ℕ) (i : ℕ) → Sound s → s.n ≤ length s.places → Rows (row_of s) s.n a i → s.n ≤ i →
    a ≡ padded 4800 (mark_rows (book_of s).batches)
rows_end s a i v l e h =
    let bs = (book_of s).batches in
    let z : i ≡ s.n = omega (arith, e.few) in
    e.same ∙ ap (padded 4800) (rows_are s v l i e.few ∙ ap mark_rows (take_all i bs (omega (arith, book-size s))))

-- ---- what a list names

good-first : (m : ℕ) (l : List ℕ) (i : ℕ) → good_list m l ≡ true → i < length l → 0 < get_or l i 0
unfolding good_list is_instrument
good-first m l i e h =
    let r = and_right (leb (length l) m) _ (and_right (leb 1 (length l)) _ e) in
    leb-true _ _ (and_left _ _ (every-at (is_instrument m) l 0 i (and_left _ _ r) h))

module _ (s : Sheet) (v : Sound s) where
  pub entry-range : (i k : ℕ) → i < s.n → k < get_or s.counts i 0 → i * 24 + 24 ≤ length s.lists →
      (0 < get_or s.lists (i * 24 + k) 0) × (get_or s.lists (i * 24 + k) 0 ≤ 24)
  entry-range i k h g w =
      let c = get_or s.counts i 0 in
      let l : List ℕ = take c (drop (i * 24) s.lists) in
      let b = good-index s v i h in
      let q : good_list (book_of s).m l ≡ true = ap (λ (x : Batch). good_list (book_of s).m x.list) (sym (book-at s i h)) ∙ b.list in
      let d : c ≤ length (drop (i * 24) s.lists) = omega (arith, length-drop (i * 24) s.lists, (list-size s v i h).1) in
      let f : k < length l = omega (arith, length-take-le c (drop (i * 24) s.lists) d) in
      let e : get_or l k 0 ≡ get_or s.lists (i * 24 + k) 0 =
      get_or-take c (drop (i * 24) s.lists) k 0 g ∙ get_or-drop (i * 24) s.lists k 0 in (
        omega (arith, good-first (book_of s).m l k q f),
        omega (arith, good-entry (book_of s).m l k q f, few-instruments s v, book-m s),
      )

  -- and where a batch stands
  pub place-range : (i : ℕ) → i < s.n → (0 < get_or s.places i 0) × (get_or s.places i 0 ≤ 24)
  place-range i h =
      let b = good-index s v i h in
      let p = ap (λ (c : Batch). c.place) (book-at s i h) in
      let r = good-ranged (book_of s).m _ _ b.list b.place in
      (omega (arith, r.0), omega (arith, r.1, few-instruments s v, book-m s))
