-- What a sound sheet's arrays hold: the limits, and each batch of its book.
use Prim.Native.Nat.{ℕ, zero, suc, ◌-◌, ◌≤◌, ◌<◌}
use mathlib.Core.Path.{◌≡◌, refl, sym, ap, ◌∙◌}
use mathlib.Core.Bool.{true, false}
use mathlib.Core.List.{List, [], ◌∷◌}
use native.Mathlib.Omega.{arith}
use lib.ListN.{length, get_or, length-append, get_or-append}
use lib.Seq.{get_or_at}
use lib.Dec.{leb, ltb}
use borrow.Author.Tests.{leb-true, ltb-true, ltb-false}
use Rattle.rules.specs.Fold.{◌and◌, mem, every}
use Rattle.rules.specs.Sheet.{Book, Batch, size, batch, is_batch, no_batch_here, good_instruments, is_instrument, good_list, good_batch}
use Rattle.rules.specs.Render.{mark}
use Rattle.theory.proofs.Logic.{by_test, and_left, and_right}
use Rattle.theory.proofs.Member.{every-at}
use Rattle.theory.proofs.Sound.{Good, good-is, sound-is, good-batch, good-ranged}
use Rattle.sheet.specs.declared.Sheet.{Sheet}
use Rattle.sheet.specs.Represent.{sheet_of, batch_at, batches_to, book_of, Sound}
use Rattle.sheet.proofs.Scan.{in-range}
use Rattle.sheet.proofs.Represent.{narrow, entry-by, sound-narrow}

-- ---- the book's parts

pub book-m : (s : Sheet) → (book_of s).m ≡ s.m
unfolding book_of
book-m s = refl

batches-count : (s : Sheet) (n : ℕ) → length (batches_to s n) ≡ n
unfolding batches_to
batches-count s zero = refl
batches-count s (suc n) = omega (arith, length-append (batches_to s n) (batch_at s n ∷ []), batches-count s n)

pub book-size : (s : Sheet) → size (book_of s) ≡ s.n
unfolding book_of
book-size s = batches-count s s.n

batches-at : (s : Sheet) (n i : ℕ) → i < n → get_or (batches_to s n) i no_batch_here ≡ batch_at s i
unfolding batches_to
batches-at s zero i h = absurd (omega arith)
batches-at s (suc n) i h =
    by_test (ltb i n)
    (λ t. let g : i < n = ltb-true i n t in
    get_or-append (batches_to s n) (batch_at s n ∷ []) no_batch_here i (omega (arith, batches-count s n)) ∙ batches-at s n i g)
    (λ t. let g : i ≡ n = omega (arith, ltb-false i n t) in
    rw g (get_or_at (batches_to s n) (batch_at s n) [] no_batch_here n (batches-count s n)))

pub book-at : (s : Sheet) (i : ℕ) → i < s.n → get_or (book_of s).batches i no_batch_here ≡ batch_at s i
unfolding book_of
book-at s i h = batches-at s s.n i h

pub list_at : (s : Sheet) (i : ℕ) → i < s.n → (get_or (book_of s).batches i no_batch_here).list ≡ (batch_at s i).list
list_at s i h = ap (λ (b : Batch). b.list) (book-at s i h)

pub number-at : (k : Book) (b : ℕ) → 0 < b → batch k b ≡ get_or k.batches (b - 1) no_batch_here
number-at k zero h = absurd (omega arith)
number-at k (suc b) h = let e : b ≡ suc b - 1 = omega arith in ap (λ (i : ℕ). get_or k.batches i no_batch_here) e

-- a number in range, and what it says
pub is_number : (s : Sheet) (b : ℕ) → is_batch (book_of s) b ≡ leb 1 b and leb b s.n
unfolding is_batch
is_number s b = ap (λ (n : ℕ). leb 1 b and leb b n) (book-size s)

counts-at : (k : Book) (i : ℕ) → get_or (sheet_of k).counts i 0 ≡ length (get_or k.batches i no_batch_here).list
unfolding sheet_of
counts-at k i = entry-by (λ (c : Batch). length c.list) refl k.batches i

started-at : (k : Book) (i : ℕ) → get_or (sheet_of k).started i 0 ≡ mark (get_or k.batches i no_batch_here).started
unfolding sheet_of
started-at k i = entry-by (λ (c : Batch). mark c.started) refl k.batches i

-- ---- a good list

pub good-long : (m : ℕ) (l : List ℕ) → good_list m l ≡ true → (0 < length l) × (length l ≤ m)
unfolding good_list
good-long m l e =
    (leb-true _ _ (and_left _ _ e), leb-true _ _ (and_left _ _ (and_right (leb 1 (length l)) _ e)))

pub good-entry : (m : ℕ) (l : List ℕ) (i : ℕ) → good_list m l ≡ true → i < length l → get_or l i 0 ≤ m
unfolding good_list is_instrument
good-entry m l i e h =
    let r = and_right (leb (length l) m) _ (and_right (leb 1 (length l)) _ e) in
    leb-true _ _ (and_right (leb 1 (get_or l i 0)) _ (every-at (is_instrument m) l 0 i (and_left _ _ r) h))

-- it fits a row of bytes
pub row_fits : (m : ℕ) (l : List ℕ) → m ≤ 24 → good_list m l ≡ true → (length l ≤ 24) × ((i : ℕ) → i < length l → get_or l i 0 < 256)
row_fits m l h g = (omega (arith, (good-long m l g).1), λ i u. omega (arith, good-entry m l i g u))

-- ---- the limits

module _ (s : Sheet) (v : Sound s) where
  pub few-instruments : s.m ≤ 24
  unfolding good_instruments
  few-instruments =
      let g = (sound-is (book_of s) v.book).instruments in
      let h : (book_of s).m ≤ 24 = leb-true _ _ (and_right (leb 1 (book_of s).m) _ g) in
      omega (arith, book-m s)

  pub few-batches : s.n ≤ 200
  few-batches = omega (arith, book-size s, (sound-is (book_of s) v.book).room)

  pub narrow-book : every narrow (book_of s).batches ≡ true
  narrow-book = sound-narrow (book_of s) v.book

  -- the batch at an index
  pub good-index : (i : ℕ) → i < s.n → Good (book_of s).m (get_or (book_of s).batches i no_batch_here)
  good-index i h =
      good-is (book_of s).m _
      (every-at (good_batch (book_of s).m) (book_of s).batches no_batch_here i (sound-is (book_of s) v.book).batches
      (omega (arith, book-size s)))

  -- its list's size
  pub list-size : (i : ℕ) → i < s.n → (0 < get_or s.counts i 0) × (get_or s.counts i 0 ≤ 24)
  list-size i h =
      let g = good-long (book_of s).m _ (good-index i h).list in
      let e : get_or s.counts i 0 ≡ length (get_or (book_of s).batches i no_batch_here).list =
      ap (λ (t : Sheet). get_or t.counts i 0) (sym v.arrays) ∙ counts-at (book_of s) i in
      (omega (arith, g.0), omega (arith, g.1, few-instruments, book-m s))

  -- its mark
  pub mark_of : (i : ℕ) → get_or s.started i 0 ≡ mark (get_or (book_of s).batches i no_batch_here).started
  mark_of i = ap (λ (t : Sheet). get_or t.started i 0) (sym v.arrays) ∙ started-at (book_of s) i

  pub mark-small : (i : ℕ) → get_or s.started i 0 ≤ 1
  mark-small i =
      by_test (get_or (book_of s).batches i no_batch_here).started
      (λ t. omega (arith, mark_of i ∙ ap mark t))
      (λ t. omega (arith, mark_of i ∙ ap mark t))

  -- 0 where it has not started, and another where it has
  pub waits-at : (i : ℕ) → get_or s.started i 0 ≡ 0 → (get_or (book_of s).batches i no_batch_here).started ≡ false
  waits-at i e =
      by_test (get_or (book_of s).batches i no_batch_here).started
      (λ t. absurd (omega (arith, e, mark_of i ∙ ap mark t)))
      (λ t. t)

  pub starts-at : (i : ℕ) → (get_or s.started i 0 ≡ 0 → ⊥) → (get_or (book_of s).batches i no_batch_here).started ≡ true
  starts-at i e =
      by_test (get_or (book_of s).batches i no_batch_here).started
      (λ t. t)
      (λ t. absurd (e (mark_of i ∙ ap mark t)))

  -- a batch's index
  pub index : (b : ℕ) → leb 1 b and leb b s.n ≡ true → (0 < b) × (b - 1 < s.n) × (b - 1 < 200)
  index b e = let r = in-range b s.n e in let f = few-batches in (r.0, omega arith, omega arith)

  -- an instrument that batch number b lists
  pub small-place : (b i : ℕ) → leb 1 b and leb b s.n ≡ true → mem i (batch_at s (b - 1)).list ≡ true → i ≤ 24
  small-place b i e h =
      let r = index b e in
      let q : batch (book_of s) b ≡ batch_at s (b - 1) = number-at (book_of s) b r.0 ∙ book-at s (b - 1) r.1 in
      let g = good-batch (book_of s) b (sound-is (book_of s) v.book) (is_number s b ∙ e) in
      let t = good-ranged (book_of s).m (batch (book_of s) b).list i g.list (ap (λ (c : Batch). mem i c.list) q ∙ h) in
      omega (arith, few-instruments, book-m s, t.1)
