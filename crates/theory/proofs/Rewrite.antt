-- Document 02, C-13: what is written is read as the very same book; a file that is read is written again with the same length, and the
-- same but for places given as 0 or blank; and how long a file can be.
use Prim.Native.Nat.{ℕ, zero, suc, ◌+◌, ◌*◌, ◌≤◌, ◌<◌}
use mathlib.Core.Path.{◌≡◌, refl, sym, ap, ap₂, ◌∙◌}
use mathlib.Core.Bool.{Bool, true, false, not}
use mathlib.Core.List.{List, [], ◌∷◌, ◌++◌, map}
use native.Mathlib.Omega.{arith}
use lib.ListN.{length, replicate, length-append, length-map}
use lib.Dec.{leb, eqb}
use borrow.Author.Tests.{leb-true, le-leb, eq-eqb, ne_eqb}
use Rattle.rules.specs.Fold.{◌and◌, ◌or◌, every}
use Rattle.rules.specs.Sheet.{Book, Batch, with_place, max_batches, good_instruments, good_batch, sound}
use Rattle.rules.specs.Read.{accepted, place_or, good_place, read}
use Rattle.rules.specs.Render.{columns, line, Given, numbered, left_blank, given_number, given_columns, mark, Described, Description, render_batch, render_batches, render, batch_within_limits, within_limits, placed, book_said, described_batch, described}
use Rattle.rules.specs.Rewrite.{written, is_open, unmarked, open_in_batch, open_in_batches, open_columns, alike}
use Rattle.theory.proofs.Logic.{conflict, not-mk, and_left, and_right, and-mk, or_right}
use Rattle.theory.proofs.Field.{columns-length}
use Rattle.theory.proofs.Fields.{line-length}
use Rattle.theory.proofs.Format.{batch-within-is, good-list-is, good-calibrations-is, within-is, read-render}
use Rattle.theory.proofs.Parse.{read-is-render}
use Rattle.theory.proofs.Sound.{good-is, sound-is, good-ranged}

-- ---- a book, written and read

-- a place that is an instrument is taken as it is given
place_kept : (p : ℕ) (l : List ℕ) → 0 < p → place_or p l ≡ p
place_kept zero l h = absurd (omega arith)
place_kept (suc p) l h = refl

module _ (m : ℕ) where
  batch-same : (b : Batch) → good_batch m b ≡ true → placed (described_batch b) ≡ b
  batch-same b e =
      let g = good-is m b e in
      ap (with_place b)
      (place_kept b.place b.list (good-ranged m b.list b.place g.list g.place).0)

  batch-within : (b : Batch) → good_batch m b ≡ true → batch_within_limits m (described_batch b) ≡ true
  unfolding batch_within_limits good_place
  batch-within b e =
      let g = good-is m b e in
      and-mk _ _ g.minutes
      (and-mk _ _ g.list (and-mk _ _ g.order (or_right (not b.started and eqb b.place 0) _ g.place)))

  batches-same : (bs : List Batch) → every (good_batch m) bs ≡ true → map placed (map described_batch bs) ≡ bs
  unfolding every
  batches-same [] e = refl
  batches-same (b ∷ bs) e =
      ap₂ (λ (c : Batch) (cs : List Batch). c ∷ cs) (batch-same b (and_left _ _ e)) (batches-same bs (and_right (good_batch m b) _ e))

  batches-within : (bs : List Batch) → every (good_batch m) bs ≡ true → every (batch_within_limits m) (map described_batch bs) ≡ true
  unfolding every
  batches-within [] e = refl
  batches-within (b ∷ bs) e = and-mk _ _ (batch-within b (and_left _ _ e)) (batches-within bs (and_right (good_batch m b) _ e))

described-within : (k : Book) → sound k ≡ true → within_limits (described k) ≡ true
unfolding within_limits
described-within k e =
    let s = sound-is k e in
    let r : leb (length (map described_batch k.batches)) max_batches ≡ true =
    le-leb (length (map described_batch k.batches)) max_batches (omega (arith, length-map k.batches described_batch, s.room)) in
    and-mk _ _ s.instruments (and-mk _ _ s.calibrations (and-mk _ _ r (batches-within k.m k.batches s.batches)))

-- reading what is written gives the very same book
pub read-written : (k : Book) → sound k ≡ true → read (written k) ≡ accepted k
unfolding written
read-written k e =
    read-render (described k) (described-within k e)
    ∙ ap (λ (bs : List Batch). accepted (record { m = k.m; calibrations = k.calibrations; batches = bs }))
    (batches-same k.m k.batches (sound-is k e).batches)

-- and no place in it is 0 or blank
batches-given : (m : ℕ) (bs : List Batch) → every (good_batch m) bs ≡ true
    → every (λ (d : Described). not (is_open d.place)) (map described_batch bs) ≡ true
unfolding every
batches-given m [] e = refl
batches-given m (b ∷ bs) e =
    let g = good-is m b (and_left _ _ e) in
    let p = (good-ranged m b.list b.place g.list g.place).0 in
    and-mk _ _ (not-mk (ne_eqb b.place 0 (λ z. omega arith))) (batches-given m bs (and_right (good_batch m b) _ e))

pub written-given : (k : Book) → sound k ≡ true → every (λ (d : Described). not (is_open d.place)) (described k).batches ≡ true
written-given k e = batches-given k.m k.batches (sound-is k e).batches

-- ---- a file, read and written

alike_same : (n : ℕ) (s : List ℕ) → length s ≡ n → alike (replicate n false) s s ≡ true
unfolding alike ◌or◌
alike_same zero [] h = refl
alike_same zero (x ∷ s) h = absurd (omega arith)
alike_same (suc n) [] h = absurd (omega arith)
alike_same (suc n) (x ∷ s) h = and-mk _ _ (eq-eqb x x refl) (alike_same n s (omega arith))

alike-open : (n : ℕ) (s u : List ℕ) → length s ≡ n → length u ≡ n → alike (replicate n true) s u ≡ true
unfolding alike ◌or◌
alike-open zero [] [] h i = refl
alike-open zero [] (y ∷ u) h i = absurd (omega arith)
alike-open zero (x ∷ s) u h i = absurd (omega arith)
alike-open (suc n) [] u h i = absurd (omega arith)
alike-open (suc n) (x ∷ s) [] h i = absurd (omega arith)
alike-open (suc n) (x ∷ s) (y ∷ u) h i = and-mk _ _ refl (alike-open n s u (omega arith) (omega arith))

alike-append : (ts : List Bool) (s u : List ℕ) (vs : List Bool) (p q : List ℕ) → alike ts s u ≡ true → alike vs p q ≡ true
    → alike (ts ++ vs) (s ++ p) (u ++ q) ≡ true
unfolding alike
alike-append [] [] [] vs p q e f = f
alike-append [] [] (y ∷ u) vs p q e f = conflict e refl
alike-append [] (x ∷ s) u vs p q e f = conflict e refl
alike-append (t ∷ ts) [] u vs p q e f = conflict e refl
alike-append (t ∷ ts) (x ∷ s) [] vs p q e f = conflict e refl
alike-append (t ∷ ts) (x ∷ s) (y ∷ u) vs p q e f =
    and-mk _ _ (and_left _ _ e) (alike-append ts s u vs p q (and_right (t or eqb x y) _ e) f)

alike-length : (ts : List Bool) (s u : List ℕ) → alike ts s u ≡ true → length s ≡ length u
unfolding alike
alike-length [] [] [] e = refl
alike-length [] [] (y ∷ u) e = conflict e refl
alike-length [] (x ∷ s) u e = conflict e refl
alike-length (t ∷ ts) [] u e = conflict e refl
alike-length (t ∷ ts) (x ∷ s) [] e = conflict e refl
alike-length (t ∷ ts) (x ∷ s) (y ∷ u) e = ap suc (alike-length ts s u (and_right (t or eqb x y) _ e))

-- a place's columns: only those of 0 and of blanks become others
place-alike : (p : Given) (l : List ℕ) → alike (replicate 6 (is_open p)) (given_columns p) (columns 6 (place_or (given_number p) l)) ≡ true
place-alike left_blank l = alike-open 6 _ _ refl (columns-length 6 _)
place-alike (numbered zero) l = alike-open 6 _ _ (columns-length 6 zero) (columns-length 6 _)
place-alike (numbered (suc p)) l = rw (ne_eqb (suc p) 0 (λ e. omega arith)) (alike_same 6 (columns 6 (suc p)) (columns-length 6 (suc p)))

batch-alike : (b : Described) → alike (open_in_batch b) (render_batch b) (render_batch (described_batch (placed b))) ≡ true
batch-alike b =
    let t = columns 6 b.minutes in
    let g = given_columns b.place in
    let p = columns 6 (placed b).place in
    let l = line (mark b.started ∷ length b.list ∷ b.list) in
    alike-append (replicate 6 false) t t (replicate 6 (is_open b.place) ++ unmarked l) (g ++ l) (p ++ l)
    (alike_same 6 t (columns-length 6 b.minutes))
    (alike-append (replicate 6 (is_open b.place)) g p (unmarked l) l l (place-alike b.place b.list) (alike_same (length l) l refl))

batches-alike : (bs : List Described) → alike (open_in_batches bs) (render_batches bs) (render_batches (map described_batch (map placed bs))) ≡ true
unfolding open_in_batches render_batches alike
batches-alike [] = refl
batches-alike (b ∷ bs) =
    alike-append (open_in_batch b) (render_batch b) (render_batch (described_batch (placed b))) (open_in_batches bs) (render_batches bs)
    (render_batches (map described_batch (map placed bs))) (batch-alike b) (batches-alike bs)

file-alike : (d : Description) → alike (open_columns d) (render d) (written (book_said d)) ≡ true
unfolding open_columns render written
file-alike d =
    let l = line (d.m ∷ length d.batches ∷ []) in
    let c = line d.calibrations in
    let b = render_batches d.batches in
    let w = render_batches (map described_batch (map placed d.batches)) in
    let n : length (map described_batch (map placed d.batches)) ≡ length d.batches =
    length-map (map placed d.batches) described_batch ∙ length-map d.batches placed in
    rw n
    (alike-append (unmarked l) l l (unmarked c ++ open_in_batches d.batches) (c ++ b) (c ++ w) (alike_same (length l) l refl)
    (alike-append (unmarked c) c c (open_in_batches d.batches) b w (alike_same (length c) c refl) (batches-alike d.batches)))

-- What the file s says, read as k. And whatever description s is the file of: the file written from k is s but for the places that it
-- gives as 0 or blank.
pub record Rewritten (s : List ℕ) (k : Book) : Type 0 where
  pub says : Description
  pub within : within_limits says ≡ true
  pub file : render says ≡ s
  pub same : (d : Description) → within_limits d ≡ true → render d ≡ s → alike (open_columns d) s (written k) ≡ true
  pub long : length (written k) ≡ length s

any-alike : (s : List ℕ) (k : Book) → read s ≡ accepted k → (d : Description) → within_limits d ≡ true → render d ≡ s
    → alike (open_columns d) s (written k) ≡ true
any-alike s k e d w f =
    let q : accepted (book_said d) ≡ accepted k = sym (read-render d w) ∙ ap read f ∙ e in
    let b : book_said d ≡ k = cc in
    rw (f, b) at (file-alike d)

pub rewritten : (s : List ℕ) (k : Book) → read s ≡ accepted k → Rewritten s k
rewritten s k e =
    let x = read-is-render s k e in
    record {
      says = x.0;
      within = x.1;
      file = x.3;
      same = any-alike s k e;
      long = sym (alike-length (open_columns x.0) s (written k) (any-alike s k e x.0 x.1 x.3));
    }

-- ---- how long a file is

pub batch-length : (b : Described) → length (render_batch b) ≡ 6 * length b.list + 25
batch-length b =
    let p = given_columns b.place in
    let l = line (mark b.started ∷ length b.list ∷ b.list) in
    omega (
      arith,
      length-append (columns 6 b.minutes) (p ++ l),
      columns-length 6 b.minutes,
      length-append p l,
      given-length b.place,
      line-length (mark b.started ∷ length b.list ∷ b.list),
    )
  where
    given-length : (p : Given) → length (given_columns p) ≡ 6
    given-length (numbered v) = columns-length 6 v
    given-length left_blank = refl

batches-few : (m : ℕ) (bs : List Described) → m ≤ 24 → every (batch_within_limits m) bs ≡ true → length (render_batches bs) ≤ 169 * length bs
unfolding render_batches every
batches-few m [] h e = omega arith
batches-few m (b ∷ bs) h e =
    let l = good-list-is m b.list (batch-within-is m b (and_left _ _ e)).list in
    let c : length b.list ≤ m = leb-true _ _ (and_right (leb 1 (length b.list)) _ l.count) in
    omega (
      arith,
      length-append (render_batch b) (render_batches bs),
      batch-length b,
      batches-few m bs h (and_right (batch_within_limits m b) _ e),
    )

-- line 1 has 13 bytes, line 2 at most 145, and a batch line at most 169
file-few : (d : Description) → within_limits d ≡ true → length (render d) ≤ 33958
unfolding render good_instruments
file-few d e =
    let w = within-is d e in
    let l = line (d.m ∷ length d.batches ∷ []) in
    let c = line d.calibrations in
    let m : d.m ≤ 24 = leb-true _ _ (and_right (leb 1 d.m) _ w.instruments) in
    let n : length d.batches ≤ 200 = leb-true _ _ w.room in
    omega (
      arith,
      length-append l (c ++ render_batches d.batches),
      line-length (d.m ∷ length d.batches ∷ []),
      length-append c (render_batches d.batches),
      line-length d.calibrations,
      (good-calibrations-is d.m d.calibrations w.calibrations).count,
      batches-few d.m d.batches m w.batches,
    )

-- no file that is accepted is longer, and none that is written
pub most_bytes : (s : List ℕ) (k : Book) → read s ≡ accepted k → length s ≤ 33958
most_bytes s k e = let w = rewritten s k e in omega (arith, ap length w.file, file-few w.says w.within)

pub most-written : (k : Book) → sound k ≡ true → length (written k) ≤ 33958
unfolding written
most-written k e = file-few (described k) (described-within k e)
