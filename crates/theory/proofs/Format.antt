-- Writing, then reading: the file of a description within the limits is read as the description's book.
use Prim.Native.Nat.{ℕ, zero, suc, ◌^◌, ◌≤◌, ◌<◌}
use mathlib.Core.Path.{◌≡◌, refl, sym, ap, ◌∙◌}
use mathlib.Core.Bool.{Bool, true, false, not}
use mathlib.Core.List.{List, [], ◌∷◌, ◌++◌, map, append-nil, append_assoc}
use native.Mathlib.Omega.{arith}
use lib.ListN.{length, drop, replicate}
use lib.Seq.{drop_at}
use lib.Dec.{leb, ltb, eqb}
use borrow.Author.Tests.{leb-true, ltb-true, eqb-true, eqb-false, lt-ltb, ne_eqb, not-true}
use Rattle.rules.specs.Fold.{◌and◌, ◌or◌, mem, every}
use Rattle.rules.specs.Refusal.{bad_list}
use Rattle.rules.specs.Sheet.{Batch, max_batches, good_instruments, good_minutes, good_calibration, good_calibrations, is_instrument, distinct, good_list, ascending}
use Rattle.rules.specs.Field.{Field}
use Rattle.rules.specs.Read.{gives, or_refuse, field_part, number_at, blank_zero, place_at, end_of_line, head_line, calibrations_at, calibration_line, mark_at, instruments_at, good_place, batch_line, accepted, batch_lines, lines_after, read}
use Rattle.rules.specs.Render.{columns, fields, line, Given, numbered, left_blank, given_number, given_columns, mark, Described, Description, render_batch, render_batches, render, batch_within_limits, within_limits, placed, book_said}
use Rattle.theory.proofs.Logic.{by_test, conflict, and_left, and_right, and-mk, and-no-right, not-mk, or_cases, or-none, or-skip}
use Rattle.theory.proofs.Member.{mem-append, every-mem, every-mk}
use Rattle.theory.proofs.Field.{columns-length, field-columns, field-blanks}

-- ---- fields

-- a number before the rest of the file
column-read : (x : ℕ) (s : List ℕ) → x < 10 ^ 6 → number_at (columns 6 x ++ s) ≡ gives x s
unfolding number_at
column-read x s h =
    ap (λ (f : Field). field_part f (drop 6 (columns 6 x ++ s))) (field-columns x s h)
    ∙ ap (λ (u : List ℕ). gives x u) (drop_at (columns 6 x) s 6 (columns-length 6 x))

-- a number before further fields
pub number_read : (x : ℕ) (xs r : List ℕ) → x < 10 ^ 6 → number_at (fields (x ∷ xs) ++ r) ≡ gives x (fields xs ++ r)
unfolding fields
number_read x xs r h = ap number_at (append_assoc (columns 6 x) (fields xs) r) ∙ column-read x (fields xs ++ r) h

-- a mark says whether a batch has started, and is 0 or 1
pub mark-test : (s : Bool) → eqb (mark s) 1 ≡ s
mark-test true = refl
mark-test false = refl

pub mark-said : (v : ℕ) → v ≤ 1 → mark (eqb v 1) ≡ v
mark-said zero h = refl
mark-said (suc v) h = let e : v ≡ 0 = omega arith in rw e

-- a mark before further fields
mark-read : (s : Bool) (xs r : List ℕ) → mark_at (fields (mark s ∷ xs) ++ r) ≡ gives s (fields xs ++ r)
unfolding mark_at
mark-read true xs r = rw (number_read 1 xs r (omega arith))
mark-read false xs r = rw (number_read 0 xs r (omega arith))

-- a place before the rest of the file
pub place_read : (p : Given) (s : List ℕ) → given_number p < 10 ^ 6 → place_at (given_columns p ++ s) ≡ gives (given_number p) s
unfolding place_at
place_read (numbered x) s h =
    ap (λ (f : Field). field_part (blank_zero f) (drop 6 (columns 6 x ++ s))) (field-columns x s h)
    ∙ ap (λ (u : List ℕ). gives x u) (drop_at (columns 6 x) s 6 (columns-length 6 x))
place_read left_blank s h = ap (λ (f : Field). field_part (blank_zero f) (drop 6 (replicate 6 32 ++ s))) (field-blanks s)

-- ---- a list of instruments

-- what stands between two parts of a list without repeats is not in the part before
distinct-mid : (l : List ℕ) (x : ℕ) (r : List ℕ) → distinct (l ++ (x ∷ r)) ≡ true → mem x l ≡ false
unfolding distinct mem ◌or◌
distinct-mid [] x r e = refl
distinct-mid (y ∷ l) x r e =
    let a : mem y (l ++ (x ∷ r)) ≡ false = not-true _ (and_left _ _ e) in
    let b = or-none (mem y l) (mem y (x ∷ r)) (sym (mem-append l (x ∷ r) y) ∙ a) in
    let c = or-none (eqb x y) (mem y r) b.1 in
    rw (ne_eqb y x (λ q. eqb-false x y c.0 (sym q))) (distinct-mid l x r (and_right (not (mem y (l ++ (x ∷ r)))) _ e))

-- one that is not in a list without repeats may be added
pub distinct_snoc : (l : List ℕ) (x : ℕ) → distinct l ≡ true → mem x l ≡ false → distinct (l ++ (x ∷ [])) ≡ true
unfolding distinct mem
distinct_snoc [] x d e = and-mk _ _ refl refl
distinct_snoc (y ∷ l) x d e =
    let a : mem y l ≡ false = not-true _ (and_left _ _ d) in
    let b = or-none (eqb y x) (mem x l) e in
    let c : eqb x y ≡ false = ne_eqb x y (λ q. eqb-false y x b.0 (sym q)) in
    let f : mem y (l ++ (x ∷ [])) ≡ false = mem-append l (x ∷ []) y ∙ or-skip _ a ∙ or-skip _ c in
    and-mk _ _ (not-mk f) (distinct_snoc l x (and_right (not (mem y l)) _ d) b.1)

-- the limits keep every number within its field
instrument-small : (m i : ℕ) → m ≤ 24 → is_instrument m i ≡ true → i < 10 ^ 6
unfolding is_instrument
instrument-small m i h e = let u : i ≤ m = leb-true i m (and_right (leb 1 i) _ e) in omega arith

-- a number that its field holds
abbrev pub fits : ℕ → Bool
fits x = ltb x 1000000

listed-fit : (m : ℕ) (l : List ℕ) → m ≤ 24 → every (is_instrument m) l ≡ true → every fits l ≡ true
listed-fit m l h e = every-mk fits l (λ i q. lt-ltb i _ (instrument-small m i h (every-mem (is_instrument m) l i e q)))

-- after the members l, where each is judged at its own field
pub instruments-read : (m : ℕ) (xs l r : List ℕ) → every fits xs ≡ true → distinct l ≡ true
    → instruments_at m (length xs) l (fields xs ++ r)
    ≡ or_refuse (every (is_instrument m) xs and distinct (l ++ xs)) bad_list (gives (l ++ xs) r)
unfolding instruments_at every fields ◌and◌
instruments-read m [] l r e d = rw (append-nil l, d)
instruments-read m (x ∷ xs) l r e d =
    rw (number_read x xs r (ltb-true x _ (and_left _ _ e)))
    (by_test (is_instrument m x)
    (λ a. by_test (mem x l)
    (λ b.
    let d : distinct (l ++ (x ∷ xs)) ≡ false = by_test _ (λ t. conflict b (distinct-mid l x xs t)) (λ t. t) in
    let n : every (is_instrument m) xs and distinct (l ++ (x ∷ xs)) ≡ false = and-no-right (every (is_instrument m) xs) _ d in
    rw (a, b, n))
    (λ b. rw (a, b)
    (instruments-read m xs (l ++ (x ∷ [])) r (and_right (fits x) _ e) (distinct_snoc l x d b)
    ∙ ap (λ (u : List ℕ). or_refuse (every (is_instrument m) xs and distinct u) bad_list (gives u r)) (append_assoc l (x ∷ []) xs))))
    (λ a. rw a))

-- ---- a batch line

-- a line before the rest of the file
pub line-rest : (xs r : List ℕ) → line xs ++ r ≡ fields xs ++ (10 ∷ r)
line-rest xs r = append_assoc (fields xs) (10 ∷ []) r

-- the parts of a batch within the limits
pub record BatchWithinLimits (m : ℕ) (b : Described) : Type 0 where
  pub minutes : good_minutes b.minutes ≡ true
  pub list : good_list m b.list ≡ true
  pub order : ascending b.list ≡ true
  pub place : good_place b.started (given_number b.place) b.list ≡ true

pub batch-within-is : (m : ℕ) (b : Described) → batch_within_limits m b ≡ true → BatchWithinLimits m b
unfolding batch_within_limits
batch-within-is m b e =
    let r = and_right (good_minutes b.minutes) _ e in
    let s = and_right (good_list m b.list) _ r in
    record { minutes = and_left _ _ e; list = and_left _ _ r; order = and_left _ _ s; place = and_right (ascending b.list) _ s }

-- the parts of a list of qualified instruments
pub record GoodList (m : ℕ) (l : List ℕ) : Type 0 where
  pub count : leb 1 (length l) and leb (length l) m ≡ true
  pub ranged : every (is_instrument m) l ≡ true
  pub apart : distinct l ≡ true

pub good-list-is : (m : ℕ) (l : List ℕ) → good_list m l ≡ true → GoodList m l
unfolding good_list
good-list-is m l e =
    let r = and_right (leb 1 (length l)) _ e in
    let s = and_right (leb (length l) m) _ r in
    record {
      count = and-mk _ _ (and_left _ _ e) (and_left _ _ r);
      ranged = and_left _ _ s;
      apart = and_right (every (is_instrument m) l) _ s;
    }

minutes-small : (t : ℕ) → good_minutes t ≡ true → t < 10 ^ 6
unfolding good_minutes
minutes-small t e = let u : t ≤ 1440 = leb-true t 1440 (and_right (leb 1 t) _ e) in omega arith

place-small : (m : ℕ) (s : Bool) (p : ℕ) (l : List ℕ) → m ≤ 24 → every (is_instrument m) l ≡ true → good_place s p l ≡ true → p < 10 ^ 6
unfolding good_place
place-small m s p l h g e =
    or_cases (not s and eqb p 0) (mem p l) e
    (λ t. omega (arith, eqb-true p 0 (and_right (not s) _ t)))
    (λ t. instrument-small m p h (every-mem (is_instrument m) l p g t))

count_small : (m c : ℕ) → m ≤ 24 → leb 1 c and leb c m ≡ true → c < 10 ^ 6
count_small m c h e = let u : c ≤ m = leb-true c m (and_right (leb 1 c) _ e) in omega arith

-- a batch line before the rest of the file
pub batch-rest : (b : Described) (r : List ℕ) → render_batch b ++ r
    ≡ columns 6 b.minutes ++ (given_columns b.place ++ (fields (mark b.started ∷ length b.list ∷ b.list) ++ (10 ∷ r)))
batch-rest b r = simp append_assoc

pub batch-read : (m : ℕ) (b : Described) (r : List ℕ) → m ≤ 24 → batch_within_limits m b ≡ true
    → batch_line m (render_batch b ++ r) ≡ gives (placed b) r
unfolding batch_line end_of_line distinct
batch-read m b r h e =
    let f = batch-within-is m b e in
    let g = good-list-is m b.list f.list in
    let u = fields (mark b.started ∷ length b.list ∷ b.list) ++ (10 ∷ r) in
    rw (
      batch-rest b r,
      column-read b.minutes (given_columns b.place ++ u) (minutes-small _ f.minutes),
      f.minutes,
      place_read b.place u (place-small m b.started _ b.list h g.ranged f.place),
      mark-read b.started (length b.list ∷ b.list) (10 ∷ r),
      number_read (length b.list) b.list (10 ∷ r) (count_small m _ h g.count),
      g.count,
      instruments-read m b.list [] (10 ∷ r) (listed-fit m b.list h g.ranged) refl,
      and-mk _ _ g.ranged g.apart,
      f.order,
      f.place,
    )

-- ---- the batch lines

pub batches-read : (m : ℕ) (l : List ℕ) (ds : List Described) (bs : List Batch) (j : ℕ) → m ≤ 24 → every (batch_within_limits m) ds ≡ true
    → batch_lines m l (length ds) j bs (render_batches ds) ≡ accepted (record { m = m; calibrations = l; batches = bs ++ map placed ds })
unfolding batch_lines render_batches every
batches-read m l [] bs j h e =
    ap (λ (u : List Batch). accepted (record { m = m; calibrations = l; batches = u })) (sym (append-nil bs))
batches-read m l (d ∷ ds) bs j h e =
    rw (batch-read m d (render_batches ds) h (and_left _ _ e))
    (batches-read m l ds (bs ++ (placed d ∷ [])) (suc j) h (and_right (batch_within_limits m d) _ e)
    ∙ ap (λ (u : List Batch). accepted (record { m = m; calibrations = l; batches = u })) (append_assoc bs (placed d ∷ []) (map placed ds)))

-- ---- line 2: the calibrations

-- the parts of the calibrations within the limits
pub record GoodCalibrations (m : ℕ) (l : List ℕ) : Type 0 where
  pub count : length l ≡ m
  pub each : every good_calibration l ≡ true

pub good-calibrations-is : (m : ℕ) (l : List ℕ) → good_calibrations m l ≡ true → GoodCalibrations m l
unfolding good_calibrations
good-calibrations-is m l e =
    record { count = eqb-true (length l) m (and_left _ _ e); each = and_right (eqb (length l) m) _ e }

calibration-small : (t : ℕ) → good_calibration t ≡ true → t < 10 ^ 6
unfolding good_calibration
calibration-small t e = let u : t ≤ 240 = leb-true t 240 e in omega arith

pub calibrations-read : (xs l r : List ℕ) → every good_calibration xs ≡ true
    → calibrations_at (length xs) l (fields xs ++ r) ≡ gives (l ++ xs) r
unfolding calibrations_at every fields
calibrations-read [] l r e = ap (λ (u : List ℕ). gives u r) (sym (append-nil l))
calibrations-read (x ∷ xs) l r e =
    let a : good_calibration x ≡ true = and_left _ _ e in
    rw (number_read x xs r (calibration-small x a), a)
    (calibrations-read xs (l ++ (x ∷ [])) r (and_right (good_calibration x) _ e)
    ∙ ap (λ (u : List ℕ). gives u r) (append_assoc l (x ∷ []) xs))

pub calibration-line-read : (m : ℕ) (l r : List ℕ) → good_calibrations m l ≡ true → calibration_line m (line l ++ r) ≡ gives l r
unfolding calibration_line end_of_line
calibration-line-read m l r e =
    let g = good-calibrations-is m l e in
    rw (line-rest l r, ← g.count, calibrations-read l [] (10 ∷ r) g.each)

-- ---- the file

-- the parts of a description within the limits
pub record WithinLimits (d : Description) : Type 0 where
  pub instruments : good_instruments d.m ≡ true
  pub calibrations : good_calibrations d.m d.calibrations ≡ true
  pub room : leb (length d.batches) max_batches ≡ true
  pub batches : every (batch_within_limits d.m) d.batches ≡ true

pub within-is : (d : Description) → within_limits d ≡ true → WithinLimits d
unfolding within_limits
within-is d e =
    let r = and_right (good_instruments d.m) _ e in
    let s = and_right (good_calibrations d.m d.calibrations) _ r in
    record {
      instruments = and_left _ _ e;
      calibrations = and_left _ _ r;
      room = and_left _ _ s;
      batches = and_right (leb (length d.batches) max_batches) _ s;
    }

pub few : (m : ℕ) → good_instruments m ≡ true → m ≤ 24
unfolding good_instruments
few m e = leb-true m 24 (and_right (leb 1 m) _ e)

pub head_read : (m n : ℕ) (r : List ℕ) → good_instruments m ≡ true → leb n max_batches ≡ true
    → head_line (line (m ∷ n ∷ []) ++ r) ≡ gives (record { m = m; n = n }) r
unfolding head_line end_of_line fields
head_read m n r e f =
    let l = few m e in
    let k : n ≤ 200 = leb-true n 200 f in
    rw (
      line-rest (m ∷ n ∷ []) r,
      number_read m (n ∷ []) (10 ∷ r) (omega arith),
      e,
      number_read n [] (10 ∷ r) (omega arith),
      f,
    )

pub read-render : (d : Description) → within_limits d ≡ true → read (render d) ≡ accepted (book_said d)
unfolding read lines_after render
read-render d e =
    let f = within-is d e in
    let b = render_batches d.batches in
    rw (
      head_read d.m (length d.batches) (line d.calibrations ++ b) f.instruments f.room,
      calibration-line-read d.m d.calibrations b f.calibrations,
    )
    (batches-read d.m d.calibrations d.batches [] 3 (few d.m f.instruments) f.batches)
