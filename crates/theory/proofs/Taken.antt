-- Taking a worklist (document 02, C-18): reading the sheet that says the same is to enter one row after the other, and its book is sound.
use Prim.Native.Nat.{ℕ, zero, suc, ◌+◌, ◌-◌, ◌*◌, ◌≤◌, ◌<◌}
use mathlib.Core.Path.{◌≡◌, refl, ap, ◌∙◌, subst}
use mathlib.Core.Bool.{Bool, true, false}
use mathlib.Core.List.{List, [], ◌∷◌, ◌++◌, append_assoc}
use mathlib.Core.Option.{Option, some, none}
use native.Mathlib.Omega.{arith}
use lib.ListN.{length}
use lib.Dec.{leb, eqb}
use borrow.Author.Tests.{leb-true, leb-false, ltb-true, lt-leb, lt-ltb}
use Rattle.rules.specs.Fold.{◌and◌, every}
use Rattle.rules.specs.Refusal.{Refusal, malformed, bad_length, bad_list, bad_place, bad_order}
use Rattle.rules.specs.Sheet.{Book, Batch, max_batches, good_instruments, good_minutes, good_calibrations, distinct, good_list, ascending, sound}
use Rattle.rules.specs.Field.{is_digit}
use Rattle.rules.specs.Read.{Part, gives, and_then, or_refuse, place_at, end_of_line, mark_at, instruments_at, good_place, batch_line, Reading, accepted, refused_at, on_line, batch_lines, lines_after, read}
use Rattle.rules.specs.Render.{columns, fields, line, numbered}
use Rattle.rules.specs.Edit.{Edited, unless}
use Rattle.rules.specs.Csv.{csv}
use Rattle.rules.specs.Worklist.{when_some, well_formed, value_from, number, number_or_empty, parts, numbers, number_list, Row, next_field, no_field, row_of, Worklist, rows, faulty_row, row_or_fault, rows_of, worklist, count_of, row_line, row_lines, sheet_saying, by_row, taken_rows, taken}
use Rattle.theory.proofs.Logic.{by_test, and_left, and_right, and-mk, and-no-right}
use Rattle.theory.proofs.Format.{fits, number_read, place_read, instruments-read, line-rest, calibration-line-read, few, head_read}
use Rattle.theory.proofs.Parse.{no-reading}
use Rattle.theory.proofs.Sound.{read-sound}
use Rattle.theory.proofs.Worklist.{bare, row_batch, with_row, on_row, with_rows, given, on_given, rows_on, long-list, judged-accepted}

-- ---- a row read as a batch line

-- every number of a row fits its field
unfoldable pub small_row : Row → Bool
small_row w = fits w.minutes and fits w.place and fits w.mark and every fits w.list

record SmallRow (w : Row) : Type 0 where
  minutes : w.minutes < 1000000
  place : w.place < 1000000
  mark : w.mark < 1000000
  list : every fits w.list ≡ true

small_is : (w : Row) → small_row w ≡ true → SmallRow w
unfolding small_row
small_is w e =
    let a = and_right (fits w.minutes) _ e in
    let b = and_right (fits w.place) _ a in
    record {
      minutes = ltb-true _ _ (and_left _ _ e);
      place = ltb-true _ _ (and_left _ _ a);
      mark = ltb-true _ _ (and_left _ _ b);
      list = and_right (fits w.mark) _ b;
    }

-- the count is judged, and then each member
two-judged : {Y : Type 0} (a b c : Bool) (l r : List ℕ) (next : List ℕ → List ℕ → Part Y)
    → or_refuse (a and b) bad_list (and_then (or_refuse c bad_list (gives l r)) next) ≡ or_refuse (a and b and c) bad_list (next l r)
unfolding ◌and◌
two-judged false b c l r next = refl
two-judged true false c l r next = refl
two-judged true true false l r next = refl
two-judged true true true l r next = refl

-- a list behind its count: a count that its field cannot hold is above m as well
list_read : {Y : Type 0} (m : ℕ) (l r : List ℕ) (next : List ℕ → List ℕ → Part Y) → m ≤ 24 → every fits l ≡ true
    → or_refuse (leb 1 (count_of l) and leb (count_of l) m) bad_list (and_then (instruments_at m (count_of l) [] (fields l ++ r)) next)
    ≡ or_refuse (good_list m l) bad_list (next l r)
unfolding good_list distinct
list_read m l r next h e =
    by_test (leb (length l) 999999)
    (λ a. rw (a, instruments-read m l [] r e refl) (two-judged (leb 1 (length l)) (leb (length l) m) _ l r next))
    (λ a.
    let u : 999999 < length l = leb-false _ _ a in
    let v : leb 1 999999 and leb 999999 m ≡ false = and-no-right _ _ (lt-leb 999999 m (omega arith)) in
    rw (a, long-list m l (omega arith), v))

count_fits : (l : List ℕ) → count_of l < 1000000
count_fits l = by_test (leb (length l) 999999) (λ t. rw t (omega (arith, leb-true (length l) 999999 t))) (λ t. rw t (omega arith))

place-number : (x : ℕ) (xs r : List ℕ) → x < 1000000 → place_at (fields (x ∷ xs) ++ r) ≡ gives x (fields xs ++ r)
unfolding fields
place-number x xs r h = ap place_at (append_assoc (columns 6 x) (fields xs) r) ∙ place_read (numbered x) (fields xs ++ r) h

pub row_read : (m : ℕ) (w : Row) (r : List ℕ) → m ≤ 24 → small_row w ≡ true
    → batch_line m (row_line w ++ r)
    ≡ or_refuse (good_minutes w.minutes) bad_length
    (or_refuse (leb w.mark 1) malformed
    (or_refuse (good_list m w.list) bad_list
    (or_refuse (ascending w.list) bad_order
    (or_refuse (good_place (eqb w.mark 1) w.place w.list) bad_place
    (gives (row_batch w) r)))))
unfolding batch_line mark_at end_of_line
row_read m w r h e =
    let s = small_is w e in
    let c = count_of w.list in
    rw (
      line-rest (w.minutes ∷ w.place ∷ w.mark ∷ c ∷ w.list) r,
      number_read w.minutes (w.place ∷ w.mark ∷ c ∷ w.list) (10 ∷ r) s.minutes,
      place-number w.place (w.mark ∷ c ∷ w.list) (10 ∷ r) s.place,
      number_read w.mark (c ∷ w.list) (10 ∷ r) s.mark,
    )
    (by_test (leb w.mark 1)
    (λ t. rw (t, number_read c w.list (10 ∷ r) (count_fits w.list))
    (ap (λ (p : Part Batch). or_refuse (good_minutes w.minutes) bad_length p) (list_read m w.list (10 ∷ r) _ h s.list)))
    (λ t. rw t))

-- ---- the rows of a sheet

-- line j + 2 is row j, and a test that it fails refuses as the row's
row-judged : (j : ℕ) (next : Batch → List ℕ → Reading) (go : Book → Reading) (t : Bool) (e : Refusal) (p : Part Batch) (o : Edited)
    → by_row (on_line (suc (suc j)) p next) ≡ on_row j o go
    → by_row (on_line (suc (suc j)) (or_refuse t e p) next) ≡ on_row j (unless t e o) go
row-judged j next go true e p o h = h
row-judged j next go false e p o h = ap (λ (i : ℕ). refused_at e i) (omega arith)

-- the batch lines enter the rows one after the other
lines-read : (m : ℕ) (l : List ℕ) (bs : List Batch) (j : ℕ) (ws : List Row) → m ≤ 24 → every small_row ws ≡ true
    → by_row (batch_lines m l (length ws) (suc (suc j)) bs (row_lines ws))
    ≡ with_rows (record { m = m; calibrations = l; batches = bs }) j ws
unfolding batch_lines row_lines with_rows with_row every
lines-read m l bs j [] h e = refl
lines-read m l bs j (w ∷ ws) h e =
    rw (row_read m w (row_lines ws) h (and_left _ _ e))
    (row-judged j _ _ (good_minutes w.minutes) bad_length _ _
    (row-judged j _ _ (leb w.mark 1) malformed _ _
    (row-judged j _ _ (good_list m w.list) bad_list _ _
    (row-judged j _ _ (ascending w.list) bad_order _ _
    (row-judged j _ _ (good_place (eqb w.mark 1) w.place w.list) bad_place _ _
    (lines-read m l (bs ++ (row_batch w ∷ [])) (suc j) ws h (and_right (small_row w) _ e)))))))

-- so is the whole sheet
pub rows-read : (m : ℕ) (l : List ℕ) (ws : List Row) → good_instruments m ≡ true → good_calibrations m l ≡ true
    → leb (length ws) max_batches ≡ true → every small_row ws ≡ true → by_row (read (sheet_saying m l ws)) ≡ with_rows (bare m l) 1 ws
unfolding read lines_after sheet_saying
rows-read m l ws a b c e =
    rw (head_read m (length ws) (line l ++ row_lines ws) a c, calibration-line-read m l (row_lines ws) b)
    (lines-read m l [] 1 ws (few m a) e)

-- ---- the numbers of a worklist fit their fields

no-some {ℓ} : {X : Type 0} {C : Type ℓ} {x : X} → none ≡ some x → C
no-some e = absurd (let z : ◌≡◌ {A = ℕ} 0 1 = cc in omega arith)

no_rows {ℓ} : {C : Type ℓ} {j : ℕ} {ws : List Row} → faulty_row j ≡ rows ws → C
no_rows e = absurd (let z : ◌≡◌ {A = ℕ} 0 1 = cc in omega arith)

-- ten times b for each of n digits
abbrev raised : ℕ → ℕ → ℕ
raised b zero = b
raised b (suc n) = raised (10 * b) n

raised-more : (b n : ℕ) → b ≤ raised b n
raised-more b zero = omega arith
raised-more b (suc n) = omega (arith, raised-more (10 * b) n)

value-below : (f : List ℕ) (n v b : ℕ) → v < b → length f ≤ n → every is_digit f ≡ true → value_from v f < raised b n
unfolding value_from every
value-below [] n v b h l e = omega (arith, raised-more b n)
value-below (x ∷ f) zero v b h l e = absurd (omega arith)
value-below (x ∷ f) (suc n) v b h l e =
    let u : x ≤ 57 = leb-true x 57 (and_right (leb 48 x) _ (and_left _ _ e)) in
    value-below f n (10 * v + (x - 48)) (10 * b) (omega arith) (omega arith) (and_right (is_digit x) _ e)

number_fits : (f : List ℕ) (v : ℕ) → number f ≡ some v → fits v ≡ true
unfolding number well_formed
number_fits f v e =
    by_test (well_formed f)
    (λ t.
    let p : some (value_from 0 f) ≡ some v = rw t at e in
    let q : value_from 0 f ≡ v = cc in
    let r = and_right (leb 1 (length f)) _ t in
    let d = and_left _ _ (and_right (leb (length f) 6) _ r) in
    lt-ltb v _ (subst (λ (x : ℕ). x < 1000000) q (value-below f 6 0 1 (omega arith) (leb-true _ _ (and_left _ _ r)) d)))
    (λ t. no-some (rw t at e))

place-fits : (f : List ℕ) (v : ℕ) → number_or_empty f ≡ some v → fits v ≡ true
unfolding number_or_empty
place-fits [] v e = let q : 0 ≡ v = cc in subst (λ (x : ℕ). fits x ≡ true) q refl
place-fits (x ∷ f) v e = number_fits (x ∷ f) v e

module _ {X Y C : Type 0} {y : Y} where
  then_some : (o : Option X) (next : X → Option Y) → when_some o next ≡ some y → ((x : X) → o ≡ some x → next x ≡ some y → C) → C
  then_some (some x) next e f = f x refl e
  then_some none next e f = no-some e

  field-some : (says : List ℕ → Option X) (fs : List (List ℕ)) (next : X → List (List ℕ) → Option Y) → next_field says fs next ≡ some y
      → ((f : List ℕ) (x : X) (r : List (List ℕ)) → says f ≡ some x → next x r ≡ some y → C) → C
  field-some says [] next e k = no-some e
  field-some says (f ∷ fs) next e k = then_some (says f) _ e (λ x e₁ h₁. k f x fs e₁ h₁)

numbers_fit : (ps : List (List ℕ)) (l : List ℕ) → numbers ps ≡ some l → every fits l ≡ true
unfolding numbers every
numbers_fit [] l e = let q : [] ≡ l = cc in subst (λ (k : List ℕ). every fits k ≡ true) q refl
numbers_fit (p ∷ ps) l e =
    then_some (number p) _ e (λ v e₁ h₁.
    then_some (numbers ps) _ h₁ (λ k e₂ h₂.
    let q : v ∷ k ≡ l = cc in
    subst (λ (i : List ℕ). every fits i ≡ true) q (and-mk _ _ (number_fits p v e₁) (numbers_fit ps k e₂))))

last-field : (fs : List (List ℕ)) (v w : Row) → no_field fs v ≡ some w → v ≡ w
last-field [] v w e = cc
last-field (f ∷ fs) v w e = no-some e

row_small : (fs : List (List ℕ)) (w : Row) → row_of fs ≡ some w → small_row w ≡ true
unfolding row_of small_row number_list
row_small fs w e =
    field-some number fs _ e (λ f₁ t r₁ e₁ h₁.
    field-some number_or_empty r₁ _ h₁ (λ f₂ p r₂ e₂ h₂.
    field-some number r₂ _ h₂ (λ f₃ k r₃ e₃ h₃.
    field-some number_list r₃ _ h₃ (λ f₄ l r₄ e₄ h₄.
    subst (λ (x : Row). small_row x ≡ true) (last-field r₄ _ w h₄)
    (and-mk _ _ (number_fits f₁ t e₁) (and-mk _ _ (place-fits f₂ p e₂) (and-mk _ _ (number_fits f₃ k e₃) (numbers_fit (parts f₄) l e₄))))))))

row-some : {C : Type 0} (j : ℕ) (o : Option Row) (after : Worklist) (ws : List Row) → row_or_fault j o after ≡ rows ws
    → ((w : Row) (vs : List Row) → o ≡ some w → after ≡ rows vs → w ∷ vs ≡ ws → C) → C
row-some j none after ws e f = no_rows e
row-some j (some w) (rows vs) ws e f = let q : w ∷ vs ≡ ws = cc in f w vs refl refl q
row-some j (some w) (faulty_row i) ws e f = no_rows e

rows-small : (j : ℕ) (fs : List (List (List ℕ))) (k : ℕ) (ws : List Row) → rows_of j fs k ≡ rows ws → every small_row ws ≡ true
unfolding rows_of every
rows-small j [] zero ws e = let q : [] ≡ ws = cc in subst (λ (v : List Row). every small_row v ≡ true) q refl
rows-small j [] (suc k) ws e = no_rows e
rows-small j (f ∷ fs) k ws e =
    row-some j (row_of f) (rows_of (suc j) fs k) ws e (λ w vs e₁ e₂ q.
    subst (λ (v : List Row). every small_row v ≡ true) q (and-mk _ _ (row_small f w e₁) (rows-small (suc j) fs k vs e₂)))

pub worklist-small : (s : List ℕ) (ws : List Row) → worklist s ≡ rows ws → every small_row ws ≡ true
unfolding worklist
worklist-small s ws e = rows-small 1 (csv s).records (csv s).fault ws e

-- ---- taking a worklist

file-read : (m : ℕ) (l s : List ℕ) → good_instruments m ≡ true → good_calibrations m l ≡ true → (v : Worklist) → worklist s ≡ v
    → taken_rows m l v ≡ rows_on (bare m l) v
file-read m l s a b (rows ws) e =
    by_test (leb (length ws) max_batches) (λ t. rw t (rows-read m l ws a b t (worklist-small s ws e))) (λ t. rw t)
file-read m l s a b (faulty_row j) e = refl

-- row by row
pub taken_is : (m : ℕ) (l s : List ℕ) → taken m l s ≡ on_given (given m l) (λ k. rows_on k (worklist s))
unfolding taken given
taken_is m l s =
    by_test (good_instruments m)
    (λ a. by_test (good_calibrations m l) (λ b. rw (a, b) (file-read m l s a b (worklist s) refl)) (λ b. rw (a, b)))
    (λ a. rw a)

by-row-accepted : (o : Reading) (k : Book) → by_row o ≡ accepted k → o ≡ accepted k
by-row-accepted (accepted j) k e = e
by-row-accepted (refused_at g j) k e = no-reading e

-- the book that is taken is that of a sheet
pub taken-reads : (m : ℕ) (l s : List ℕ) (k : Book) → taken m l s ≡ accepted k
    → (ws : List Row) × (worklist s ≡ rows ws) × (leb (length ws) max_batches ≡ true) × (read (sheet_saying m l ws) ≡ accepted k)
unfolding taken
taken-reads m l s k e =
    let a = judged-accepted (good_instruments m) _ _ k e in
    let b = judged-accepted (good_calibrations m l) _ _ k a.1 in
    from (worklist s) refl b.1
  where
    from : (v : Worklist) → worklist s ≡ v → taken_rows m l v ≡ accepted k
        → (ws : List Row) × (worklist s ≡ rows ws) × (leb (length ws) max_batches ≡ true) × (read (sheet_saying m l ws) ≡ accepted k)
    from (rows ws) q h =
        let c = judged-accepted (leb (length ws) max_batches) _ _ k h in
        (ws, q, c.0, by-row-accepted (read (sheet_saying m l ws)) k c.1)
    from (faulty_row j) q h = no-reading h

pub taken-sound : (m : ℕ) (l s : List ℕ) (k : Book) → taken m l s ≡ accepted k → sound k ≡ true
taken-sound m l s k e = let r = taken-reads m l s k e in read-sound (sheet_saying m l r.0) k r.3
