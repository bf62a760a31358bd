-- Taking a worklist (document 02, C-18), row by row: each row is judged by the sheet's checks in their order, and entered as the last batch.
use Prim.Native.Nat.{ℕ, suc, ◌<◌}
use mathlib.Core.Path.{◌≡◌, refl, sym, ap, ◌∙◌, subst}
use mathlib.Core.Bool.{Bool, true, false}
use mathlib.Core.List.{List, [], ◌∷◌, ◌++◌}
use native.Mathlib.Omega.{arith}
use lib.ListN.{length, take, length-append}
use lib.Seq.{length-take-le, take_all}
use lib.Dec.{leb, ltb, eqb}
use borrow.Author.Tests.{leb-true, leb-false, ltb-true, lt-leb}
use Rattle.rules.specs.Fold.{◌and◌, ◌or◌, every}
use Rattle.rules.specs.Refusal.{Refusal, malformed, bad_size, bad_length, bad_place, bad_calibration, bad_worklist}
use Rattle.rules.specs.Sheet.{Book, Batch, size, max_batches, good_instruments, good_minutes, good_calibrations, good_list, ascending, sound}
use Rattle.rules.specs.Read.{place_or, good_place, Reading, accepted, refused_at}
use Rattle.rules.specs.Edit.{add, Edited, refused, edited, unless, with_batches, if_listed, edit}
use Rattle.rules.specs.Worklist.{Row, Worklist, rows, faulty_row, or_at_none}
use Rattle.theory.proofs.Logic.{by_test, and-no-left, and-no-right}
use Rattle.theory.proofs.Parse.{no-reading}
use Rattle.theory.proofs.Sound.{sound-is, is-sound, good-some, place-listed, passes, lists, appended-sound, gave}

-- the book of what the host gives: no batch yet
abbrev pub bare : ℕ → List ℕ → Book
bare m l = record { m = m; calibrations = l; batches = [] }

-- the batch of a row
abbrev pub row_batch : Row → Batch
row_batch w = record { minutes = w.minutes; list = w.list; place = place_or w.place w.list; started = eqb w.mark 1 }

-- a row entered as the last batch
unfoldable pub with_row : Book → Row → Edited
with_row k w =
    unless (good_minutes w.minutes) bad_length
    (unless (leb w.mark 1) malformed
    (if_listed k.m w.list
    (unless (good_place (eqb w.mark 1) w.place w.list) bad_place
    (edited (with_batches k (k.batches ++ (row_batch w ∷ [])))))))

abbrev pub on_row : ℕ → Edited → (Book → Reading) → Reading
on_row j (edited k) next = next k
on_row j (refused e) next = refused_at e j

-- the rows from number j on, one after the other
unfoldable pub with_rows : Book → ℕ → List Row → Reading
with_rows k j [] = accepted k
with_rows k j (w ∷ ws) = on_row j (with_row k w) (λ k₁. with_rows k₁ (suc j) ws)

-- what the host gives: judged, and the book without a batch
unfoldable pub given : ℕ → List ℕ → Reading
given m l = or_at_none (good_instruments m) bad_size (or_at_none (good_calibrations m l) bad_calibration (accepted (bare m l)))

-- go on with the book that the host gives
abbrev pub on_given : Reading → (Book → Reading) → Reading
on_given (accepted k) next = next k
on_given (refused_at e j) next = refused_at e j

-- the rows of a worklist, entered
abbrev pub rows_on : Book → Worklist → Reading
rows_on k (rows ws) = or_at_none (leb (length ws) max_batches) bad_size (with_rows k 1 ws)
rows_on k (faulty_row j) = refused_at bad_worklist j

-- ---- one row entered

-- what a row that is entered passed, and its book
record Entered (k : Book) (w : Row) (j : Book) : Type 0 where
  minutes : good_minutes w.minutes ≡ true
  list : good_list k.m w.list ≡ true
  order : ascending w.list ≡ true
  place : good_place (eqb w.mark 1) w.place w.list ≡ true
  book : edited (with_batches k (k.batches ++ (row_batch w ∷ []))) ≡ edited j

entered : (k : Book) (w : Row) (j : Book) → with_row k w ≡ edited j → Entered k w j
unfolding with_row
entered k w j e =
    let a = passes (good_minutes w.minutes) _ _ j e in
    let b = passes (leb w.mark 1) _ _ j a.1 in
    let c = lists k.m w.list _ j b.1 in
    let d = passes (good_place (eqb w.mark 1) w.place w.list) _ _ j c.2 in
    record { minutes = a.0; list = c.0; order = c.1; place = d.0; book = d.1 }

pub with-row-sound : (k : Book) (w : Row) (j : Book) → sound k ≡ true → ltb (size k) max_batches ≡ true → with_row k w ≡ edited j
    → sound j ≡ true
with-row-sound k w j v h e =
    let r = entered k w j e in
    let p = place-listed (eqb w.mark 1) w.place w.list (good-some k.m w.list r.list) r.place in
    gave (appended-sound k (row_batch w) (sound-is k v) (record { minutes = r.minutes; list = r.list; order = r.order; place = p }) (ltb-true _ _ h))
    r.book

pub row_more : (k : Book) (w : Row) (j : Book) → with_row k w ≡ edited j → size j ≡ suc (size k)
row_more k w j e =
    let r = (entered k w j e).book in
    let q : with_batches k (k.batches ++ (row_batch w ∷ [])) ≡ j = cc in
    ap size (sym q) ∙ omega (arith, length-append k.batches (row_batch w ∷ []))

-- to add a batch is to enter a row without a place and without a mark
pub add_row : (k : Book) (t : ℕ) (l : List ℕ) → ltb (size k) max_batches ≡ true
    → with_row k (record { minutes = t; place = 0; mark = 0; list = l }) ≡ edit k (add t l)
unfolding with_row edit good_place ◌and◌ ◌or◌
add_row k t l h = rw h

-- a row with another list
abbrev pub with_members : Row → List ℕ → Row
with_members w l = record { minutes = w.minutes; place = w.place; mark = w.mark; list = l }

-- a list longer than m is refused, whatever it names
pub long-list : (m : ℕ) (l : List ℕ) → m < length l → good_list m l ≡ false
unfolding good_list
long-list m l h = and-no-right (leb 1 (length l)) _ (and-no-left _ _ (lt-leb (length l) m h))

-- so what looks at a list only by whether it is good takes its first n for all of it, if n is more than m
pub first-few : {X : Type 0} (m n : ℕ) (l : List ℕ) (f : List ℕ → X) → m < n
    → ((d : List ℕ) → good_list m d ≡ false → good_list m l ≡ false → f d ≡ f l) → f (take n l) ≡ f l
first-few m n l f h g =
    by_test (leb (length l) n)
    (λ t. ap f (take_all n l (leb-true _ _ t)))
    (λ t.
    let u : n < length l = leb-false _ _ t in
    let e : length (take n l) ≡ n = length-take-le n l (omega arith) in
    g (take n l) (long-list m (take n l) (omega arith)) (long-list m l (omega arith)))

pub row_cut : (k : Book) (w : Row) (n : ℕ) → k.m < n → with_row k (with_members w (take n w.list)) ≡ with_row k w
unfolding with_row
row_cut k w n h = first-few k.m n w.list (λ l. with_row k (with_members w l)) h (λ d p q. rw (p, q))

-- ---- what the host gives

-- what is accepted passed its test
pub judged-accepted : (t : Bool) (e : Refusal) (o : Reading) (k : Book) → or_at_none t e o ≡ accepted k → (t ≡ true) × (o ≡ accepted k)
judged-accepted true e o k h = (refl, h)
judged-accepted false e o k h = no-reading h

pub given-sound : (m : ℕ) (l : List ℕ) (k : Book) → given m l ≡ accepted k → sound k ≡ true
unfolding given every
given-sound m l k e =
    let a = judged-accepted (good_instruments m) _ _ k e in
    let b = judged-accepted (good_calibrations m l) _ _ k a.1 in
    let q : bare m l ≡ k = cc in
    subst (λ (j : Book). sound j ≡ true) q
    (is-sound (bare m l) (record { instruments = a.0; calibrations = b.0; room = omega arith; batches = refl }))
