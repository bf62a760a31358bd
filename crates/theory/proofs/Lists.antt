-- Document 02, C-20: a list that ascends is the set of the instruments it names. Its first is the lowest of them, and two books with the same
-- contents are one.
use Prim.Native.Nat.{ℕ, zero, suc, ◌-◌, ◌≤◌, ◌<◌}
use mathlib.Core.Path.{◌≡◌, refl, sym, ap, ap₂, ◌∙◌, subst}
use mathlib.Core.Bool.{Bool, true, false, not}
use mathlib.Core.List.{List, [], ◌∷◌, ◌++◌}
use native.Mathlib.Omega.{arith}
use lib.ListN.{length, get_or, length-append}
use lib.Seq.{get_or-set_same, ext_get_or}
use lib.Dec.{leb, ltb, eqb}
use borrow.Author.Tests.{leb-true, eqb-true, eqb-false, not-true}
use Rattle.rules.specs.Fold.{pick, mem, every}
use Rattle.rules.specs.Sheet.{Book, Batch, waiting, with_place, with_list, no_batch_here, size, batch, is_batch, head, max_batches, distinct, good_minutes, good_list, ascending_from, ascending, good_batch, sound}
use Rattle.rules.specs.Read.{accepted, place_or, read}
use Rattle.rules.specs.Render.{given_number, Described, batch_within_limits, placed}
use Rattle.rules.specs.Rewrite.{is_open, SameBatch, SameContents, written}
use Rattle.rules.specs.Edit.{add, requalify, edited, kept, with_batches, with_batch, edit}
use Rattle.theory.proofs.Logic.{by_test, conflict, and_left, and_right, or-none, or_cases, or-skip}
use Rattle.theory.proofs.Member.{mem-none, mem-head, every-at}
use Rattle.theory.proofs.View.{first-hit}
use Rattle.theory.proofs.Format.{good-list-is, batch-within-is}
use Rattle.theory.proofs.Sound.{good-is, sound-is, good-batch, good-some, good-ranged, passes, waits, lists}
use Rattle.theory.proofs.Claims.{lowest}
use Rattle.theory.proofs.Rewrite.{read-written}

-- ---- a list and its set

-- a list without repeats that ascends: the rest is above its first
above : (p : ℕ) (l : List ℕ) → ascending_from p l ≡ true → distinct l ≡ true → mem p l ≡ false → (i : ℕ) → mem i l ≡ true → p < i
unfolding ascending_from distinct mem
above p [] a d n i h = conflict h refl
above p (x ∷ l) a d n i h =
    let u : p ≤ x = leb-true p x (and_left _ _ a) in
    let v : x ≡ p → ⊥ = eqb-false x p (or-none (eqb x p) (mem p l) n).0 in
    let w : p < x = omega arith in
    or_cases (eqb x i) (mem i l) h
    (λ t. let q : x ≡ i = eqb-true x i t in omega arith)
    (λ t. let q = above x l (and_right (leb p x) _ a) (and_right (not (mem x l)) _ d) (not-true _ (and_left _ _ d)) i t in omega arith)

module _ (p x : ℕ) (l : List ℕ) (a : ascending_from p (x ∷ l) ≡ true) (d : distinct (x ∷ l) ≡ true) where
  rest-ascends : ascending_from x l ≡ true
  unfolding ascending_from
  rest-ascends = and_right (leb p x) _ a

  rest-apart : distinct l ≡ true
  unfolding distinct
  rest-apart = and_right (not (mem x l)) _ d

  first-once : mem x l ≡ false
  unfolding distinct
  first-once = not-true _ (and_left _ _ d)

  first-least : (i : ℕ) → mem i (x ∷ l) ≡ true → x ≤ i
  unfolding mem
  first-least i h =
      or_cases (eqb x i) (mem i l) h
      (λ t. let q : x ≡ i = eqb-true x i t in omega arith)
      (λ t. let q = above x l rest-ascends rest-apart first-once i t in omega arith)

-- what is named besides x
other-named : (x : ℕ) (l k : List ℕ) → mem x l ≡ false → mem x k ≡ false → ((i : ℕ) → mem i (x ∷ l) ≡ mem i (x ∷ k)) → (i : ℕ) → mem i l ≡ mem i k
unfolding mem
other-named x l k a b h i =
    by_test (eqb x i)
    (λ t. let q : x ≡ i = eqb-true x i t in (rw q at a) ∙ sym (rw q at b))
    (λ t. sym (or-skip (mem i l) t) ∙ h i ∙ or-skip (mem i k) t)

-- two that name the same are the same
same_from : (p q : ℕ) (l k : List ℕ) → ascending_from p l ≡ true → distinct l ≡ true → ascending_from q k ≡ true → distinct k ≡ true
    → ((i : ℕ) → mem i l ≡ mem i k) → l ≡ k
same_from p q [] [] a d b e h = refl
same_from p q [] (y ∷ k) a d b e h = conflict (h y ∙ mem-head y k) (mem-none y)
same_from p q (x ∷ l) [] a d b e h = conflict (sym (h x) ∙ mem-head x l) (mem-none x)
same_from p q (x ∷ l) (y ∷ k) a d b e h =
    let u : x ≤ y = first-least p x l a d y (h y ∙ mem-head y k) in
    let v : y ≤ x = first-least q y k b e x (sym (h x) ∙ mem-head x l) in
    let z : x ≡ y = omega arith in
    let g : (i : ℕ) → mem i (x ∷ l) ≡ mem i (x ∷ k) = λ i. h i ∙ ap (λ (w : ℕ). mem i (w ∷ k)) (sym z) in
    let n : mem x k ≡ false = ap (λ (w : ℕ). mem w k) z ∙ first-once q y k b e in
    ap₂ (λ (w : ℕ) (r : List ℕ). w ∷ r) z
    (same_from x y l k (rest-ascends p x l a d) (rest-apart p x l a d) (rest-ascends q y k b e) (rest-apart q y k b e)
    (other-named x l k (first-once p x l a d) n g))

pub same-list : (m : ℕ) (l k : List ℕ) → good_list m l ≡ true → ascending l ≡ true → good_list m k ≡ true → ascending k ≡ true
    → ((i : ℕ) → mem i l ≡ mem i k) → l ≡ k
unfolding ascending
same-list m l k a u b v h = same_from 0 0 l k u (good-list-is m l a).apart v (good-list-is m k b).apart h

-- ---- the lowest

pub first-lowest : (m : ℕ) (l : List ℕ) → good_list m l ≡ true → ascending l ≡ true → head l ≡ lowest m l
unfolding ascending
first-lowest m [] g a = absurd (omega (arith, good-some m [] g))
first-lowest m (x ∷ l) g a =
    let r = good-ranged m (x ∷ l) x g (mem-head x l) in
    let e : suc (x - 1) ≡ x = omega (arith, r.0) in
    sym (first-hit m (λ i. mem i (x ∷ l)) (x - 1) (omega (arith, r.0, r.1))
    (λ i p q. by_test (mem i (x ∷ l)) (λ t. absurd (omega (arith, first-least 0 x l a (good-list-is m (x ∷ l) g).apart i t, r.0))) (λ t. t))
    (ap (λ (i : ℕ). mem i (x ∷ l)) e ∙ mem-head x l)
    ∙ e)

-- of every batch
pub batch-lowest : (k : Book) → sound k ≡ true → (b : ℕ) → is_batch k b ≡ true → head (batch k b).list ≡ lowest k.m (batch k b).list
batch-lowest k e b h =
    let g = good-batch k b (sound-is k e) h in
    first-lowest k.m (batch k b).list g.list g.order

-- a place that a file gives as 0 or blank
pub open-lowest : (m : ℕ) (b : Described) → batch_within_limits m b ≡ true → is_open b.place ≡ true → (placed b).place ≡ lowest m b.list
open-lowest m b e h =
    let f = batch-within-is m b e in
    ap (λ (p : ℕ). place_or p b.list) (eqb-true (given_number b.place) 0 h) ∙ first-lowest m b.list f.list f.order

-- the place of a batch that is added
pub added-lowest : (k : Book) (t : ℕ) (l : List ℕ) (j : Book) → edit k (add t l) ≡ edited j → (batch j (size j)).place ≡ lowest k.m l
unfolding edit
added-lowest k t l j e =
    let a = passes (ltb (size k) max_batches) _ _ j e in
    let b = passes (good_minutes t) _ _ j a.1 in
    let c = lists k.m l _ j b.1 in
    let x = waiting t l (head l) in
    let q : with_batches k (k.batches ++ (x ∷ [])) ≡ j = cc in
    let n : size j ≡ suc (size k) = ap size (sym q) ∙ omega (arith, length-append k.batches (x ∷ [])) in
    ap (λ (i : ℕ). (batch j i).place) n
    ∙ ap (λ (i : Book). (batch i (suc (size k))).place) (sym q)
    ∙ ap (λ (r : Batch). r.place) (last_of k.batches x)
    ∙ first-lowest k.m l c.0 c.1
  where
    last_of : (bs : List Batch) (x : Batch) → get_or (bs ++ (x ∷ [])) (length bs) no_batch_here ≡ x
    last_of [] x = refl
    last_of (b ∷ bs) x = last_of bs x

-- and of one that is requalified away from its place
pub requalified-lowest : (k : Book) (b : ℕ) (l : List ℕ) (j : Book) → edit k (requalify b l) ≡ edited j
    → mem (batch k b).place l ≡ false → (batch j b).place ≡ lowest k.m l
unfolding edit kept is_batch
requalified-lowest k b l j e h =
    let a = waits k b _ j e in
    let c = lists k.m l _ j a.2 in
    let x = with_place (with_list (batch k b) l) (pick (mem (batch k b).place l) (batch k b).place (head l)) in
    let q : with_batch k b x ≡ j = cc in
    let s : 1 ≤ b = leb-true 1 b (and_left _ _ a.0) in
    let u : b ≤ size k = leb-true b (size k) (and_right (leb 1 b) _ a.0) in
    ap (λ (i : Book). (batch i b).place) (sym q)
    ∙ ap (λ (r : Batch). r.place) (entered b s u x)
    ∙ ap (λ (t : Bool). pick t (batch k b).place (head l)) h
    ∙ first-lowest k.m l c.0 c.1
  where
    suc-less : (b : ℕ) → suc b - 1 ≡ b
    suc-less b = omega arith

    entered : (b : ℕ) → 1 ≤ b → b ≤ size k → (x : Batch) → batch (with_batch k b x) b ≡ x
    entered zero s u x = absurd (omega arith)
    entered (suc b) s u x = rw (suc-less b) (get_or-set_same k.batches b x no_batch_here (omega arith))

-- ---- contents

-- two good batches with the same contents are one
batch-one : (m : ℕ) (a b : Batch) → good_batch m a ≡ true → good_batch m b ≡ true → SameBatch a b → a ≡ b
batch-one m a b p q s =
    let g = good-is m a p in
    let h = good-is m b q in
    let l : a.list ≡ b.list = same-list m a.list b.list g.list g.order h.list h.order s.qualified in
    ap₂ (λ (t : ℕ) (k : List ℕ). record { minutes = t; list = k; place = a.place; started = a.started }) s.minutes l
    ∙ ap₂ (λ (i : ℕ) (t : Bool). record { minutes = b.minutes; list = b.list; place = i; started = t }) s.place s.started

pub contents-one : (j k : Book) → sound j ≡ true → sound k ≡ true → SameContents j k → j ≡ k
contents-one j k p q s =
    let x = sound-is j p in
    let y = sound-is k q in
    let g : every (good_batch j.m) k.batches ≡ true = ap (λ (i : ℕ). every (good_batch i) k.batches) s.instruments ∙ y.batches in
    let b : j.batches ≡ k.batches =
    ext_get_or no_batch_here j.batches k.batches s.count
    (λ i h. batch-one j.m _ _ (every-at (good_batch j.m) j.batches no_batch_here i x.batches h)
    (every-at (good_batch j.m) k.batches no_batch_here i g (omega (arith, s.count))) (s.batches (suc i))) in
    ap₂ (λ (m : ℕ) (l : List ℕ). record { m = m; calibrations = l; batches = j.batches }) s.instruments s.calibrations
    ∙ ap (λ (bs : List Batch). record { m = k.m; calibrations = k.calibrations; batches = bs }) b

-- so the files of two sheets are the same text exactly where the sheets say the same
pub same_bytes : (j k : Book) → sound j ≡ true → sound k ≡ true → SameContents j k → written j ≡ written k
same_bytes j k p q s = ap written (contents-one j k p q s)

pub bytes_one : (j k : Book) → sound j ≡ true → sound k ≡ true → written j ≡ written k → j ≡ k
bytes_one j k p q e = let r : accepted j ≡ accepted k = sym (read-written j p) ∙ ap read e ∙ read-written k q in cc

batch-itself : (b : Batch) → SameBatch b b
batch-itself b = record { minutes = refl; place = refl; started = refl; qualified = λ i. refl }

contents-itself : (k : Book) → SameContents k k
contents-itself k = record { instruments = refl; calibrations = refl; count = refl; batches = λ b. batch-itself (batch k b) }

pub bytes_same : (j k : Book) → sound j ≡ true → sound k ≡ true → written j ≡ written k → SameContents j k
bytes_same j k p q e = subst (λ (i : Book). SameContents j i) (bytes_one j k p q e) (contents-itself j)
