-- How far each part of a sheet reaches: it gives what it gives from its first bytes alone, and leaves the bytes after them.
use Prim.Native.Nat.{ℕ, zero, suc, ◌+◌, ◌-◌, ◌*◌, ◌≤◌, ◌<◌}
use mathlib.Core.Path.{◌≡◌, refl, sym, ◌∙◌, subst}
use mathlib.Core.Bool.{Bool, true, false, not}
use mathlib.Core.List.{List, [], ◌∷◌, ◌++◌}
use native.Mathlib.Omega.{arith}
use lib.Dec.{leb, ltb, eqb}
use lib.ListN.{length, take, drop, length-append, length-take, length-drop}
use lib.Seq.{drop-drop, take-take, take-nil}
use borrow.Author.Tests.{leb-true, ltb-true, ltb-false, lt-ltb, le-ltb}
use Rattle.rules.specs.Fold.{◌and◌, mem}
use Rattle.rules.specs.Refusal.{Refusal, malformed, bad_list, bad_calibration}
use Rattle.rules.specs.Sheet.{Batch, good_instruments, good_minutes, good_calibration, is_instrument, ascending}
use Rattle.rules.specs.Field.{Field, value, blank, fault, field}
use Rattle.rules.specs.Read.{Part, gives, refuses, and_then, or_refuse, field_part, number_at, blank_zero, place_at, end_of_line, Head, head_line, calibrations_at, calibration_line, mark_at, instruments_at, place_or, good_place, batch_line}
use Rattle.theory.proofs.Logic.{by_test, and_right}
use Rattle.theory.proofs.Field.{six, six-place}

-- A part read from r, and from the first w bytes of r: both are refused alike, or both give x, for which P holds, and leave
-- what follows k bytes, at most b.
pub data Near {X : Type 0} (P : X → Type 0) (b w : ℕ) (r : List ℕ) : Part X → Part X → Type 0 where
  refuse : (e : Refusal) → Near P b w r (refuses e) (refuses e)
  give : (x : X) (k : ℕ) → P x → k ≤ b → k ≤ length r → Near P b w r (gives x (drop k r)) (gives x (take (w - k) (drop k r)))

module _ {X : Type 0} {P : X → Type 0} where
  widen : {b w : ℕ} {r : List ℕ} {p q : Part X} (Q : X → Type 0) (c : ℕ) → ((x : X) → P x → Q x) → b ≤ c
      → Near P b w r p q → Near Q c w r p q
  widen Q c f h (refuse e) = refuse e
  widen Q c f h (give x k a i j) = give x k (f x a) (omega arith) j

  -- after k bytes
  shift : {b w : ℕ} {r : List ℕ} {p q : Part X} (c k : ℕ) → k ≤ c → k ≤ length r
      → Near P b (w - k) (drop k r) p q → Near P (c + b) w r p q
  shift c k h l (refuse e) = refuse e
  shift {b} {w} {r} c k h l (give x i a u v) =
      let d : drop i (drop k r) ≡ drop (k + i) r = drop-drop i k r in
      let e : w - k - i ≡ w - (k + i) = omega arith in
      rw (d, e) (give x (k + i) a (omega arith) (omega (arith, length-drop k r)))

  or-near : {b w : ℕ} {r : List ℕ} {p q : Part X} (t : Bool) (e : Refusal) → (t ≡ true → Near P b w r p q)
      → Near P b w r (or_refuse t e p) (or_refuse t e q)
  or-near true e f = f refl
  or-near false e f = refuse e

  end-near : {b : ℕ} (w : ℕ) (r : List ℕ) (f : List ℕ → Part X) → 0 < w
      → Near P b (w - 1) (drop 1 r) (f (drop 1 r)) (f (take (w - 1) (drop 1 r)))
      → Near P (1 + b) w r (end_of_line r f) (end_of_line (take w r) f)
  unfolding end_of_line
  end-near zero r f h n = absurd (omega arith)
  end-near (suc w) [] f h n = refuse malformed
  end-near {b = b} (suc w) (x ∷ r) f h n =
      let e : suc w - 1 ≡ w = omega arith in
      or-near (eqb x 10) malformed
      (λ t. shift 1 1 (omega arith) (omega arith) (subst (λ (v : ℕ). Near P b (suc w - 1) r (f r) (f (take v r))) e n))

then-near : {X Y : Type 0} {P : X → Type 0} {Q : Y → Type 0} {b w : ℕ} {r : List ℕ} {p q : Part X} (c : ℕ) (f : X → List ℕ → Part Y)
    → Near P b w r p q
    → ((x : X) (k : ℕ) → P x → k ≤ b → Near Q c (w - k) (drop k r) (f x (drop k r)) (f x (take (w - k) (drop k r))))
    → Near Q (b + c) w r (and_then p f) (and_then q f)
then-near c f (refuse e) n = refuse e
then-near {b = b} c f (give x k a i j) n = shift b k i j (n x k a i)

-- what a part gave
pub took : {X C : Type 0} {P : X → Type 0} {b w : ℕ} {r : List ℕ} {p q : Part X} {x : X} {u : List ℕ} → Near P b w r p q
    → p ≡ gives x u → (P x → (k : ℕ) → k ≤ length r → drop k r ≡ u → C) → C
took (refuse g) e f = absurd (let z : ◌≡◌ {A = ℕ} 0 1 = cc in omega arith)
took {P = P} {r = r} {x = x} {u = u} (give y k a i j) e f =
    let s : y ≡ x = cc in
    let v : drop k r ≡ u = cc in
    f (subst P s a) k j v

-- ---- a field

drop-cut : (k w : ℕ) (r : List ℕ) → k ≤ w → drop k (take w r) ≡ take (w - k) (drop k r)
drop-cut zero w r h = let e : w - 0 ≡ w = omega arith in rw e
drop-cut (suc k) zero r h = absurd (omega arith)
drop-cut (suc k) (suc w) [] h = sym (take-nil (suc w - suc k))
drop-cut (suc k) (suc w) (x ∷ r) h = let e : suc w - suc k ≡ w - k = omega arith in rw e (drop-cut k w r (omega arith))

short_cut : (w : ℕ) (r : List ℕ) → 6 ≤ w → ltb (length (take w r)) 6 ≡ ltb (length r) 6
short_cut w r h =
    by_test (ltb (length r) 6)
    (λ t. lt-ltb (length (take w r)) 6 (omega (arith, ltb-true (length r) 6 t, length-take w r)) ∙ sym t)
    (λ t. le-ltb (length (take w r)) 6 (omega (arith, ltb-false (length r) 6 t, length-take w r)) ∙ sym t)

field_cut : (w : ℕ) (r : List ℕ) → 6 ≤ w → field (take w r) ≡ field r
unfolding field
field_cut w r h = rw (take-take 6 w r h, short_cut w r h)

abbrev whatever : {X : Type 0} → X → Type 0
whatever x = Unit

-- a field with six columns where it gives a number
part-near : (w : ℕ) (r : List ℕ) (f : Field) → ((v : ℕ) → f ≡ value v → 6 ≤ length r)
    → Near whatever 6 w r (field_part f (drop 6 r)) (field_part f (take (w - 6) (drop 6 r)))
part-near w r (value v) k = give v 6 tt (omega arith) (k v refl)
part-near w r blank k = refuse malformed
part-near w r fault k = refuse malformed

number-near : (w : ℕ) (r : List ℕ) → 6 ≤ w → Near whatever 6 w r (number_at r) (number_at (take w r))
unfolding number_at
number-near w r h = rw (field_cut w r h, drop-cut 6 w r h) (part-near w r (field r) (six r))

place-near : (w : ℕ) (r : List ℕ) → 6 ≤ w → Near whatever 6 w r (place_at r) (place_at (take w r))
unfolding place_at
place-near w r h = rw (field_cut w r h, drop-cut 6 w r h) (part-near w r (blank_zero (field r)) (six-place r (field r) refl))

-- ---- the parts of a sheet

-- the end of a part that gives x
last-near : {X : Type 0} (P : X → Type 0) (x : X) (w : ℕ) (r : List ℕ) → P x
    → Near P 0 w r (gives x r) (gives x (take w r))
last-near P x w r a =
    let e : w - 0 ≡ w = omega arith in
    subst (λ (v : ℕ). Near P 0 w r (gives x r) (gives x (take v r))) e (give x 0 a (omega arith) (omega arith))

mark-near : (w : ℕ) (r : List ℕ) → 6 ≤ w → Near whatever 6 w r (mark_at r) (mark_at (take w r))
unfolding mark_at
mark-near w r h =
    then-near 0 _ (number-near w r h) (λ v k a b.
    or-near (leb v 1) malformed (λ t. last-near whatever (eqb v 1) (w - k) (drop k r) tt))

-- a list of n entries
abbrev pub sized : ℕ → List ℕ → Type 0
sized n l = length l ≡ n

-- one entry more of a list, where what comes after it reads c more: each is a field of six columns
more-near : (c : ℕ) (l : List ℕ) (w : ℕ) (r : List ℕ) (good : ℕ → Bool) (e : Refusal) (f : List ℕ → List ℕ → Part (List ℕ))
    → 6 * suc c ≤ w
    → ((l : List ℕ) (w : ℕ) (r : List ℕ) → 6 * c ≤ w → Near (sized (length l + c)) (6 * c) w r (f l r) (f l (take w r)))
    → Near (sized (length l + suc c)) (6 * suc c) w r
    (and_then (number_at r) (λ i u. or_refuse (good i) e (f (l ++ (i ∷ [])) u)))
    (and_then (number_at (take w r)) (λ i u. or_refuse (good i) e (f (l ++ (i ∷ [])) u)))
more-near c l w r good e f h n =
    widen (sized (length l + suc c)) (6 * suc c) (λ k a. a) (omega arith)
    (then-near (6 * c) _ (number-near w r (omega arith)) (λ i k a b.
    or-near (good i) e (λ t.
    widen (sized (length l + suc c)) (6 * c) (λ k z. omega (arith, z, length-append l (i ∷ []))) (omega arith)
    (n (l ++ (i ∷ [])) (w - k) (drop k r) (omega arith)))))

instruments-near : (m c : ℕ) (l : List ℕ) (w : ℕ) (r : List ℕ) → 6 * c ≤ w
    → Near (sized (length l + c)) (6 * c) w r (instruments_at m c l r) (instruments_at m c l (take w r))
unfolding instruments_at
instruments-near m zero l w r h = last-near (sized (length l + 0)) l w r (omega arith)
instruments-near m (suc c) l w r h =
    more-near c l w r (λ i. is_instrument m i and not (mem i l)) bad_list (instruments_at m c) h (instruments-near m c)

calibrations-near : (c : ℕ) (l : List ℕ) (w : ℕ) (r : List ℕ) → 6 * c ≤ w
    → Near (sized (length l + c)) (6 * c) w r (calibrations_at c l r) (calibrations_at c l (take w r))
unfolding calibrations_at
calibrations-near zero l w r h = last-near (sized (length l + 0)) l w r (omega arith)
calibrations-near (suc c) l w r h =
    more-near c l w r good_calibration bad_calibration (calibrations_at c) h (calibrations-near c)

-- the sizes of line 1 are within the limits
pub record Sizes (h : Head) : Type 0 where
  pub instruments : h.m ≤ 24
  pub batches : h.n ≤ 200

pub head_near : (w : ℕ) (r : List ℕ) → 13 ≤ w → Near Sizes 13 w r (head_line r) (head_line (take w r))
unfolding head_line good_instruments
head_near w r h =
    then-near 7 _ (number-near w r (omega arith)) (λ m k a b.
    or-near (leb 1 m and leb m 24) _ (λ t.
    then-near 1 _ (number-near (w - k) (drop k r) (omega arith)) (λ n i c d.
    or-near (leb n 200) _ (λ u.
    end-near (w - k - i) (drop i (drop k r)) _ (omega arith)
    (last-near Sizes (record { m = m; n = n }) (w - k - i - 1) (drop 1 (drop i (drop k r)))
    (record { instruments = leb-true m 24 (and_right (leb 1 m) _ t); batches = leb-true n 200 u }))))))

pub calibration-near : (m w : ℕ) (r : List ℕ) → m ≤ 24 → 145 ≤ w
    → Near (sized m) 145 w r (calibration_line m r) (calibration_line m (take w r))
unfolding calibration_line
calibration-near m w r g h =
    then-near 1 _
    (widen (sized m) 144 (λ k e. omega (arith, e)) (omega arith) (calibrations-near m [] w r (omega arith))) (λ l k a b.
    end-near (w - k) (drop k r) _ (omega arith) (last-near (sized m) l (w - k - 1) (drop 1 (drop k r)) a))

-- a batch whose list fits a row
abbrev pub short : Batch → Type 0
short b = length b.list ≤ 24

pub batch-near : (m w : ℕ) (r : List ℕ) → m ≤ 24 → 169 ≤ w → Near short 169 w r (batch_line m r) (batch_line m (take w r))
unfolding batch_line
batch-near m w r g h =
    then-near 163 _ (number-near w r (omega arith)) (λ t k₁ a₁ b₁.
    or-near (good_minutes t) _ (λ u₁.
    then-near 157 _ (place-near (w - k₁) (drop k₁ r) (omega arith)) (λ p k₂ a₂ b₂.
    then-near 151 _ (mark-near (w - k₁ - k₂) (drop k₂ (drop k₁ r)) (omega arith)) (λ s k₃ a₃ b₃.
    then-near 145 _ (number-near (w - k₁ - k₂ - k₃) (drop k₃ (drop k₂ (drop k₁ r))) (omega arith)) (λ c k₄ a₄ b₄.
    or-near (leb 1 c and leb c m) _ (λ u₂.
    let l : c ≤ m = leb-true c m (and_right (leb 1 c) _ u₂) in
    then-near 1 _
    (widen (λ (k : List ℕ). length k ≤ 24) 144 (λ k e. omega arith) (omega arith)
    (instruments-near m c [] (w - k₁ - k₂ - k₃ - k₄) (drop k₄ (drop k₃ (drop k₂ (drop k₁ r)))) (omega arith))) (λ l k₅ a₅ b₅.
    or-near (ascending l) _ (λ u₃.
    end-near (w - k₁ - k₂ - k₃ - k₄ - k₅) (drop k₅ (drop k₄ (drop k₃ (drop k₂ (drop k₁ r))))) _ (omega arith)
    (or-near (good_place s p l) _ (λ u₄.
    last-near short (record { minutes = t; list = l; place = place_or p l; started = s }) (w - k₁ - k₂ - k₃ - k₄ - k₅ - 1)
    (drop 1 (drop k₅ (drop k₄ (drop k₃ (drop k₂ (drop k₁ r)))))) a₅))))))))))
