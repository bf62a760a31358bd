-- A sheet's batches and calibrations laid out in arrays.
use Prim.Native.Nat.{ℕ, zero, suc, ◌+◌, ◌-◌, ◌*◌, ◌≤◌, ◌<◌}
use mathlib.Core.Path.{◌≡◌, refl, sym, ap, ◌∙◌}
use mathlib.Core.List.{List, [], ◌∷◌, ◌++◌, map, append_assoc, append-nil, map-append}
use native.Mathlib.Omega.{arith}
use native.Mathlib.Numerals.{add-one}
use lib.ListN.{length, get_or, set, drop, replicate, length-append, length-map, length-replicate, replicate-append-replicate}
use lib.Seq.{set-append_left}
use Rattle.std.proofs.lemmas.List.{drop-replicate}
use Rattle.rules.specs.Fold.{at}
use Rattle.rules.specs.Sheet.{Book, Batch, waiting}
use Rattle.rules.specs.Instance.{qualified, calibration_of, calibrations_to, items}
use Rattle.rules.specs.Marks.{marks_of}
use Rattle.theory.proofs.Marks.{length-marks}
use Rattle.theory.proofs.Items.{calibrations-ext}
use Rattle.sheet.specs.Represent.{padded}
use Rattle.sheet.specs.View.{mark_rows}
use Rattle.sheet.proofs.Padded.{length-padded, padded-room, set-append}
use Rattle.sheet.proofs.Marking.{marks-none, marks-more, set-behind}
use Rattle.sheet.proofs.Marks.{length-mark-rows, mark-rows-last}
use Rattle.planner.specs.declared.items.Items.{Items}
use Rattle.planner.specs.Items.{items_of}
use Rattle.planner.proofs.Changes.{at-padded}

-- ---- room for more

-- a list with zeros behind it, with more of them
padded-wider : (v w : ℕ) (l : List ℕ) → length l ≤ w → w ≤ v → padded v (padded w l) ≡ padded v l
padded-wider v w l h g =
    let n = length-padded w l h in
    let e : (w - length l) + (v - length (padded w l)) ≡ v - length l = omega arith in
    append_assoc l (replicate (w - length l) 0) (replicate (v - length (padded w l)) 0)
    ∙ ap (λ (z : List ℕ). l ++ z) (replicate-append-replicate (w - length l) (v - length (padded w l)) 0 ∙ ap (λ (k : ℕ). replicate k 0) e)

-- at the front of zeros
pub front-padded : (w n : ℕ) {part l : List ℕ} → part ≡ l → length l ≡ n → part ++ drop n (replicate w 0) ≡ padded w l
front-padded w n {l = l} e h = rw (e, drop-replicate {X = ℕ} n w 0, h) refl

entered-wider : (v w : ℕ) (l part : List ℕ) → part ≡ padded w l → length l ≤ w → w ≤ v → part ++ drop w (replicate v 0) ≡ padded v l
entered-wider v w l part e h g = front-padded v w e (length-padded w l h) ∙ padded-wider v w l h g

-- ---- one item more

-- a mark in the row behind the rows
mark-more : (bs : List Batch) (b : Batch) (i : ℕ) → qualified b ≡ suc i ∷ [] → i < 24 → length bs < 224
    → set (padded 5376 (mark_rows bs)) (length bs * 24 + i) 1 ≡ padded 5376 (mark_rows (bs ++ (b ∷ [])))
mark-more bs b i e h g =
    let p = mark_rows bs in
    let n = length-mark-rows bs in
    let z : List ℕ = replicate (5376 - (length p + 24)) 0 in
    let x : suc i - 1 ≡ i = omega arith in
    let row : set (replicate 24 0) i 1 ≡ marks_of (qualified b) =
    sym (ap marks_of e ∙ marks-more [] (suc i) (omega arith) (omega arith) ∙ ap (λ (l : List ℕ). set l (suc i - 1) 1) marks-none
    ∙ ap (λ (k : ℕ). set (replicate 24 0) k 1) x) in
    let q : mark_rows (bs ++ (b ∷ [])) ≡ p ++ marks_of (qualified b) = mark-rows-last bs b in
    let f : 5376 - length (p ++ marks_of (qualified b)) ≡ 5376 - (length p + 24) =
    omega (arith, length-append p (marks_of (qualified b)), length-marks (qualified b)) in
    ap (λ (l : List ℕ). set l (length bs * 24 + i) 1) (padded-room 5376 24 p (omega arith))
    ∙ ap (λ (k : ℕ). set (p ++ (replicate 24 0 ++ z)) (k + i) 1) (sym n)
    ∙ set-behind p (replicate 24 0 ++ z) i 1
    ∙ ap (λ (r : List ℕ). p ++ r)
    (set-append_left (replicate 24 0) z i 1 (omega (arith, length-replicate {A = ℕ} 24 0)) ∙ ap (λ (r : List ℕ). r ++ z) row)
    ∙ sym (append_assoc p (marks_of (qualified b)) z)
    ∙ sym (ap (padded 5376) q ∙ ap (λ (k : ℕ). (p ++ marks_of (qualified b)) ++ replicate k 0) f)

-- the arrays that the loop has
abbrev pub held : ℕ → List ℕ → List ℕ → List ℕ → Items
held n minutes places marks = record { n = n; minutes = minutes; places = places; marks = marks }

-- with a calibration of t minutes of the instrument at index i
abbrev entered : Items → ℕ → ℕ → Items
entered a i t = held (a.n + 1) (set a.minutes a.n t) (set a.places a.n (i + 1)) (set a.marks (a.n * 24 + i) 1)

item-more : (bs : List Batch) (i t : ℕ) → 0 < t → i < 24 → length bs < 224 → entered (items_of bs) i t ≡ items_of (bs ++ calibration_of (suc i) t)
item-more bs i zero p h g = absurd (omega arith)
item-more bs i (suc t) p h g =
    let b = waiting (suc t) (suc i ∷ []) (suc i) in
    rw (
      set-append 224 (map (λ (x : Batch). x.minutes) bs) (length bs) (suc t) (length-map bs (λ (x : Batch). x.minutes)) g,
      add-one i,
      set-append 224 (map (λ (x : Batch). x.place) bs) (length bs) (suc i) (length-map bs (λ (x : Batch). x.place)) g,
      mark-more bs b i refl h g,
      length-append bs (b ∷ []),
      map-append (λ (x : Batch). x.minutes) bs (b ∷ []),
      map-append (λ (x : Batch). x.place) bs (b ∷ []),
    )

-- ---- the loop: the calibrations of the first i instruments

-- from the arrays a on, whatever batches they have
pub record Entering (calibrations : List ℕ) (a : Items) (i : ℕ) (r : Items) : Type 0 where
  pub few : r.n ≤ a.n + i
  pub same : (bs : List Batch) → a ≡ items_of bs → r ≡ items_of (bs ++ calibrations_to calibrations i)

pub entering-start : (calibrations : List ℕ) (a : Items) → Entering calibrations a 0 a
unfolding calibrations_to
entering-start calibrations a = record { few = omega arith; same = λ bs e. e ∙ ap items_of (sym (append-nil bs)) }

module _ {calibrations : List ℕ} {a : Items} {i : ℕ} {r : Items} (e : Entering calibrations a i r) where
  next-is : (bs : List Batch) → (bs ++ calibrations_to calibrations i) ++ calibration_of (suc i) (get_or calibrations i 0)
      ≡ bs ++ calibrations_to calibrations (i + 1)
  unfolding calibrations_to
  next-is bs = append_assoc bs (calibrations_to calibrations i) (calibration_of (suc i) (get_or calibrations i 0)) ∙ (rw (add-one i))

  module _ {t : ℕ} (f : t ≡ get_or calibrations i 0) where
    pub entering-none : t ≡ 0 → Entering calibrations a (i + 1) r
    entering-none z = record {
      few = omega (arith, e.few);
      same = λ bs q.
          e.same bs q
          ∙ ap items_of
          (sym (append-nil _) ∙ ap (λ (k : ℕ). (bs ++ calibrations_to calibrations i) ++ calibration_of (suc i) k) (sym z ∙ f) ∙ next-is bs);
    }

    pub entering-one : 0 < t → i < 24 → a.n + i < 224 → Entering calibrations a (i + 1) (entered r i t)
    entering-one p h g = record {
      few = omega (arith, e.few);
      same = λ bs q.
          let s = e.same bs q in
          let n : r.n ≡ length (bs ++ calibrations_to calibrations i) = ap (λ (x : Items). x.n) s in
          ap (λ (x : Items). entered x i t) s
          ∙ item-more (bs ++ calibrations_to calibrations i) i t p h (omega (arith, e.few))
          ∙ ap items_of (ap (λ (k : ℕ). (bs ++ calibrations_to calibrations i) ++ calibration_of (suc i) k) f ∙ next-is bs);
    }

-- ---- the whole sheet

-- the batches, each array entered into a wider one
pub batches-laid : (bs : List Batch) {n : ℕ} {minutes places marks : List ℕ} → length bs ≤ 200 → n ≡ length bs
    → minutes ≡ padded 200 (map (λ (b : Batch). b.minutes) bs) → places ≡ padded 200 (map (λ (b : Batch). b.place) bs)
    → marks ≡ padded 4800 (mark_rows bs)
    → held n (minutes ++ drop 200 (replicate 224 0)) (places ++ drop 200 (replicate 224 0)) (marks ++ drop 4800 (replicate 5376 0)) ≡ items_of bs
batches-laid bs {minutes = minutes} {places = places} {marks = marks} h e l s f =
    let t = length-map bs (λ (b : Batch). b.minutes) in
    let p = length-map bs (λ (b : Batch). b.place) in
    rw (
      e,
      entered-wider 224 200 (map (λ (b : Batch). b.minutes) bs) minutes l (omega arith) (omega arith),
      entered-wider 224 200 (map (λ (b : Batch). b.place) bs) places s (omega arith) (omega arith),
      entered-wider 5376 4800 (mark_rows bs) marks f (omega (arith, length-mark-rows bs)) (omega arith),
    )

-- the calibrations as the sheet shows them
pub calibrations-shown : (k : Book) {m : ℕ} {l : List ℕ} → m ≡ k.m → l ≡ padded 24 k.calibrations
    → items_of (k.batches ++ calibrations_to l m) ≡ items_of (items k)
calibrations-shown k {m} {l} e f =
    ap (λ (cs : List Batch). items_of (k.batches ++ cs))
    (ap (calibrations_to l) e ∙ calibrations-ext l k.calibrations k.m (λ i p q. ap (λ (x : List ℕ). at x i) f ∙ at-padded 24 k.calibrations i))
