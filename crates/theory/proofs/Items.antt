-- Batches that may run only where they stand, so that every permitted assignment has them there: those that have started (document 02,
-- C-17), and calibrations as batches (C-16).
use Prim.Native.Nat.{ℕ, zero, suc, ◌≤◌, ◌<◌}
use mathlib.Core.Path.{◌≡◌, refl, ap, ap₂}
use mathlib.Core.Bool.{true, false}
use mathlib.Core.List.{List, [], ◌∷◌, ◌++◌, map}
use native.Mathlib.Nat.{le_refl}
use native.Mathlib.Omega.{arith}
use lib.ListN.{length, get_or, length-append}
use lib.Dec.{leb}
use borrow.Author.Tests.{leb-true, leb-false, le-leb}
use Rattle.rules.specs.Fold.{at, mem, every, any_to}
use Rattle.rules.specs.Sheet.{Batch, waiting, with_place, no_batch_here, is_instrument, distinct, good_minutes, good_calibration, good_list, ascending_from, ascending, good_batch}
use Rattle.rules.specs.Instance.{Assignment, job_of, qualified, calibration_of, calibrations_to}
use Rattle.theory.proofs.Logic.{by_test, conflict, and-mk, or-none, or_cases}
use Rattle.theory.proofs.Member.{mem-one, mem-head, every_append, every_one, every-at}

-- ---- what counts as qualified for a batch

-- a started one has its place alone
pub started-qualified : (b : Batch) (i : ℕ) → b.started ≡ true → mem i (qualified b) ≡ true → i ≡ b.place
started-qualified b i t h = mem-one b.place i (rw t at h)

-- whatever counts as qualified is listed, where the place is
pub qualified-listed : (b : Batch) (i : ℕ) → mem b.place b.list ≡ true → mem i (qualified b) ≡ true → mem i b.list ≡ true
qualified-listed b i e h =
    by_test b.started (λ t. rw (started-qualified b i t h) e) (λ t. rw t at h)

-- an instrument of the list counts, where it is the place of a started batch
pub listed-qualified : (b : Batch) (i : ℕ) → mem i b.list ≡ true → (b.started ≡ true → i ≡ b.place) → mem i (qualified b) ≡ true
listed-qualified b i e h = by_test b.started (λ t. rw (t, h t) (mem-head b.place [])) (λ t. rw t e)

-- so does the place
pub place-qualified : (b : Batch) → mem b.place b.list ≡ true → mem b.place (qualified b) ≡ true
place-qualified b e = listed-qualified b b.place e (λ t. refl)

pub qualified-some : (b : Batch) → 0 < length b.list → 0 < length (qualified b)
qualified-some b e = by_test b.started (λ t. rw t (omega arith)) (λ t. rw t e)

pub qualified-few : (b : Batch) (c : ℕ) → 0 < c → length b.list ≤ c → length (qualified b) ≤ c
qualified-few b c h e = by_test b.started (λ t. rw t h) (λ t. rw t e)

-- a batch is the same job on every instrument that counts
pub job-kept : (b : Batch) (p : ℕ) → mem p (qualified b) ≡ true → job_of (with_place b p) ≡ job_of b
job-kept b p h = by_test b.started (λ t. rw (started-qualified b p t h)) (λ t. rw t)

-- each entry of an assignment counts as qualified for its batch
abbrev pub Fits : List Batch → Assignment → Type 0
Fits bs x = (b : ℕ) → b < length bs → mem (get_or x b 0) (qualified (get_or bs b no_batch_here)) ≡ true

-- ---- batches that may run only where they stand

pub data Fixed : List Batch → Type 0 where
  none : Fixed []
  more : (c : Batch) (cs : List Batch) → qualified c ≡ c.place ∷ [] → Fixed cs → Fixed (c ∷ cs)

fixed-append : {bs cs : List Batch} → Fixed bs → Fixed cs → Fixed (bs ++ cs)
fixed-append none h = h
fixed-append (more c cs e f) h = more c _ e (fixed-append f h)

-- an assignment that fits them has them where they stand
pub fixed-places : {bs : List Batch} (x : Assignment) → Fixed bs → length x ≡ length bs → Fits bs x → x ≡ map (λ (b : Batch). b.place) bs
fixed-places [] none e h = refl
fixed-places (p ∷ x) none e h = absurd (omega arith)
fixed-places [] (more c cs q f) e h = absurd (omega arith)
fixed-places (p ∷ x) (more c cs q f) e h =
    let first : mem p (qualified c) ≡ true = h 0 (omega arith) in
    let there : p ≡ c.place = mem-one c.place p (rw q at first) in
    ap₂ (λ (a : ℕ) (l : List ℕ). a ∷ l) there (fixed-places x f (omega arith) (λ b l. h (suc b) (omega arith)))

-- ---- calibrations

calibration-fixed : (i t : ℕ) → Fixed (calibration_of i t)
calibration-fixed i zero = none
calibration-fixed i (suc t) = more _ [] refl none

pub calibrations-fixed : (l : List ℕ) (c : ℕ) → Fixed (calibrations_to l c)
unfolding calibrations_to
calibrations-fixed l zero = none
calibrations-fixed l (suc c) = fixed-append (calibrations-fixed l c) (calibration-fixed (suc c) (at l (suc c)))

-- by the first c entries alone
pub calibrations-ext : (l k : List ℕ) (c : ℕ) → ((i : ℕ) → 0 < i → i ≤ c → at l i ≡ at k i) → calibrations_to l c ≡ calibrations_to k c
unfolding calibrations_to
calibrations-ext l k zero h = refl
calibrations-ext l k (suc c) h =
    ap₂ (λ (a b : List Batch). a ++ b) (calibrations-ext l k c (λ i p q. h i p (omega arith)))
    (ap (calibration_of (suc c)) (h (suc c) (omega arith) (le_refl (suc c))))

calibration-few : (i t : ℕ) → length (calibration_of i t) ≤ 1
calibration-few i zero = omega arith
calibration-few i (suc t) = omega arith

calibration-some : (i t : ℕ) → 0 < t → 0 < length (calibration_of i t)
calibration-some i zero h = absurd (omega arith)
calibration-some i (suc t) h = omega arith

pub calibrations-few : (l : List ℕ) (c : ℕ) → length (calibrations_to l c) ≤ c
unfolding calibrations_to
calibrations-few l zero = omega arith
calibrations-few l (suc c) =
    omega (
      arith,
      length-append (calibrations_to l c) (calibration_of (suc c) (at l (suc c))),
      calibrations-few l c,
      calibration-few (suc c) (at l (suc c)),
    )

-- one above 0 is among them
pub calibrations-some : (l : List ℕ) (c : ℕ) → any_to c (λ i. leb 1 (at l i)) ≡ true → 0 < length (calibrations_to l c)
unfolding calibrations_to any_to
calibrations-some l zero e = conflict e refl
calibrations-some l (suc c) e =
    let long = length-append (calibrations_to l c) (calibration_of (suc c) (at l (suc c))) in
    or_cases (any_to c (λ i. leb 1 (at l i))) (leb 1 (at l (suc c))) e
    (λ t. omega (arith, long, calibrations-some l c t))
    (λ t. omega (arith, long, calibration-some (suc c) (at l (suc c)) (leb-true 1 (at l (suc c)) t)))

-- and where none is above 0 there is none
pub calibrations-none : (l : List ℕ) (c : ℕ) → any_to c (λ i. leb 1 (at l i)) ≡ false → length (calibrations_to l c) ≡ 0
unfolding calibrations_to any_to
calibrations-none l zero e = refl
calibrations-none l (suc c) e =
    let h = or-none (any_to c (λ i. leb 1 (at l i))) (leb 1 (at l (suc c))) e in
    let z : at l (suc c) ≡ 0 = omega (arith, leb-false 1 (at l (suc c)) h.1) in
    omega (
      arith,
      length-append (calibrations_to l c) (calibration_of (suc c) (at l (suc c))),
      calibrations-none l c h.0,
      ap (λ (t : ℕ). length (calibration_of (suc c) t)) z,
    )

calibration-good : (m i t : ℕ) → 0 < i → i ≤ m → good_calibration t ≡ true → every (good_batch m) (calibration_of i t) ≡ true
unfolding every good_batch good_minutes good_list is_instrument distinct ascending ascending_from mem good_calibration
calibration-good m i zero p q e = refl
calibration-good m i (suc t) p q e =
    let s : suc t ≤ 240 = leb-true (suc t) 240 e in
    let one : is_instrument m i ≡ true = and-mk _ _ (le-leb 1 i p) (le-leb i m q) in
    every_one (good_batch m) (waiting (suc t) (i ∷ []) i)
    (and-mk _ _ (and-mk _ _ (le-leb 1 (suc t) (omega arith)) (le-leb (suc t) 1440 (omega arith)))
    (and-mk _ _ (and-mk _ _ (le-leb 1 1 (omega arith)) (and-mk _ _ (le-leb 1 m (omega arith)) (and-mk _ _ (and-mk _ _ one refl) (and-mk _ _ refl refl))))
    (and-mk _ _ (and-mk _ _ (le-leb 0 i (omega arith)) refl) (mem-head i []))))

pub calibrations-good : (m : ℕ) (l : List ℕ) (c : ℕ) → length l ≡ m → c ≤ m → every good_calibration l ≡ true
    → every (good_batch m) (calibrations_to l c) ≡ true
unfolding calibrations_to every
calibrations-good m l zero w h e = refl
calibrations-good m l (suc c) w h e =
    every_append (good_batch m) (calibrations_to l c) (calibration_of (suc c) (at l (suc c))) (calibrations-good m l c w (omega arith) e)
    (calibration-good m (suc c) (at l (suc c)) (omega arith) h (every-at good_calibration l 0 c e (omega arith)))
