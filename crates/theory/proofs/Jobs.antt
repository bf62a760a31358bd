-- The jobs of a sound book: its instance is valid, its places are permitted, every permitted assignment can be entered in it, and has each
-- calibration and each started batch where it stands.
use Prim.Native.Nat.{ℕ, zero, suc, ◌+◌, ◌-◌, ◌≤◌, ◌<◌}
use mathlib.Core.Path.{◌≡◌, refl, sym, ap, ap₂, ◌∙◌, subst, subst₂}
use mathlib.Core.Bool.{true, false}
use mathlib.Core.List.{List, [], ◌∷◌, ◌++◌, map, map-append}
use native.Mathlib.Nat.{le_refl}
use native.Mathlib.Omega.{arith}
use native.Mathlib.Decide.{dec_le}
use lib.ListN.{length, get_or, take, drop, length-append, length-drop, length-map, take-append-drop, get_or-append, get_or-map}
use lib.Seq.{take_all, get_or-drop, get_or-append-add}
use lib.Dec.{leb}
use borrow.Author.Tests.{leb-true, leb-false}
use Rattle.rules.specs.Fold.{◌or◌, at, put, mem, every, any_to}
use Rattle.rules.specs.Sheet.{Batch, Book, with_place, size, batch, no_batch_here, good_instruments, good_batch, sound}
use Rattle.rules.specs.Edit.{with_batches}
use Rattle.rules.specs.Instance.{Assignment, Job, no_job, n, qualified, job_of, calibrations_to, items, busy, instance, places, minutes_of, eligible}
use Rattle.rules.specs.Run.{place_all, with_places}
use Rattle.theory.proofs.Logic.{by_test, and_left, and_right, and-mk, or-none, or_cases}
use Rattle.theory.proofs.Member.{every_append}
use Rattle.theory.proofs.Format.{good-calibrations-is}
use Rattle.theory.proofs.Valid.{Valid, Permitted, eligible-job}
use Rattle.theory.proofs.Fold.{at-put-same}
use Rattle.theory.proofs.Review.{Improves}
use Rattle.theory.proofs.Move.{put-permitted}
use Rattle.theory.proofs.Items.{started-qualified, qualified-listed, listed-qualified, place-qualified, job-kept, Fits, fixed-places, calibrations-fixed, calibrations-few, calibrations-some, calibrations-none, calibrations-good}
use Rattle.theory.proofs.Claims.{homes, LeavesPut}
use Rattle.theory.proofs.Sound.{Good, good-is, is-good, SoundBook, sound-is, is-sound, good-ranged, minutes-some, good-at}

-- ---- what takes time: the batches and the calibrations above 0

pub items-good : (k : Book) → SoundBook k → every (good_batch k.m) (items k) ≡ true
items-good k s =
    let c = good-calibrations-is k.m k.calibrations s.calibrations in
    every_append (good_batch k.m) k.batches (calibrations_to k.calibrations k.m) s.batches
    (calibrations-good k.m k.calibrations k.m c.count (le_refl k.m) c.each)

pub items-length : (k : Book) → length (items k) ≡ size k + length (calibrations_to k.calibrations k.m)
items-length k = length-append k.batches (calibrations_to k.calibrations k.m)

-- at most 224
pub items-few : (k : Book) → SoundBook k → length (items k) ≤ 224
unfolding good_instruments
items-few k s =
    let m : k.m ≤ 24 = leb-true _ _ (and_right (leb 1 k.m) _ s.instruments) in
    omega (arith, items-length k, calibrations-few k.calibrations k.m, s.room)

-- ---- the instance and the places

job-at : (bs : List Batch) (b : ℕ) → get_or (map job_of bs) b no_job ≡ job_of (get_or bs b no_batch_here)
job-at bs b = get_or-map job_of bs b no_batch_here

place_at : (bs : List Batch) (b : ℕ) → get_or (map (λ (c : Batch). c.place) bs) b 0 ≡ (get_or bs b no_batch_here).place
place_at bs b = get_or-map (λ (c : Batch). c.place) bs b no_batch_here

pub jobs-count : (k : Book) → n (instance k) ≡ length (items k)
jobs-count k = length-map (items k) job_of

-- there is a job for each batch
pub batches-first : (k : Book) → size k ≤ n (instance k)
batches-first k = omega (arith, jobs-count k, items-length k)

-- there is a job where there is a batch, or a calibration above 0
pub busy-some : (k : Book) → busy k ≡ true → 0 < n (instance k)
unfolding busy
busy-some k e =
    let long = items-length k in
    or_cases (leb 1 (size k)) (any_to k.m (λ i. leb 1 (at k.calibrations i))) e
    (λ t. omega (arith, jobs-count k, long, leb-true 1 (size k) t))
    (λ t. omega (arith, jobs-count k, long, calibrations-some k.calibrations k.m t))

-- and nowhere else
pub some-busy : (k : Book) → 0 < n (instance k) → busy k ≡ true
unfolding busy
some-busy k h =
    let any = any_to k.m (λ i. leb 1 (at k.calibrations i)) in
    by_test (leb 1 (size k) or any) (λ t. t)
    (λ t. let e = or-none (leb 1 (size k)) any t in
    absurd (omega (arith, h, jobs-count k, items-length k, leb-false 1 (size k) e.0, calibrations-none k.calibrations k.m e.1)))

pub sound-valid : (k : Book) → sound k ≡ true → Valid (instance k)
sound-valid k v = record { minutes = lasting; ranged = named }
  where
    good : (b : ℕ) → b < length (items k) → Good k.m (get_or (items k) b no_batch_here)
    good b h = good-at k.m (items k) b (items-good k (sound-is k v)) h

    lasting : (b : ℕ) → 0 < b → b ≤ n (instance k) → 0 < minutes_of (instance k) b
    lasting zero p q = absurd (omega arith)
    lasting (suc b) p q =
        subst (λ (j : Job). 0 < j.minutes) (sym (job-at (items k) b)) (minutes-some _ (good b (omega (arith, jobs-count k))).minutes)

    named : (b i : ℕ) → eligible (instance k) b i ≡ true → (0 < i) × (i ≤ k.m)
    named zero i e = absurd (omega (arith, (eligible-job (instance k) 0 i e).0))
    named (suc b) i e =
        let h : b < length (items k) = omega (arith, jobs-count k, (eligible-job (instance k) (suc b) i e).1) in
        let g = good b h in
        good-ranged k.m _ i g.list
        (qualified-listed (get_or (items k) b no_batch_here) i g.place (subst (λ (j : Job). mem i j.list ≡ true) (job-at (items k) b) e))

pub sound-permitted : (k : Book) → sound k ≡ true → Permitted (instance k) (places k)
sound-permitted k v = record { size = length-map (items k) _ ∙ sym (jobs-count k); listed = listed }
  where
    listed : (b : ℕ) → 0 < b → b ≤ n (instance k) → eligible (instance k) b (at (places k) b) ≡ true
    listed zero p q = absurd (omega arith)
    listed (suc b) p q =
        subst₂ (λ (j : Job) (p : ℕ). mem p j.list ≡ true) (sym (job-at (items k) b)) (sym (place_at (items k) b))
        (place-qualified (get_or (items k) b no_batch_here) (good-at k.m (items k) b (items-good k (sound-is k v)) (omega (arith, jobs-count k))).place)

-- ---- other places

placed-jobs : (bs : List Batch) (x : Assignment) → Fits bs x → map job_of (place_all bs x) ≡ map job_of bs
placed-jobs [] x h = refl
placed-jobs (b ∷ bs) [] h = refl
placed-jobs (b ∷ bs) (p ∷ x) h =
    ap₂ (λ (j : Job) (r : List Job). j ∷ r) (job-kept b p (h 0 (omega arith))) (placed-jobs bs x (λ c l. h (suc c) (omega arith)))

pub placed-instance : (k : Book) (x : Assignment) → Fits k.batches x → instance (with_places k x) ≡ instance k
placed-instance k x h =
    let cs = calibrations_to k.calibrations k.m in
    ap (λ (r : List Job). record { m = k.m; jobs = r })
    (map-append job_of (place_all k.batches x) cs
    ∙ ap (λ (r : List Job). r ++ map job_of cs) (placed-jobs k.batches x h)
    ∙ sym (map-append job_of k.batches cs))

pub placed_at : (bs : List Batch) (x : Assignment) → length bs ≤ length x → map (λ (b : Batch). b.place) (place_all bs x) ≡ take (length bs) x
placed_at [] x h = refl
placed_at (b ∷ bs) [] h = absurd (omega arith)
placed_at (b ∷ bs) (p ∷ x) h = ap (λ (r : List ℕ). p ∷ r) (placed_at bs x (omega arith))

-- every permitted assignment has the calibrations where they stand
pub calibrations-stay : (k : Book) (x : Assignment) → Permitted (instance k) x → drop (size k) x ≡ homes k
calibrations-stay k x w =
    let cs = calibrations_to k.calibrations k.m in
    fixed-places (drop (size k) x) (calibrations-fixed k.calibrations k.m)
    (omega (arith, length-drop (size k) x, w.size, jobs-count k, items-length k))
    (λ b h. subst₂ (λ (p : ℕ) (j : Batch). mem p (qualified j) ≡ true) (sym (get_or-drop (size k) x b 0)) (get_or-append-add k.batches cs b no_batch_here)
    (subst (λ (j : Job). mem (get_or x (size k + b) 0) j.list ≡ true) (job-at (items k) (size k + b))
    (w.listed (suc (size k + b)) (omega arith) (omega (arith, jobs-count k, items-length k)))))

pub placed-places : (k : Book) (x : Assignment) → Permitted (instance k) x → places (with_places k x) ≡ x
placed-places k x w =
    let cs = calibrations_to k.calibrations k.m in
    map-append _ (place_all k.batches x) cs
    ∙ ap₂ (λ (a b : List ℕ). a ++ b) (placed_at k.batches x (omega (arith, w.size, batches-first k))) (sym (calibrations-stay k x w))
    ∙ take-append-drop (size k) x

-- the places past the batches are those of the calibrations, in every permitted assignment
pub places-past : (k : Book) (x y : Assignment) → Permitted (instance k) x → Permitted (instance k) y → (b : ℕ) → size k < b → at x b ≡ at y b
places-past k x y v w zero h = refl
places-past k x y v w (suc b) h =
    let past : (z : Assignment) → Permitted (instance k) z
    → get_or z b 0 ≡ get_or (homes k) (b - size k) 0 =
    λ z u. ap (λ (c : ℕ). get_or z c 0) (let e : b ≡ size k + (b - size k) = omega arith in e)
    ∙ sym (get_or-drop (size k) z (b - size k) 0)
    ∙ ap (λ (l : List ℕ). get_or l (b - size k) 0) (calibrations-stay k z u) in
    past x v ∙ sym (past y w)

-- so none of them improves
pub improves-batch : (k : Book) (x : Assignment) → Permitted (instance k) x → (b : ℕ) → Improves (instance k) x b → b ≤ size k
improves-batch k x w b r =
    let c = eligible-job (instance k) b r.machine r.better.listed in
    elim (dec_le b (size k)) [
      | yes h ↦ h
      | no h ↦ absurd (r.better.other
          (sym (at-put-same x b r.machine c.0 (omega (arith, w.size, c.1)))
          ∙ sym (places-past k x (put x b r.machine) w (put-permitted b r.machine w r.better.listed) b (omega arith))))
    ]

-- places entered over others
all-again : (bs : List Batch) (x y : Assignment) → length bs ≤ length y → place_all (place_all bs x) y ≡ place_all bs y
all-again [] x y h = refl
all-again (b ∷ bs) [] y h = refl
all-again (b ∷ bs) (p ∷ x) [] h = absurd (omega arith)
all-again (b ∷ bs) (p ∷ x) (q ∷ y) h =
    ap (λ (r : List Batch). with_place b q ∷ r) (all-again bs x y (omega arith))

pub placed-again : (k : Book) (x y : Assignment) → size k ≤ length y → with_places (with_places k x) y ≡ with_places k y
placed-again k x y h = ap (with_batches k) (all-again k.batches x y h)

placed-length : (bs : List Batch) (x : Assignment) → length (place_all bs x) ≡ length bs
placed-length [] x = refl
placed-length (b ∷ bs) [] = refl
placed-length (b ∷ bs) (p ∷ x) = ap suc (placed-length bs x)

pub placed-size : (k : Book) (x : Assignment) → size (with_places k x) ≡ size k
placed-size k x = placed-length k.batches x

placed-good : (m : ℕ) (bs : List Batch) (x : Assignment) → every (good_batch m) bs ≡ true → Fits bs x
    → every (good_batch m) (place_all bs x) ≡ true
unfolding every
placed-good m [] x e h = e
placed-good m (b ∷ bs) [] e h = e
placed-good m (b ∷ bs) (p ∷ x) e h =
    let g = good-is m b (and_left _ _ e) in
    and-mk _ _ (is-good m _ (record { minutes = g.minutes; list = g.list; order = g.order; place = qualified-listed b p g.place (h 0 (omega arith)) }))
    (placed-good m bs x (and_right (good_batch m b) _ e) (λ c l. h (suc c) (omega arith)))

-- a permitted assignment has each batch where it counts as qualified
pub batches-fit : (k : Book) (x : Assignment) → Permitted (instance k) x → Fits k.batches x
batches-fit k x w b h =
    subst (λ (c : Batch). mem (get_or x b 0) (qualified c) ≡ true) (get_or-append k.batches (calibrations_to k.calibrations k.m) no_batch_here b h)
    (subst (λ (j : Job). mem (get_or x b 0) j.list ≡ true) (job-at (items k) b)
    (w.listed (suc b) (omega arith) (omega (arith, batches-first k))))

-- only the places of batches are entered
placed-front : (bs : List Batch) (x : Assignment) → place_all bs (take (length bs) x) ≡ place_all bs x
placed-front [] x = refl
placed-front (b ∷ bs) [] = refl
placed-front (b ∷ bs) (p ∷ x) = ap (λ (r : List Batch). with_place b p ∷ r) (placed-front bs x)

pub front-placed : (k : Book) (x : Assignment) → with_places k (take (size k) x) ≡ with_places k x
front-placed k x = ap (with_batches k) (placed-front k.batches x)

pub fit-sound : (k : Book) (x : Assignment) → sound k ≡ true → Fits k.batches x → sound (with_places k x) ≡ true
fit-sound k x v w =
    let s = sound-is k v in
    is-sound (with_places k x) (record {
      instruments = s.instruments;
      calibrations = s.calibrations;
      room = omega (arith, placed-length k.batches x, s.room);
      batches = placed-good k.m k.batches x s.batches w;
    })

pub placed-sound : (k : Book) (x : Assignment) → sound k ≡ true → Permitted (instance k) x → sound (with_places k x) ≡ true
placed-sound k x v w = fit-sound k x v (batches-fit k x w)

-- each plan of the batches, with the calibrations where they stand, is a permitted assignment
homes-fit : (k : Book) (x : Assignment) → sound k ≡ true → length x ≡ size k → Fits k.batches x → Permitted (instance k) (x ++ homes k)
homes-fit k x v e w =
    let p : places (with_places k x) ≡ x ++ homes k =
    map-append _ (place_all k.batches x) (calibrations_to k.calibrations k.m)
    ∙ ap (λ (a : List ℕ). a ++ homes k) (placed_at k.batches x (omega arith) ∙ take_all (length k.batches) x (omega arith)) in
    subst₂ Permitted (placed-instance k x w) p (sound-permitted (with_places k x) (fit-sound k x v w))

-- ---- plans that leave started batches put

pub permitted-leaves : (k : Book) (x : Assignment) → sound k ≡ true → Permitted (instance k) x → LeavesPut k x
permitted-leaves k x v w = record {
  listed = λ b h. qualified-listed (batch k (suc b)) _ (good-at k.m k.batches b (sound-is k v).batches h).place (batches-fit k x w b h);
  put = λ b h t. started-qualified (batch k (suc b)) _ t (batches-fit k x w b h);
}

-- with the calibrations where they stand, each such plan is a permitted assignment
pub leaves-permitted : (k : Book) (x : Assignment) → sound k ≡ true → length x ≡ size k → LeavesPut k x → Permitted (instance k) (x ++ homes k)
leaves-permitted k x v e p = homes-fit k x v e (λ b h. listed-qualified (batch k (suc b)) _ (p.listed b h) (p.put b h))

-- so no started batch improves
pub improves-waits : (k : Book) (x : Assignment) → sound k ≡ true → Permitted (instance k) x → (b : ℕ) → Improves (instance k) x b
    → (batch k b).started ≡ false
improves-waits k x e w zero r = refl
improves-waits k x e w (suc b) r =
    let c = eligible-job (instance k) (suc b) r.machine r.better.listed in
    let h : b < size k = omega (arith, improves-batch k x w (suc b) r) in
    let v = put-permitted (suc b) r.machine w r.better.listed in
    by_test (batch k (suc b)).started
    (λ t. absurd (r.better.other
    (sym (at-put-same x (suc b) r.machine c.0 (omega (arith, w.size, c.1)))
    ∙ (permitted-leaves k (put x (suc b) r.machine) e v).put b h t
    ∙ sym ((permitted-leaves k x e w).put b h t))))
    (λ t. t)
