-- A book that is read is sound, and stays sound under every edit.
use Prim.Native.Nat.{ℕ, zero, suc, ◌-◌, ◌≤◌, ◌<◌}
use mathlib.Core.Path.{◌≡◌, refl, subst}
use mathlib.Core.Bool.{Bool, true, false, not}
use mathlib.Core.List.{List, [], ◌∷◌, ◌++◌, map}
use native.Mathlib.Omega.{arith}
use lib.ListN.{length, get_or, length-append, length-set, length-map}
use lib.Dec.{leb, ltb, eqb}
use borrow.Author.Tests.{leb-true, ltb-true, eqb-true, le-leb, not-true}
use Rattle.rules.specs.Fold.{◌and◌, mem, every}
use Rattle.rules.specs.Refusal.{Refusal}
use Rattle.rules.specs.Sheet.{Batch, Book, waiting, size, batch, no_batch_here, is_batch, head, max_batches, good_instruments, good_minutes, good_calibrations, is_instrument, good_list, ascending, good_batch, sound}
use Rattle.rules.specs.Edit.{Edit, add, withdraw, requalify, move, start, Edited, edited, unless, kept, without, with_batches, with_batch, if_waiting, if_listed, edit}
use Rattle.rules.specs.Read.{accepted, place_or, good_place, read}
use Rattle.rules.specs.Render.{given_number, Described, Description, batch_within_limits, within_limits, placed, book_said}
use Rattle.theory.proofs.Logic.{by_test, conflict, and_left, and_right, and-mk, or_cases}
use Rattle.theory.proofs.Member.{mem-head, every_append, every_one, every-at, every_set, every-mem}
use Rattle.theory.proofs.Format.{batch-within-is, within-is}
use Rattle.theory.proofs.Parse.{read-is-render}

-- ---- the parts of a good batch and of a sound book

pub record Good (m : ℕ) (b : Batch) : Type 0 where
  pub minutes : good_minutes b.minutes ≡ true
  pub list : good_list m b.list ≡ true
  pub order : ascending b.list ≡ true
  pub place : mem b.place b.list ≡ true

pub good-is : (m : ℕ) (b : Batch) → good_batch m b ≡ true → Good m b
unfolding good_batch
good-is m b e =
    let r = and_right (good_minutes b.minutes) _ e in
    let s = and_right (good_list m b.list) _ r in
    record { minutes = and_left _ _ e; list = and_left _ _ r; order = and_left _ _ s; place = and_right (ascending b.list) _ s }

pub is-good : (m : ℕ) (b : Batch) → Good m b → good_batch m b ≡ true
unfolding good_batch
is-good m b g = and-mk _ _ g.minutes (and-mk _ _ g.list (and-mk _ _ g.order g.place))

pub record SoundBook (k : Book) : Type 0 where
  pub instruments : good_instruments k.m ≡ true
  pub calibrations : good_calibrations k.m k.calibrations ≡ true
  pub room : size k ≤ max_batches
  pub batches : every (good_batch k.m) k.batches ≡ true

pub sound-is : (k : Book) → sound k ≡ true → SoundBook k
unfolding sound
sound-is k e =
    let c = and_right (good_instruments k.m) _ e in
    let r = and_right (good_calibrations k.m k.calibrations) _ c in
    record {
      instruments = and_left _ _ e;
      calibrations = and_left _ _ c;
      room = leb-true _ _ (and_left _ _ r);
      batches = and_right (leb (size k) max_batches) _ r;
    }

pub is-sound : (k : Book) → SoundBook k → sound k ≡ true
unfolding sound
is-sound k s = and-mk _ _ s.instruments (and-mk _ _ s.calibrations (and-mk _ _ (le-leb _ _ s.room) s.batches))

-- ---- lists

-- a good list is not empty
pub good-some : (m : ℕ) (l : List ℕ) → good_list m l ≡ true → 0 < length l
unfolding good_list
good-some m l e = leb-true _ _ (and_left _ _ e)

-- and each it names is an instrument
pub good-ranged : (m : ℕ) (l : List ℕ) (i : ℕ) → good_list m l ≡ true → mem i l ≡ true → (0 < i) × (i ≤ m)
unfolding good_list is_instrument
good-ranged m l i e h =
    let r = and_right (leb (length l) m) _ (and_right (leb 1 (length l)) _ e) in
    let t = every-mem (is_instrument m) l i (and_left _ _ r) h in
    (leb-true _ _ (and_left _ _ t), leb-true _ _ (and_right (leb 1 i) _ t))

pub minutes-some : (t : ℕ) → good_minutes t ≡ true → 0 < t
unfolding good_minutes
minutes-some t e = leb-true _ _ (and_left _ _ e)

pub first-listed : (l : List ℕ) → 0 < length l → mem (head l) l ≡ true
first-listed [] h = absurd (omega arith)
first-listed (x ∷ l) h = mem-head x l

pub kept-listed : (p : ℕ) (l : List ℕ) → 0 < length l → mem (kept p l) l ≡ true
unfolding kept
kept-listed p l h = by_test (mem p l) (λ t. rw t t) (λ t. rw t (first-listed l h))

-- ---- reading

-- a place not given is the first listed
pub place-listed : (s : Bool) (p : ℕ) (l : List ℕ) → 0 < length l → good_place s p l ≡ true → mem (place_or p l) l ≡ true
unfolding good_place
place-listed s zero l h e = first-listed l h
place-listed s (suc p) l h e =
    or_cases (not s and eqb (suc p) 0) (mem (suc p) l) e (λ t. absurd (omega (arith, eqb-true (suc p) 0 (and_right (not s) _ t)))) (λ t. t)

within-good : (m : ℕ) (b : Described) → batch_within_limits m b ≡ true → good_batch m (placed b) ≡ true
within-good m b e =
    let f = batch-within-is m b e in
    is-good m (placed b) (record {
      minutes = f.minutes;
      list = f.list;
      order = f.order;
      place = place-listed b.started (given_number b.place) b.list (good-some m b.list f.list) f.place;
    })

within-every : (m : ℕ) (bs : List Described) → every (batch_within_limits m) bs ≡ true → every (good_batch m) (map placed bs) ≡ true
unfolding every
within-every m [] e = e
within-every m (b ∷ bs) e = and-mk _ _ (within-good m b (and_left _ _ e)) (within-every m bs (and_right (batch_within_limits m b) _ e))

pub within-sound : (d : Description) → within_limits d ≡ true → sound (book_said d) ≡ true
within-sound d e =
    let f = within-is d e in
    is-sound (book_said d) (record {
      instruments = f.instruments;
      calibrations = f.calibrations;
      room = omega (arith, length-map d.batches placed, leb-true (length d.batches) max_batches f.room);
      batches = within-every d.m d.batches f.batches;
    })

pub read-sound : (s : List ℕ) (k : Book) → read s ≡ accepted k → sound k ≡ true
read-sound s k e =
    let r = read-is-render s k e in
    subst (λ (j : Book). sound j ≡ true) r.2 (within-sound r.0 r.1)

-- ---- edits

pub passes : (t : Bool) (e : Refusal) (o : Edited) (j : Book) → unless t e o ≡ edited j → (t ≡ true) × (o ≡ edited j)
passes true e o j h = (refl, h)
passes false e o j h = absurd (let z : ◌≡◌ {A = ℕ} 0 1 = cc in omega arith)

-- an edit of a batch that has not started
pub waits : (k : Book) (b : ℕ) (o : Edited) (j : Book) → if_waiting k b o ≡ edited j
    → (is_batch k b ≡ true) × ((batch k b).started ≡ false) × (o ≡ edited j)
waits k b o j h =
    let a = passes (is_batch k b) _ _ j h in
    let c = passes (not (batch k b).started) _ o j a.1 in
    (a.0, not-true _ c.0, c.1)

-- an edit that gives a batch a list
pub lists : (m : ℕ) (l : List ℕ) (o : Edited) (j : Book) → if_listed m l o ≡ edited j
    → (good_list m l ≡ true) × (ascending l ≡ true) × (o ≡ edited j)
lists m l o j h =
    let a = passes (good_list m l) _ _ j h in
    let c = passes (ascending l) _ o j a.1 in
    (a.0, c.0, c.1)

without-length : (bs : List Batch) (k : ℕ) → length (without bs k) ≤ length bs
without-length [] k = omega arith
without-length (b ∷ bs) zero = omega arith
without-length (b ∷ bs) (suc k) = omega (arith, without-length bs k)

without-every : (p : Batch → Bool) (bs : List Batch) (k : ℕ) → every p bs ≡ true → every p (without bs k) ≡ true
unfolding every
without-every p [] k e = e
without-every p (b ∷ bs) zero e = and_right (p b) _ e
without-every p (b ∷ bs) (suc k) e = and-mk _ _ (and_left _ _ e) (without-every p bs k (and_right (p b) _ e))

-- one of several good batches, and the batch of a number
pub good-at : (m : ℕ) (bs : List Batch) (b : ℕ) → every (good_batch m) bs ≡ true → b < length bs → Good m (get_or bs b no_batch_here)
good-at m bs b e h = good-is m _ (every-at (good_batch m) bs no_batch_here b e h)

pub good-batch : (k : Book) (b : ℕ) → SoundBook k → is_batch k b ≡ true → Good k.m (batch k b)
unfolding is_batch
good-batch k zero s e = conflict (and_left (leb 1 0) _ e) refl
good-batch k (suc b) s e = good-at k.m k.batches b s.batches (leb-true _ _ (and_right (leb 1 (suc b)) _ e))

-- one batch entered anew
with-sound : (k : Book) (b : ℕ) (c : Batch) → SoundBook k → Good k.m c → SoundBook (with_batch k b c)
with-sound k b c s g =
    record {
      instruments = s.instruments;
      calibrations = s.calibrations;
      room = omega (arith, length-set k.batches (b - 1) c, s.room);
      batches = every_set (good_batch k.m) k.batches (b - 1) c s.batches (is-good k.m c g);
    }

-- one batch more
pub appended-sound : (k : Book) (c : Batch) → SoundBook k → Good k.m c → size k < max_batches
    → SoundBook (with_batches k (k.batches ++ (c ∷ [])))
appended-sound k c s g h =
    record {
      instruments = s.instruments;
      calibrations = s.calibrations;
      room = omega (arith, length-append k.batches (c ∷ []));
      batches = every_append (good_batch k.m) k.batches (c ∷ []) s.batches (every_one (good_batch k.m) c (is-good k.m c g));
    }

-- the book that an edit gives
pub gave : {k j : Book} → SoundBook k → edited k ≡ edited j → sound j ≡ true
gave {k} {j} s e = let q : k ≡ j = cc in rw q at (is-sound k s)

pub edit-sound : (k : Book) (e : Edit) (j : Book) → sound k ≡ true → edit k e ≡ edited j → sound j ≡ true
unfolding edit
edit-sound k (add t l) j v e =
    let s = sound-is k v in
    let a = passes (ltb (size k) max_batches) _ _ j e in
    let b = passes (good_minutes t) _ _ j a.1 in
    let c = lists k.m l _ j b.1 in
    let x = waiting t l (head l) in
    let g : Good k.m x = record { minutes = b.0; list = c.0; order = c.1; place = first-listed l (good-some k.m l c.0) } in
    gave (appended-sound k x s g (ltb-true _ _ a.0)) c.2
edit-sound k (withdraw b) j v e =
    let s = sound-is k v in
    gave (record {
      instruments = s.instruments;
      calibrations = s.calibrations;
      room = omega (arith, without-length k.batches (b - 1), s.room);
      batches = without-every (good_batch k.m) k.batches (b - 1) s.batches;
    }) (waits k b _ j e).2
edit-sound k (requalify b l) j v e =
    let s = sound-is k v in
    let a = waits k b _ j e in
    let c = lists k.m l _ j a.2 in
    gave (with-sound k b _ s (record {
      minutes = (good-batch k b s a.0).minutes;
      list = c.0;
      order = c.1;
      place = kept-listed (batch k b).place l (good-some k.m l c.0);
    })) c.2
edit-sound k (move b i) j v e =
    let s = sound-is k v in
    let a = waits k b _ j e in
    let c = passes (mem i (batch k b).list) _ _ j a.2 in
    let g = good-batch k b s a.0 in
    gave (with-sound k b _ s (record { minutes = g.minutes; list = g.list; order = g.order; place = c.0 })) c.1
edit-sound k (start b) j v e =
    let s = sound-is k v in
    let a = waits k b _ j e in
    let g = good-batch k b s a.0 in
    gave (with-sound k b _ s (record { minutes = g.minutes; list = g.list; order = g.order; place = g.place })) a.2
