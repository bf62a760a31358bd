-- Lists of calls on the book (document 01, "Runs"): the book stays sound along every list, and each trial, each balance and each settle
-- in it keeps what the documents claim of it.
use Prim.Native.Nat.{ℕ, zero, suc, ◌+◌, ◌≤◌, ◌<◌}
use mathlib.Core.Path.{◌≡◌, refl, sym, ap, ap₂, ◌∙◌, subst}
use mathlib.Core.Bool.{Bool, true, false}
use mathlib.Core.List.{List, [], ◌∷◌, ◌++◌}
use native.Mathlib.Nat.{le_trans}
use native.Mathlib.Omega.{arith}
use lib.ListN.{take, take-append-drop}
use borrow.Author.Tests.{le-leb, lt-leb}
use Rattle.rules.specs.Fold.{pick}
use Rattle.rules.specs.Sheet.{Book, Batch, size, batch, sound}
use Rattle.rules.specs.Read.{read, accepted}
use Rattle.rules.specs.Edit.{Edit, Edited, refused, edited, edit}
use Rattle.rules.specs.Instance.{Instance, Assignment, busy, instance, places}
use Rattle.rules.specs.Load.{longest, makespan, review}
use Rattle.rules.specs.Trial.{at_level, ended}
use Rattle.rules.specs.Group.{Tried, passed}
use Rattle.rules.specs.Round.{multiples, equal_lengths, close_to}
use Rattle.rules.specs.Moves.{follow}
use Rattle.rules.specs.Plan.{rested, plan}
use Rattle.rules.specs.Run.{Call, editing, reviewing, trying, balancing, settling, balanced, settled, answer, next, book_after, edit_book, balance_book, settle_book, roomy, records_to, with_places}
use Rattle.theory.proofs.Valid.{Valid, Permitted}
use Rattle.theory.proofs.Sound.{read-sound, edit-sound}
use Rattle.theory.proofs.Jobs.{sound-valid, sound-permitted, placed-sound, placed-places, placed-instance, placed-again, placed-size, places-past, batches-first, busy-some, some-busy, improves-batch, improves-waits, batches-fit, calibrations-stay, permitted-leaves, leaves-permitted}
use Rattle.theory.proofs.Started.{started-stays}
use Rattle.theory.proofs.Interleave.{interleaves}
use Rattle.theory.proofs.Claims.{homes, renumbered, number_after, Lends, Bounds, Plans, Claims}
use Rattle.theory.proofs.Records.{records-lead}
use Rattle.theory.proofs.Rewrite.{read-written, most-written}
use Rattle.theory.proofs.Lists.{batch-lowest, added-lowest, requalified-lowest, same_bytes, bytes_same}
use Rattle.theory.proofs.Review.{review-settled, settled-review, settled-none, none-settled, review-first}
use Rattle.theory.proofs.Heights.{permitted-partial}
use Rattle.theory.proofs.Ending.{trial-lifts, trial-pushes}
use Rattle.theory.proofs.Trial.{Outcome, passes, fails, outcome, trial-permitted}
use Rattle.theory.proofs.Round.{close-mk, close-le, multiples-one, multiples-equal}
use Rattle.theory.proofs.Planning.{rested-permitted, rested-settled, rested-makespan, rested-no-later, rested-moves, balanced-permitted, balanced-makespan, balanced-no-later, balanced-counts, balanced-close, balanced-bound-below, balanced-near-bound, balanced-witness}

-- ---- lent lists

roomy-yes : (k : Book) (c : ℕ) → size k ≤ c → roomy k c ≡ true
roomy-yes k c h = le-leb (size k) c h

roomy-no : (k : Book) (c : ℕ) → c < size k → roomy k c ≡ false
roomy-no k c h = lt-leb (size k) c h

module _ (k : Book) (x : Assignment) (w : Permitted (instance k) x) where
  placed_at : places (with_places k x) ≡ x
  placed_at = placed-places k x w

  picked-instance : (t : Bool) → instance (pick t (with_places k x) k) ≡ instance k
  picked-instance true = placed-instance k x (batches-fit k x w)
  picked-instance false = refl

  -- the records are of the batches alone, since calibrations stay
  batches-lead : Permitted (instance k) (places k) → follow (records_to k x) (places k) ≡ x
  batches-lead v =
      records-lead (size k) (places k) x (omega (arith, v.size, batches-first k)) (w.size ∙ sym v.size) (places-past k (places k) x v w)

balance-lends : (k : Book) → Permitted (instance k) (places k) → Permitted (instance k) (balance_book k).assignment
    → Lends k balancing (balanced (balance_book k)) (balance_book k).assignment
unfolding answer next
balance-lends k v w = record {
  answers = λ c h. rw (roomy-yes k c h);
  leads = batches-lead k _ w v;
  entered = λ c h. rw (roomy-yes k c h) (placed_at k _ w);
  same = λ c. picked-instance k _ w (roomy k c);
  short = λ c h. rw (roomy-no k c h);
  stays = λ c h. rw (roomy-no k c h);
}

settle-lends : (k : Book) → Permitted (instance k) (places k) → Permitted (instance k) (settle_book k).assignment
    → Lends k settling (settled (settle_book k)) (settle_book k).assignment
unfolding answer next
settle-lends k v w = record {
  answers = λ c h. rw (roomy-yes k c h);
  leads = batches-lead k _ w v;
  entered = λ c h. rw (roomy-yes k c h) (placed_at k _ w);
  same = λ c. picked-instance k _ w (roomy k c);
  short = λ c h. rw (roomy-no k c h);
  stays = λ c h. rw (roomy-no k c h);
}

-- ---- every call leaves a sound book sound

balance-permitted : (k : Book) → sound k ≡ true → Permitted (instance k) (balance_book k).assignment
balance-permitted k h = balanced-permitted (instance k) (places k) (sound-valid k h) (sound-permitted k h)

settle-permitted : (k : Book) → sound k ≡ true → Permitted (instance k) (settle_book k).assignment
settle-permitted k h = rested-permitted (sound-valid k h) (sound-permitted k h)

picked-sound : (k : Book) (x : Assignment) → sound k ≡ true → Permitted (instance k) x → (t : Bool) → sound (pick t (with_places k x) k) ≡ true
picked-sound k x h w true = placed-sound k x h w
picked-sound k x h w false = h

edited-sound : (k : Book) (e : Edit) → sound k ≡ true → (o : Edited) → edit k e ≡ o → sound (edit_book k o) ≡ true
edited-sound k e h (refused r) q = h
edited-sound k e h (edited j) q = edit-sound k e j h q

-- refused or not
pub next-sound : (k : Book) (c : Call) → sound k ≡ true → sound (next k c) ≡ true
unfolding next
next-sound k (editing e) h = edited-sound k e h (edit k e) refl
next-sound k reviewing h = h
next-sound k (trying a) h = h
next-sound k (balancing c) h = picked-sound k _ h (balance-permitted k h) (roomy k c)
next-sound k (settling c) h = picked-sound k _ h (settle-permitted k h) (roomy k c)

-- ---- an earlier finish keeps the bounds

bounds-earlier : {k : Book} {f e : ℕ} → e ≤ f → Bounds k f → Bounds k e
bounds-earlier {k} {f} {e} h b =
    let sooner : (g v : ℕ) → close_to (instance k) g f v ≡ true → close_to (instance k) g e v ≡ true =
    λ g v c. close-mk (instance k) g e v (omega (arith, close-le (instance k) g f v c)) in
    record {
      close = λ g m y w. sooner g _ (b.close g m y w);
      below = b.below;
      near = sooner 1 _ b.near;
      witness = b.witness;
    }

-- ---- settle straight after balance

-- settle on a book with other places
pub settle-placed : (k : Book) (x : Assignment) → Permitted (instance k) x → settle_book (with_places k x) ≡ rested (instance k) x
settle-placed k x w = ap₂ rested (placed-instance k x (batches-fit k x w)) (placed_at k x w)

module _ (k : Book) (e : sound k ≡ true) where
  abbrev I : Instance
  I = instance k

  v : Valid I
  v = sound-valid k e

  abbrev x : Assignment
  x = (balance_book k).assignment

  w : Permitted I x
  w = balance-permitted k e

  after : (c : ℕ) → size k ≤ c → next k (balancing c) ≡ with_places k x
  unfolding next
  after c h = rw (roomy-yes k c h)

  enough : (d : ℕ) → size k ≤ d → roomy (with_places k x) d ≡ true
  enough d h =
      roomy-yes (with_places k x) d (omega (arith, placed-size k x))

  after-said : (d : ℕ) → size k ≤ d
      → answer (with_places k x) (settling d) ≡ settled (rested I x) (records_to (with_places k x) (rested I x).assignment)
  unfolding answer
  after-said d h = rw (enough d h, settle-placed k x w)

  after_both : (d : ℕ) → size k ≤ d → next (with_places k x) (settling d) ≡ with_places k (rested I x).assignment
  unfolding next
  after_both d h =
      rw (enough d h, settle-placed k x w) (placed-again k x (rested I x).assignment (omega (arith, (rested-permitted v w).size, batches-first k)))

  planned : ((some : busy k ≡ true) → Bounds k (balance_book k).makespan) → Plans k
  unfolding plan
  planned bounds = record {
    said = λ c d h g. rw (after c h) (after-said d g);
    lower_bound = refl;
    level = refl;
    lifts = refl;
    pushes = refl;
    group = refl;
    book = λ c d h g. rw (after c h) (after_both d g);
    makespan = rested-makespan v w;
    no_later = le_trans (rested-no-later v w) (rw (← balanced-makespan I (places k) v (sound-permitted k e)) (balanced-no-later I (places k) v (sound-permitted k e)));
    permitted = rested-permitted v w;
    settled = rested-settled v w;
    bounds = λ some. bounds-earlier (rw (balanced-makespan I (places k) v (sound-permitted k e)) (rested-no-later v w)) (bounds some);
  }

-- what improves
module _ (k : Book) (e : sound k ≡ true) where
  improving-few : (r : ℕ) → (review (instance k) (places k)).improving ≡ r → r ≤ size k
  improving-few zero q = omega arith
  improving-few (suc b) q =
      improves-batch k (places k) (sound-permitted k e) (suc b) (review-first (instance k) (places k) b q).1

  improving-waits : (r : ℕ) → (review (instance k) (places k)).improving ≡ r → (batch k r).started ≡ false
  improving-waits zero q = refl
  improving-waits (suc b) q =
      improves-waits k (places k) e (sound-permitted k e) (suc b) (review-first (instance k) (places k) b q).1

-- a passed trial is permitted
trial-passed : (k : Book) (v : Valid (instance k)) (w : Permitted (instance k) (places k)) (a : ℕ) {t : Tried} {x : Assignment} {r b : ℕ}
    → Outcome (instance k) (places k) v w a t → t ≡ passed x r b → Permitted (instance k) x
trial-passed k v w a {x = x} (passes p) q =
    let e : (ended (instance k) (places k) a).assignment ≡ x = cc in
    subst (Permitted (instance k)) e (trial-permitted (instance k) (places k) v w (at_level (instance k) a))
trial-passed k v w a (fails g f) q = absurd (let z : ◌≡◌ {A = ℕ} 0 1 = cc in omega arith)

-- and its places are those of the batches, with the calibrations where they stand
trial-shows : (k : Book) {x : Assignment} → Permitted (instance k) x → take (size k) x ++ homes k ≡ x
trial-shows k {x} h = ap (λ (z : Assignment). take (size k) x ++ z) (sym (calibrations-stay k x h)) ∙ take-append-drop (size k) x

-- no call alters a started batch
call_stays : (k : Book) → sound k ≡ true → (c : Call) (b : ℕ) → (batch k b).started ≡ true → batch (next k c) (renumbered k c b) ≡ batch k b
call_stays k e = started-stays k (balance-permitted k e) (settle-permitted k e)

-- a started batch is as it was after every list of calls
never-moved : (k : Book) (cs : List Call) (b : ℕ) → sound k ≡ true → (batch k b).started ≡ true
    → batch (book_after k cs) (number_after k cs b) ≡ batch k b
unfolding book_after number_after
never-moved k [] b h s = refl
never-moved k (c ∷ cs) b h s =
    let e = call_stays k h c b s in
    never-moved (next k c) cs (renumbered k c b) (next-sound k c h) (ap (λ (d : Batch). d.started) e ∙ s) ∙ e

pub sound-claims : (k : Book) → sound k ≡ true → Claims k
sound-claims k e =
    let I = instance k in
    let x = places k in
    let v = sound-valid k e in
    let w = sound-permitted k e in
    let bounds : busy k ≡ true → Bounds k (balance_book k).makespan = λ t. let some = busy-some k t in record {
      close = balanced-close I x v w some;
      below = balanced-bound-below I x v w some;
      near = balanced-near-bound I x v w some;
      witness = balanced-witness I x v w some;
    } in
    record {
      sound = e;
      lists = record { first = batch-lowest k e; added = added-lowest k; requalified = requalified-lowest k };
      files = record {
        same = read-written k e;
        equal = λ j f. same_bytes k j e f;
        only = λ j f. bytes_same k j e f;
        few = most-written k e;
      };
      reviews = record {
        settled = λ z. settled-none I x (review-settled I x z);
        unsettled = λ h. settled-review I x (none-settled I x h);
        few = improving-few k e (review I x).improving refl;
        waits = improving-waits k e (review I x).improving refl;
      };
      permits = record {
        every = λ y l h. leaves-permitted k y e l h;
        leaves = λ y h. permitted-leaves k y e h;
        only = calibrations-stay k;
        some = some-busy k;
      };
      starts = record {
        balanced = λ c b h. call_stays k e (balancing c) b h;
        settled = λ c b h. call_stays k e (settling c) b h;
        stays = λ cs b h. never-moved k cs b e h;
      };
      interleaves = interleaves k;
      trials = record {
        lifts = λ a. trial-lifts I x (permitted-partial w) (at_level I a);
        pushes = λ a. trial-pushes I x (permitted-partial w) (at_level I a);
        valid = v;
        permitted = w;
        outcomes = λ a. outcome I x v w a;
        shows = λ a y r b q. trial-shows k (trial-passed k v w a (outcome I x v w a) q);
        leaves = λ a y r b q. permitted-leaves k y e (trial-passed k v w a (outcome I x v w a) q);
      };
      balances = record {
        no_later = balanced-no-later I x v w;
        permitted = balance-permitted k e;
        makespan = balanced-makespan I x v w;
        counts = balanced-counts I x v w;
        lends = balance-lends k w (balance-permitted k e);
      };
      bounds = bounds;
      settles = record {
        no_later = rested-no-later v w;
        permitted = settle-permitted k e;
        makespan = rested-makespan v w;
        settled = rested-settled v w;
        moves = rested-moves v w;
        lends = settle-lends k w (settle-permitted k e);
      };
      plans = planned k e bounds;
    }

-- ---- what the bound says for any lengths, and for equal ones

module _ {k : Book} {finish : ℕ} (h : Bounds k finish) where
  close_at : (g : ℕ) → multiples (instance k) g ≡ true → (y : Assignment) → Permitted (instance k) y
      → finish + g ≤ makespan (instance k) y + longest (instance k)
  close_at g e y w = close-le (instance k) g _ _ (h.close g e y w)

  -- g = 1: at most longest − 1 above any permitted plan
  pub close-any : (y : Assignment) → Permitted (instance k) y → finish + 1 ≤ makespan (instance k) y + longest (instance k)
  close-any = close_at 1 (multiples-one (instance k))

  -- g = longest: a best plan
  pub close-equal : equal_lengths (instance k) ≡ true → (y : Assignment) → Permitted (instance k) y → finish ≤ makespan (instance k) y
  close-equal e y w = omega (arith, close_at (longest (instance k)) (multiples-equal (instance k) e) y w)

-- ---- along a list of calls

pub after-sound : (k : Book) (cs : List Call) → sound k ≡ true → sound (book_after k cs) ≡ true
unfolding book_after
after-sound k [] h = h
after-sound k (c ∷ cs) h = after-sound (next k c) cs (next-sound k c h)

-- the claims hold on the book before each call of a list, and on the book after it
pub data Throughout : Book → List Call → Type 0 where
  end : {k : Book} → Claims k → Throughout k []
  call : {k : Book} {c : Call} {cs : List Call} → Claims k → Throughout (next k c) cs → Throughout k (c ∷ cs)

pub throughout : (k : Book) (cs : List Call) → sound k ≡ true → Throughout k cs
throughout k [] h = end (sound-claims k h)
throughout k (c ∷ cs) h = call (sound-claims k h) (throughout (next k c) cs (next-sound k c h))

-- from every file without a fault, and for every list of calls
pub run-claims : (s : List ℕ) (k : Book) → read s ≡ accepted k → (cs : List Call) → Throughout k cs
run-claims s k e cs = throughout k cs (read-sound s k e)
