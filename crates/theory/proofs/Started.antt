-- A started batch stays as it is (document 02, C-17): no call alters it. Its number alone falls, where an earlier batch is withdrawn.
use Prim.Native.Nat.{ℕ, zero, suc, ◌-◌, ◌≤◌, ◌<◌}
use mathlib.Core.Path.{◌≡◌, refl, sym, ap, ◌∙◌}
use mathlib.Core.Bool.{Bool, true, false, not}
use mathlib.Core.List.{List, [], ◌∷◌}
use native.Mathlib.Omega.{arith}
use lib.ListN.{get_or, get_or-append, get_or-eq_default}
use lib.Seq.{get_or-set_other}
use lib.Dec.{leb, ltb}
use borrow.Author.Tests.{ltb-true, ltb-false, leb-true, not-true}
use Rattle.rules.specs.Fold.{pick, mem}
use Rattle.rules.specs.Refusal.{Refusal, bad_length, bad_list, bad_place, bad_order, no_batch, sheet_full, has_started}
use Rattle.rules.specs.Sheet.{Book, Batch, with_place, no_batch_here, batch, is_batch, size, max_batches, good_minutes, good_list, ascending}
use Rattle.rules.specs.Edit.{Edit, add, withdraw, requalify, move, start, Edited, edited, unless, without, with_batches, with_batch, if_waiting, if_listed, edit}
use Rattle.rules.specs.Instance.{Assignment, instance}
use Rattle.rules.specs.Run.{Call, editing, reviewing, trying, balancing, settling, place_all, with_places, balance_book, settle_book, edit_book, roomy, next}
use Rattle.theory.proofs.Logic.{by_test, conflict, and_left}
use Rattle.theory.proofs.Valid.{Permitted}
use Rattle.theory.proofs.Claims.{fallen, renumbered}
use Rattle.theory.proofs.Items.{Fits, started-qualified}
use Rattle.theory.proofs.Jobs.{batches-fit}

-- ---- lists of batches

placed-keeps : (bs : List Batch) (x : Assignment) (b : ℕ) → Fits bs x → (get_or bs b no_batch_here).started ≡ true
    → get_or (place_all bs x) b no_batch_here ≡ get_or bs b no_batch_here
placed-keeps [] x b h s = refl
placed-keeps (c ∷ bs) [] b h s = refl
placed-keeps (c ∷ bs) (p ∷ x) zero h s = ap (with_place c) (started-qualified c p s (h 0 (omega arith)))
placed-keeps (c ∷ bs) (p ∷ x) (suc b) h s = placed-keeps bs x b (λ i l. h (suc i) (omega arith)) s

without-before : (bs : List Batch) (j b : ℕ) → b < j → get_or (without bs j) b no_batch_here ≡ get_or bs b no_batch_here
without-before [] j b h = refl
without-before (c ∷ bs) zero b h = absurd (omega arith)
without-before (c ∷ bs) (suc j) zero h = refl
without-before (c ∷ bs) (suc j) (suc b) h = without-before bs j b (omega arith)

without-after : (bs : List Batch) (j b : ℕ) → j ≤ b → get_or (without bs j) b no_batch_here ≡ get_or bs (suc b) no_batch_here
without-after [] j b h = refl
without-after (c ∷ bs) zero b h = refl
without-after (c ∷ bs) (suc j) zero h = absurd (omega arith)
without-after (c ∷ bs) (suc j) (suc b) h = without-after bs j b (omega arith)

-- the number of a batch is not 0
number-some : (k : Book) (j : ℕ) → is_batch k j ≡ true → 0 < j
unfolding is_batch
number-some k j e = leb-true 1 j (and_left (leb 1 j) _ e)

later-falls : (k : Book) (j b : ℕ) → 0 < j → j ≤ b → batch (with_batches k (without k.batches (j - 1))) b ≡ batch k (suc b)
later-falls k j zero p h = absurd (omega arith)
later-falls k j (suc b) p h = without-after k.batches (j - 1) b (omega arith)

-- ---- each call

-- a refused edit leaves the book, and another has passed the test
kept-unless : (k : Book) (P : Book → Type 0) (t : Bool) (e : Refusal) (o : Edited) → P k → (t ≡ true → P (edit_book k o))
    → P (edit_book k (unless t e o))
kept-unless k P true e o p f = f refl
kept-unless k P false e o p f = p

module _ (k : Book) (b : ℕ) (s : (batch k (suc b)).started ≡ true) where
  abbrev Same : Book → Type 0
  Same j = batch j (suc b) ≡ batch k (suc b)

  there : b < size k
  there =
      by_test (ltb b (size k)) (λ t. ltb-true b (size k) t)
      (λ t. conflict s (ap (λ (c : Batch). c.started) (get_or-eq_default k.batches no_batch_here {n = b} (ltb-false b (size k) t))))

  -- one that has not started is another
  other : (j : ℕ) → (batch k j).started ≡ false → j ≡ suc b → ⊥
  other j h e = conflict s (ap (λ (i : ℕ). (batch k i).started) (sym e) ∙ h)

  -- so it stays where that is entered anew
  set_keeps : (j : ℕ) (c : Batch) → is_batch k j ≡ true → (batch k j).started ≡ false → Same (with_batch k j c)
  set_keeps j c e h =
      let p = number-some k j e in
      get_or-set_other k.batches (j - 1) b c no_batch_here (λ q. other j h (omega arith))

  -- checks on a batch that has not started
  waiting-keeps : (j : ℕ) (o : Edited) → (is_batch k j ≡ true → (batch k j).started ≡ false → Same (edit_book k o))
      → Same (edit_book k (if_waiting k j o))
  waiting-keeps j o f =
      kept-unless k Same (is_batch k j) no_batch _ refl
      (λ t. kept-unless k Same (not (batch k j).started) has_started o refl (λ u. f t (not-true _ u)))

  -- checks on a list
  listed-keeps : (l : List ℕ) (o : Edited) → Same (edit_book k o) → Same (edit_book k (if_listed k.m l o))
  listed-keeps l o h =
      kept-unless k Same (good_list k.m l) bad_list _ refl (λ t. kept-unless k Same (ascending l) bad_order o refl (λ u. h))

  taken_out : (j : ℕ) → is_batch k j ≡ true → (batch k j).started ≡ false → (t : Bool) → ltb j (suc b) ≡ t
      → batch (with_batches k (without k.batches (j - 1))) (pick t (suc b - 1) (suc b)) ≡ batch k (suc b)
  taken_out j e h true q =
      let r : suc b - 1 ≡ b = omega arith in
      rw r (later-falls k j b (number-some k j e) (omega (arith, ltb-true j (suc b) q)))
  taken_out j e h false q =
      let p = number-some k j e in
      let l : suc b ≤ j = ltb-false j (suc b) q in
      let d : j ≡ suc b → ⊥ = other j h in
      without-before k.batches (j - 1) b (omega arith)

  withdraw-keeps : (j : ℕ) (t u : Bool) → is_batch k j ≡ t → not (batch k j).started ≡ u
      → let o = unless t no_batch (unless u has_started (edited (with_batches k (without k.batches (j - 1))))) in
      batch (edit_book k o) (fallen o j (suc b)) ≡ batch k (suc b)
  withdraw-keeps j false u p q = refl
  withdraw-keeps j true false p q = refl
  withdraw-keeps j true true p q = taken_out j p (not-true _ q) (ltb j (suc b)) refl

  edit-keeps : (e : Edit) → batch (next k (editing e)) (renumbered k (editing e) (suc b)) ≡ batch k (suc b)
  unfolding next edit
  edit-keeps (add t l) =
      kept-unless k Same (ltb (size k) max_batches) sheet_full _ refl
      (λ p. kept-unless k Same (good_minutes t) bad_length _ refl
      (λ q. listed-keeps l _ (get_or-append k.batches _ no_batch_here b there)))
  edit-keeps (withdraw j) = withdraw-keeps j (is_batch k j) (not (batch k j).started) refl refl
  edit-keeps (requalify j l) =
      waiting-keeps j _ (λ t u. listed-keeps l _ (set_keeps j _ t u))
  edit-keeps (move j i) =
      waiting-keeps j _ (λ t u. kept-unless k Same (mem i (batch k j).list) bad_place _ refl (λ v. set_keeps j _ t u))
  edit-keeps (start j) = waiting-keeps j _ (λ t u. set_keeps j _ t u)

-- places entered, or not
picked-keeps : (k : Book) (x : Assignment) (b : ℕ) → Permitted (instance k) x → (batch k b).started ≡ true → (t : Bool)
    → batch (pick t (with_places k x) k) b ≡ batch k b
picked-keeps k x b w s false = refl
picked-keeps k x zero w s true = refl
picked-keeps k x (suc b) w s true = placed-keeps k.batches x b (batches-fit k x w) s

pub started-stays : (k : Book) → Permitted (instance k) (balance_book k).assignment → Permitted (instance k) (settle_book k).assignment
    → (c : Call) (b : ℕ) → (batch k b).started ≡ true → batch (next k c) (renumbered k c b) ≡ batch k b
unfolding next
started-stays k v w c zero s = conflict s refl
started-stays k v w (editing e) (suc b) s = edit-keeps k b s e
started-stays k v w reviewing (suc b) s = refl
started-stays k v w (trying a) (suc b) s = refl
started-stays k v w (balancing c) (suc b) s = picked-keeps k _ (suc b) v s (roomy k c)
started-stays k v w (settling c) (suc b) s = picked-keeps k _ (suc b) w s (roomy k c)
