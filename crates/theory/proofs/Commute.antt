-- Edits in either order (document 02, C-19). What an edit that moves, requalifies or starts a batch comes to depends on m, the number of
-- batches, that batch's record and the edit's own arguments, and nothing but that record is entered anew. So two of them on different
-- batches commute.
use Prim.Native.Nat.{ℕ, zero, suc, ◌-◌, ◌<◌}
use mathlib.Core.Path.{◌≡◌, refl, sym, ap, ◌∙◌}
use mathlib.Core.Bool.{Bool, true, false, not}
use mathlib.Core.List.{List, [], ◌∷◌}
use native.Mathlib.Omega.{arith}
use lib.ListN.{length-set}
use lib.Seq.{get_or-set_other, set_comm}
use lib.Dec.{leb}
use borrow.Author.Tests.{leb-true, eqb-false, not-true}
use Rattle.rules.specs.Fold.{◌and◌, mem}
use Rattle.rules.specs.Refusal.{Refusal, bad_list, bad_place, bad_order, no_batch, has_started}
use Rattle.rules.specs.Sheet.{Book, Batch, with_place, with_list, begun, no_batch_here, batch, is_batch, size, good_list, ascending}
use Rattle.rules.specs.Edit.{Edit, add, withdraw, requalify, move, start, Edited, edited, unless, kept, with_batches, with_batch, if_waiting, edit}
use Rattle.rules.specs.Edit as E
use Rattle.rules.specs.Run.{Call, editing, reviewing, trying, balancing, settling, edit_answer, edit_book, answer, next}
use Rattle.rules.specs.Interleave.{Subject, one, none, subject, different, independent}
use Rattle.theory.proofs.Logic.{conflict, and_left}
use Rattle.theory.proofs.Claims.{Commutes}

-- ---- what an edit of one batch comes to

-- a refusal, or the batch's new record
pub data Entry : Type 0 where
  refused : Refusal → Entry
  entered : Batch → Entry

abbrev check : Bool → Refusal → Entry → Entry
check true e o = o
check false e o = refused e

abbrev pub enter : Book → ℕ → Entry → Edited
enter k b (refused e) = E.refused e
enter k b (entered r) = edited (with_batch k b r)

-- The lemma that all rests on. Call c is an edit of batch number b alone: its reply, and the record that it enters for b and for no other
-- batch, are settled by m, the number of batches, the record of b and the call's arguments. Where a record is entered, b is not 0.
pub record Local (c : Call) (b : ℕ) : Type 0 where
  pub entry : ℕ → ℕ → Batch → Entry
  pub reply : (k : Book) → answer k c ≡ edit_answer (enter k b (entry k.m (size k) (batch k b)))
  pub book : (k : Book) → next k c ≡ edit_book k (enter k b (entry k.m (size k) (batch k b)))
  pub some : (m n : ℕ) (r s : Batch) → entry m n r ≡ entered s → 0 < b

-- a test of m and the record, and the refusal where it fails
record Test : Type 0 where
  passes : ℕ → Batch → Bool
  refusal : Refusal

abbrev unless_all : Book → ℕ → List Test → Edited → Edited
unless_all k b [] o = o
unless_all k b (t ∷ ts) o = unless (t.passes k.m (batch k b)) t.refusal (unless_all k b ts o)

abbrev check_all : ℕ → Batch → List Test → Entry → Entry
check_all m r [] o = o
check_all m r (t ∷ ts) o = check (t.passes m r) t.refusal (check_all m r ts o)

unless-check : (k : Book) (b : ℕ) (t : Bool) (e : Refusal) (x : Edited) (o : Entry) → x ≡ enter k b o → unless t e x ≡ enter k b (check t e o)
unless-check k b true e x o h = h
unless-check k b false e x o h = refl

all-checked : (k : Book) (b : ℕ) (ts : List Test) (o : Entry)
    → unless_all k b ts (enter k b o) ≡ enter k b (check_all k.m (batch k b) ts o)
all-checked k b [] o = refl
all-checked k b (t ∷ ts) o = unless-check k b (t.passes k.m (batch k b)) t.refusal _ _ (all-checked k b ts o)

-- an edit that is judged by 6, 11 and further tests, and changes the record in some way
module _ (b : ℕ) (ts : List Test) (g : Batch → Batch) where
  abbrev judged : Book → Edited
  judged k = if_waiting k b (unless_all k b ts (edited (with_batch k b (g (batch k b)))))

  abbrev comes_to : ℕ → ℕ → Batch → Entry
  comes_to m n r = check (leb 1 b and leb b n) no_batch (check (not r.started) has_started (check_all m r ts (entered (g r))))

  judged-is : (k : Book) → judged k ≡ enter k b (comes_to k.m (size k) (batch k b))
  unfolding is_batch
  judged-is k =
      unless-check k b (leb 1 b and leb b (size k)) no_batch _ _
      (unless-check k b (not (batch k b).started) has_started _ _ (all-checked k b ts (entered (g (batch k b)))))

  comes-some : (m n : ℕ) (r s : Batch) → comes_to m n r ≡ entered s → 0 < b
  comes-some m n r s h = from (leb 1 b and leb b n) refl h
    where
      from : (t : Bool) → leb 1 b and leb b n ≡ t
          → check t no_batch (check (not r.started) has_started (check_all m r ts (entered (g r)))) ≡ entered s → 0 < b
      from true q e = leb-true 1 b (and_left (leb 1 b) _ q)
      from false q e = absurd (let z : ◌≡◌ {A = ℕ} 0 1 = cc in omega arith)

  local : (e : Edit) → ((k : Book) → edit k e ≡ judged k) → Local (editing e) b
  unfolding answer next
  local e h = record {
    entry = comes_to;
    reply = λ k. ap edit_answer (h k ∙ judged-is k);
    book = λ k. ap (edit_book k) (h k ∙ judged-is k);
    some = comes-some;
  }

-- ---- the three edits of one batch

-- what is known of a call, by its subject
abbrev Of : Call → Subject → Type 0
Of c (one b) = Local c b
Of c none = Unit {0}

pub subject-local : (c : Call) → Of c (subject c)
unfolding edit
subject-local (editing (requalify b l)) =
    local b
    (record { passes = λ m r. good_list m l; refusal = bad_list } ∷ record { passes = λ m r. ascending l; refusal = bad_order } ∷ [])
    (λ r. with_place (with_list r l) (kept r.place l)) (requalify b l) (λ k. refl)
subject-local (editing (move b i)) =
    local b (record { passes = λ m r. mem i r.list; refusal = bad_place } ∷ []) (λ r. with_place r i) (move b i) (λ k. refl)
subject-local (editing (start b)) = local b [] begun (start b) (λ k. refl)
subject-local (editing (add t l)) = tt
subject-local (editing (withdraw b)) = tt
subject-local reviewing = tt
subject-local (trying a) = tt
subject-local (balancing c) = tt
subject-local (settling c) = tt

-- ---- the book after such an edit

abbrev after : Book → ℕ → Entry → Book
after k b o = edit_book k (enter k b o)

module _ (k : Book) (b : ℕ) where
  after-m : (o : Entry) → (after k b o).m ≡ k.m
  after-m (refused e) = refl
  after-m (entered r) = refl

  after-size : (o : Entry) → size (after k b o) ≡ size k
  after-size (refused e) = refl
  after-size (entered r) = length-set k.batches (b - 1) r

  after-other : (o : Entry) → ((r : Batch) → o ≡ entered r → 0 < b) → (c : ℕ) → (b ≡ c → ⊥) → batch (after k b o) c ≡ batch k c
  after-other (refused e) s c d = refl
  after-other (entered r) s zero d = refl
  after-other (entered r) s (suc c) d =
      let h = s r refl in
      get_or-set_other k.batches (b - 1) c r no_batch_here (λ q. d (omega arith))

  -- the reply does not tell on which book
  same-reply : (j : Book) (o : Entry) → edit_answer (enter j b o) ≡ edit_answer (enter k b o)
  same-reply j (refused e) = refl
  same-reply j (entered r) = refl

after_both : (k : Book) (b c : ℕ) (o w : Entry) → ((r : Batch) → o ≡ entered r → 0 < b) → ((r : Batch) → w ≡ entered r → 0 < c)
    → (b ≡ c → ⊥) → after (after k b o) c w ≡ after (after k c w) b o
after_both k b c (refused e) w s u d = refl
after_both k b c (entered r) (refused e) s u d = refl
after_both k b c (entered r) (entered v) s u d =
    let h = s r refl in
    let l = u v refl in
    ap (with_batches k) (set_comm k.batches (b - 1) (c - 1) r v (λ q. d (omega arith)))

-- ---- two of them

module _ {c d : Call} {a b : ℕ} (u : Local c a) (v : Local d b) (n : a ≡ b → ⊥) (k : Book) where
  abbrev first : Entry
  first = u.entry k.m (size k) (batch k a)

  abbrev second : Entry
  second = v.entry k.m (size k) (batch k b)

  -- the second comes to what it would have come to without the first
  unmoved : v.entry (next k c).m (size (next k c)) (batch (next k c) b) ≡ second
  unmoved = rw (u.book k, after-m k a first, after-size k a first, after-other k a first (u.some _ _ _) b n)

  second-reply : answer (next k c) d ≡ answer k d
  second-reply =
      v.reply (next k c)
      ∙ ap (λ (o : Entry). edit_answer (enter (next k c) b o)) unmoved
      ∙ same-reply k b (next k c) second
      ∙ sym (v.reply k)

  book-after : next (next k c) d ≡ after (after k a first) b second
  book-after =
      v.book (next k c) ∙ ap (λ (o : Entry). after (next k c) b o) unmoved ∙ ap (λ (j : Book). after j b second) (u.book k)

local-commute : {c d : Call} {a b : ℕ} → Local c a → Local d b → (a ≡ b → ⊥) → (k : Book) → Commutes k c d
local-commute {a = a} {b = b} u v n k = record {
  first = second-reply v u (λ q. n (sym q)) k;
  second = second-reply u v n k;
  book =
      book-after u v n k
      ∙ after_both k a b (first u v n k) (second u v n k) (u.some _ _ _) (v.some _ _ _) n
      ∙ sym (book-after v u (λ q. n (sym q)) k);
}

-- any two calls that are independent, on any book
pub commute : (k : Book) (c d : Call) → independent c d ≡ true → Commutes k c d
unfolding independent
commute k c d h = from (subject c) (subject d) (subject-local c) (subject-local d) h
  where
    from : (s t : Subject) → Of c s → Of d t → different s t ≡ true → Commutes k c d
    from (one a) (one b) u v e = local-commute u v (eqb-false a b (not-true _ e)) k
    from (one a) none u v e = conflict e refl
    from none t u v e = conflict e refl
