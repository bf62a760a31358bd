-- What the host gets, case by case, and what holds at each call of a run.
use Prim.Native.Nat.{ℕ, zero, suc, ◌+◌, ◌≤◌, ◌<◌}
use mathlib.Core.Path.{◌≡◌, refl, ap, ◌∙◌}
use mathlib.Core.Bool.{Bool, true, false}
use mathlib.Core.List.{List, []}
use native.Mathlib.Omega.{arith}
use lib.Dec.{eqb}
use lib.ListN.{length}
use Rattle.rules.specs.Fold.{pick}
use Rattle.rules.specs.Sheet.{Book}
use Rattle.rules.specs.Read.{Part, gives, refuses, Reading, accepted, refused_at, read}
use Rattle.rules.specs.Run.{Call, book_after}
use Rattle.rules.specs.Lent.{text, refusal, into_buffer}
use Rattle.rules.specs.Journal.{Journal, calls, faulty, with_call, on_call, call_line, lines_by, journal, run_due, answer_text, run_host, sheet_text, write_host}
use Rattle.std.proofs.Common.{Some, None, Ok, Err}
use Rattle.theory.proofs.Sound.{read-sound}
use Rattle.theory.proofs.Runs.{Throughout, run-claims}
use Rattle.sheet.specs.declared.Sheet.{Sheet}
use Rattle.sheet.specs.declared.Fault.{Fault}
use Rattle.sheet.specs.Represent.{Sound, sheet_of, book_of}
use Rattle.sheet.specs.Answers.{coded, coded-number, read_as}
use Rattle.sheet.specs.Answers as S
use Rattle.sheet.proofs.Accepted.{Accepted}
use Rattle.sheet.proofs.Represent.{book-sheet, sheet-sound}
use Rattle.text.specs.Answer.{hosted_of}
use Rattle.journal.specs.declared.run.Refused.{Refused}
use Rattle.journal.specs.declared.run.Refused.TheVariants.{BadSheet, BadJournal}
use Rattle.journal.specs.Entry.{fault_of}
use Rattle.journal.specs.Running.{Spells, text_of, book_left, told, left_as, book_before, judged_of, left_of}

-- ---- a fault's line is one of 1 to m

pub data Numbered (m : ℕ) : Journal → Type 0 where
  formed : (cs : List Call) → Numbered m (calls cs)
  fault : (i : ℕ) → 0 < i → i ≤ m → Numbered m (faulty i)

module _ {m : ℕ} where
  first-numbered : (c : Call) {l : Journal} → Numbered m l → Numbered m (with_call c l)
  first-numbered c (formed cs) = formed _
  first-numbered c (fault i h n) = fault i h n

  pick-numbered : (t : Bool) {l r : Journal} → Numbered m l → Numbered m r → Numbered m (pick t l r)
  pick-numbered true a b = a
  pick-numbered false a b = b

  call-numbered : (j : ℕ) (p : Part Call) (f : List ℕ → Journal) → 0 < j → j ≤ m → ((r : List ℕ) → Numbered m (f r))
      → Numbered m (on_call j p f)
  call-numbered j (gives c r) f h n g = first-numbered c (g r)
  call-numbered j (refuses e) f h n g = fault j h n

  lines-numbered : (f j : ℕ) (r : List ℕ) → 0 < j → j + f ≤ m → Numbered m (lines_by f j r)
  unfolding lines_by
  lines-numbered zero j r h n = pick-numbered (eqb (length r) 0) (formed []) (fault j h (omega arith))
  lines-numbered (suc f) j r h n =
      pick-numbered (eqb (length r) 0) (formed [])
      (call-numbered j (call_line r) (λ u. lines_by f (suc j) u) h (omega arith) (λ u. lines-numbered f (suc j) u (omega arith) (omega arith)))

pub journal-numbered : (j : List ℕ) → Numbered (length j + 1) (journal j)
unfolding journal
journal-numbered j = lines-numbered (length j) 1 j (omega arith) (omega arith)

-- a journal with no fault is of the form
pub spells : (j : List ℕ) → None ≡ fault_of (journal j) → Spells j
spells j e = from (journal j) refl e
  where
    from : (l : Journal) → journal j ≡ l → None ≡ fault_of l → Spells j
    from (calls cs) q e = record { made = cs; same = q }
    from (faulty i) q e = cc

-- ---- what a sheet's bytes and a journal's come to

module _ (f : Book → List Call → Book) (s j : List ℕ) where
  -- the sheet is refused
  pub left-unread : (g : Fault) → Err g ≡ read_as (read s) → Err (BadSheet g) ≡ left_as f (read s) (journal j)
  left-unread g e = from (read s) e
    where
      from : (o : Reading) → Err g ≡ read_as o → Err (BadSheet g) ≡ left_as f o (journal j)
      from (accepted k) q = cc
      from (refused_at e i) q = let w : g ≡ S.fault (coded e) i = cc in rw w refl

  -- the journal is
  pub left-faulty : (t : Sheet) (i : ℕ) → Accepted (read s) t → Some i ≡ fault_of (journal j) → Err (BadJournal i) ≡ left_as f (read s) (journal j)
  left-faulty t i a e = rw a.book (from (journal j) e)
    where
      from : (l : Journal) → Some i ≡ fault_of l → Err (BadJournal i) ≡ left_as f (accepted (book_of t)) l
      from (calls cs) q = cc
      from (faulty m) q = let w : i ≡ m = cc in rw w refl

  -- neither is
  pub left-good : (t u : Sheet) (p : Spells j) → Accepted (read s) t → u ≡ sheet_of (f (book_of t) p.made) → Ok u ≡ left_as f (read s) (journal j)
  left-good t u p a e = rw (a.book, p.same, e) refl

  -- and what it means: a refusal is due, whatever text would have been
  pub left-refused : (g : Book → List Call → List ℕ) (e : Refused) → Err e ≡ left_as f (read s) (journal j)
      → run_due g (read s) (journal j) ≡ refusal (told e).refusal (told e).line
  left-refused g e q = from (read s) (journal j) q
    where
      from : (o : Reading) (l : Journal) → Err e ≡ left_as f o l → run_due g o l ≡ refusal (told e).refusal (told e).line
      from (accepted k) (calls cs) q = cc
      from (accepted k) (faulty i) q = let w : e ≡ BadJournal i = cc in rw w refl
      from (refused_at r i) l q = let w : e ≡ BadSheet (S.fault (coded r) i) = cc in rw (w, coded-number r) refl

  -- or there are a book and calls
  pub record Went (t : Sheet) : Type 0 where
    pub book : Book
    pub file : read s ≡ accepted book
    pub calls : Spells j
    pub sheet : t ≡ sheet_of (f book calls.made)

  pub left-went : (t : Sheet) → Ok t ≡ left_as f (read s) (journal j) → Went t
  left-went t e = from (read s) (journal j) refl refl e
    where
      from : (o : Reading) (l : Journal) → read s ≡ o → journal j ≡ l → Ok t ≡ left_as f o l → Went t
      from (accepted k) (calls cs) p q h = record { book = k; file = p; calls = record { made = cs; same = q }; sheet = cc }
      from (accepted k) (faulty i) p q h = cc
      from (refused_at g i) l p q h = cc

-- ---- before the first call

module _ (s j : List ℕ) where
  -- a refusal
  pub run-refused : (e : Refused) (buffer : List ℕ) → Err e ≡ judged_of s j → hosted_of (told e) buffer ≡ run_host s j buffer
  unfolding judged_of run_host into_buffer
  run-refused e buffer q = rw (left-refused book_before s j answer_text e q) (from e)
    where
      from : (e : Refused) → hosted_of (told e) buffer ≡ record { refusal = (told e).refusal; line = (told e).line; length = 0; buffer = buffer }
      from (BadSheet f) = refl
      from (BadJournal i) = refl

  pub refused-left : (e : Refused) → Err e ≡ judged_of s j → Err e ≡ left_of s j
  unfolding judged_of left_of
  refused-left e q = from (read s) (journal j) q
    where
      from : (o : Reading) (l : Journal) → Err e ≡ left_as book_before o l → Err e ≡ left_as book_after o l
      from (accepted k) (calls cs) q = cc
      from (accepted k) (faulty i) q = q
      from (refused_at g i) l q = q

  -- none: the sheet is that of the file's book
  module _ (t : Sheet) (e : Ok t ≡ judged_of s j) where
    went : Went book_before s j t
    unfolding judged_of
    went = left-went book_before s j t e

    pub went-sound : Sound t × Spells j
    went-sound = let w = went in (rw w.sheet (sheet-sound w.book (read-sound s w.book w.file)), w.calls)

    went-book : (w : Went book_before s j t) → book_of t ≡ w.book
    went-book w = ap book_of w.sheet ∙ book-sheet w.book (read-sound s w.book w.file)

    pub run-went : (buffer : List ℕ) → into_buffer (text (text_of (book_of t) (journal j))) buffer ≡ run_host s j buffer
    unfolding run_host text_of
    run-went buffer = let w = went in rw (went-book w, w.file, w.calls.same)

    pub went-left : (u : Sheet) → u ≡ sheet_of (book_left (book_of t) (journal j)) → Ok u ≡ left_of s j
    unfolding left_of book_left
    went-left u q = let w = went in rw (q, went-book w, w.file, w.calls.same) refl

-- ---- a sheet that is read as k, and a journal that spells cs

-- The buffer gets the answers of cs, each on the book that the calls before it leave, or the sheet as they leave it, or the answer is 9;
-- and all that is claimed of a book holds before each call and after the last.
pub record Through (s j buffer : List ℕ) (k : Book) (cs : List Call) : Type 0 where
  pub said : run_host s j buffer ≡ into_buffer (text (answer_text k cs)) buffer
  pub left : write_host s j buffer ≡ into_buffer (text (sheet_text k cs)) buffer
  pub claims : Throughout k cs

run-said : (s j buffer : List ℕ) (k : Book) (cs : List Call) → read s ≡ accepted k → journal j ≡ calls cs
    → (run_host s j buffer ≡ into_buffer (text (answer_text k cs)) buffer)
    × (write_host s j buffer ≡ into_buffer (text (sheet_text k cs)) buffer)
unfolding run_host write_host
run-said s j buffer k cs e f = (rw (e, f), rw (e, f))

pub run-through : (s j buffer : List ℕ) (k : Book) (cs : List Call) → read s ≡ accepted k → journal j ≡ calls cs → Through s j buffer k cs
run-through s j buffer k cs e f =
    let d = run-said s j buffer k cs e f in
    record { said = d.0; left = d.1; claims = run-claims s k e cs }
