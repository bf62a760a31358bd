-- Demand 3: from any sheet file and any worklist without a fault, through any list of calls.
use Prim.Native.Nat.{ℕ}
use mathlib.Core.Path.{◌≡◌, refl, sym, ap, ◌∙◌}
use mathlib.Core.Bool.{Bool, true, false}
use mathlib.Core.List.{List, map}
use lib.ListN.{length}
use Rattle.rules.specs.Sheet.{Book, sound}
use Rattle.rules.specs.Read.{accepted}
use Rattle.rules.specs.Run.{Call, answer, next, book_after, answers, answer_numbers, roomy, balance_answer, settle_answer, balance_book, settle_book, with_places}
use Rattle.rules.specs.Fold.{pick}
use Rattle.rules.specs.Run as R
use Rattle.theory.proofs.Sound.{read-sound}
use Rattle.theory.proofs.Taken.{taken-sound}
use Rattle.theory.proofs.Runs.{sound-claims, next-sound}
use Rattle.sheet.specs.declared.Sheet.{Sheet}
use Rattle.std.specs.Prelude.{Ok}
use Rattle.sheet.specs.Represent.{sheet_of, book_of}
use Rattle.sheet.specs.Answers.{Edited, read_as, ReadAnswered}
use Rattle.sheet.proofs.Accepted.{or-accepted}
use Rattle.sheet.proofs.Answered.{edit-next}
use Rattle.sheet.proofs.Represent.{book-sheet, sheet-sound}
use Rattle.calls.specs.Lent.{balance_reply, settle_reply, balance_as, settle_as, balance_left, settle_left}
use Rattle.calls.specs.Runs.{Link, editing, reviewing, trying, balancing, settling, Reply, reply_numbers, Chain, link, chain_numbers, Source, file, worklist, says, HoldsBook, Holds, call, Whole}
use Rattle.calls.specs.Runs as S

-- ---- a sheet that holds a book

pub stands : (k : Book) (s : Sheet) → sound k ≡ true → s ≡ sheet_of k → HoldsBook k s
stands k s v e = record {
  sound = rw e (sheet-sound k v);
  sheet = e;
  book = rw e (book-sheet k v);
  claims = sound-claims k v;
}

-- ---- the sheet after a call

pub balance-next : (k : Book) (c : ℕ) → balance_left (sheet_of k) (balance_reply k c) ≡ sheet_of (next k (R.balancing c))
unfolding balance_reply answer next
balance-next k c = from (roomy k c)
  where
    from : (t : Bool) → balance_left (sheet_of k) (balance_as (balance_answer t k) (sheet_of (pick t (with_places k (balance_book k).assignment) k)))
        ≡ sheet_of (pick t (with_places k (balance_book k).assignment) k)
    from true = refl
    from false = refl

pub settle-next : (k : Book) (c : ℕ) → settle_left (sheet_of k) (settle_reply k c) ≡ sheet_of (next k (R.settling c))
unfolding settle_reply answer next
settle-next k c = from (roomy k c)
  where
    from : (t : Bool) → settle_left (sheet_of k) (settle_as (settle_answer t k) (sheet_of (pick t (with_places k (settle_book k).assignment) k)))
        ≡ sheet_of (pick t (with_places k (settle_book k).assignment) k)
    from true = refl
    from false = refl

-- ---- one call, and a list of them

still : (k : Book) (c : Call) (s : Sheet) → s ≡ sheet_of k → next k c ≡ k → s ≡ sheet_of (next k c)
still k c s e f = rw f e

reviewed-next : (k : Book) → next k R.reviewing ≡ k
unfolding next
reviewed-next k = refl

tried-next : (k : Book) (a : ℕ) → next k (R.trying a) ≡ k
unfolding next
tried-next k a = refl

pub link-answer : (k : Book) {s t : Sheet} {c : Call} {r : Reply} → book_of s ≡ k → Link s c r t → reply_numbers k r ≡ answer_numbers (answer k c)
link-answer k b (editing s e r t f) = rw b at f.numbers
link-answer k b (reviewing s r f) = rw b at f.numbers
link-answer k b (trying s a r f) = rw b at f.numbers
link-answer k b (balancing s before r after f) = rw b at f.numbers
link-answer k b (settling s before r after f) = rw b at f.numbers

pub link-next : (k : Book) {s t : Sheet} {c : Call} {r : Reply} → s ≡ sheet_of k → book_of s ≡ k → Link s c r t → t ≡ sheet_of (next k c)
link-next k q b (editing s e r t f) = ap (λ (x : Edited). x.sheet) f.is ∙ edit-next k s e b q
link-next k q b (reviewing s r f) = still k R.reviewing s q (reviewed-next k)
link-next k q b (trying s a r f) = still k (R.trying a) s q (tried-next k a)
link-next k q b (balancing s before r after f) =
    ap (balance_left s) f.is ∙ rw (b, q) (balance-next k (length before))
link-next k q b (settling s before r after f) =
    ap (settle_left s) f.is ∙ rw (b, q) (settle-next k (length before))

pub chain-holds : (k : Book) {s u : Sheet} {cs : List Call} {rs : List Reply} → sound k ≡ true → s ≡ sheet_of k → Chain s cs rs u → Holds k s cs rs u
chain-holds k {s} v e S.end = S.end (stands k s v e)
chain-holds k {s} v e (link {c = c} l h) =
    let w = stands k s v e in
    call w l (link-answer k w.book l) (chain-holds (next k c) (next-sound k c v) (link-next k e w.book l) h)

-- ---- the whole list

chain-sheet : (k : Book) {s u : Sheet} {cs : List Call} {rs : List Reply} → Holds k s cs rs u → u ≡ sheet_of (book_after k cs)
unfolding book_after
chain-sheet k (S.end w) = w.sheet
chain-sheet k (call {c = c} w l e h) = chain-sheet (next k c) h

chain-answers : (k : Book) {s u : Sheet} {cs : List Call} {rs : List Reply} → Holds k s cs rs u
    → chain_numbers k cs rs ≡ map answer_numbers (answers k cs)
unfolding answers chain_numbers
chain-answers k (S.end w) = refl
chain-answers k (call {c = c} w l e h) = rw (e, chain-answers (next k c) h)

-- ---- from its source on

-- a book that is said is sound
pub said-sound : (o : Source) (k : Book) → says o ≡ accepted k → sound k ≡ true
said-sound (file s) k e = read-sound s k e
said-sound (worklist m l s) k e = taken-sound m l s k e

-- any sheet file and any worklist that is not refused, and any list of calls from the sheet that it gives
pub run_holds : (o : Source) (s : Sheet) → ReadAnswered (says o) (Ok s)
    → {cs : List Call} {rs : List Reply} {u : Sheet} → Chain s cs rs u → Whole o s cs rs u
run_holds o s e {cs} {rs} {u} h =
    let k = book_of s in
    let w = or-accepted (says o) s (said-sound o) e.is in
    let v = chain-holds k (said-sound o k w.book) (sym w.sound.arrays) h in
    record {
      book = k;
      said = w.book;
      holds = v;
      sheet = chain-sheet k v;
      replies = chain-answers k v;
    }

-- none without a fault is refused
pub fault-free : (o : Source) (k : Book) → says o ≡ accepted k → read_as (says o) ≡ Ok (sheet_of k)
fault-free o k e = ap read_as e
