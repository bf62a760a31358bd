-- Lists of calls on sheets (document 01, "Runs"): what the functions return, each call as a link from sheet to sheet, and what is
-- claimed of a whole list.
use Rattle.std.specs.Prelude.{ℕ, ◌≡◌, List, [], ◌∷◌, ◌++◌, map, length, Result}
use Rattle.rules.specs.Sheet.{Book}
use Rattle.rules.specs.Edit.{Edit}
use Rattle.rules.specs.Read.{Reading, accepted, read}
use Rattle.rules.specs.Worklist.{taken}
use Rattle.rules.specs.Run.{Call, answer, next, book_after, answers, answer_numbers}
use Rattle.rules.specs.Run as R
use Rattle.rules.specs.Interleave.{Interleaving, turns, answers_by_turns}
use Rattle.theory.proofs.Claims.{Claims}
use Rattle.theory.proofs.Interleave.{in_order, other-order}
use Rattle.sheet.specs.declared.Sheet.{Sheet}
use Rattle.sheet.specs.declared.Refusal.{Refusal}
use Rattle.sheet.specs.Represent.{Sound, sheet_of, book_of}
use Rattle.sheet.specs.Answers.{Edited, edit_numbers, EditAnswered}
use Rattle.moves.specs.declared.Move.{Move}
use Rattle.planner.specs.declared.Tried.{Tried}
use Rattle.planner.specs.declared.Reviewed.{Reviewed}
use Rattle.planner.specs.Calls.{review_numbers, trial_numbers, ReviewAnswered, TrialAnswered}
use Rattle.planner.specs.declared.Balanced.{Balanced}
use Rattle.planner.specs.declared.Settled.{Settled}
use Rattle.calls.specs.declared.Reply as C
use Rattle.calls.specs.Lent.{balance_numbers, settle_numbers, balance_left, settle_left, BalanceAnswered, SettleAnswered}

-- what a call's function returns, and, of balance and settle, what the lent list holds afterwards
pub data Reply : Type 0 where
  edited : Result Unit Refusal → Reply
  reviewed : Reviewed → Reply
  tried : Result Tried Refusal → Reply
  balanced : Result (C.Reply Balanced) Refusal → List Move → Reply
  settled : Result (C.Reply Settled) Refusal → List Move → Reply

-- a reply as document 01's numbers: the refusal first, 0 for none, and then its values; k is the book before the call
abbrev pub reply_numbers : Book → Reply → List ℕ
reply_numbers k (edited r) = edit_numbers r
reply_numbers k (reviewed r) = review_numbers k r
reply_numbers k (tried r) = trial_numbers k r
reply_numbers k (balanced r list) = balance_numbers r list
reply_numbers k (settled r list) = settle_numbers r list

-- A call on a sheet, its reply, and the sheet that the next call gets: the reply is what the function promises, word for word, and
-- the next sheet is the one that an edit leaves or a reply holds; review, a trial and a refusal leave it as it is. The call of balance or settle has the number of
-- entries of the list lent to it.
pub data Link : Sheet → Call → Reply → Sheet → Type 0 where
  editing : (s : Sheet) (e : Edit) (r : Result Unit Refusal) (t : Sheet) → EditAnswered s e r t → Link s (R.editing e) (edited r) t
  reviewing : (s : Sheet) (r : Reviewed) → ReviewAnswered (book_of s) r → Link s R.reviewing (reviewed r) s
  trying : (s : Sheet) (a : ℕ) (r : Result Tried Refusal) → TrialAnswered (book_of s) a r → Link s (R.trying a) (tried r) s
  balancing : (s : Sheet) (before : List Move) (r : Result (C.Reply Balanced) Refusal) (after : List Move)
      → BalanceAnswered (book_of s) before r after → Link s (R.balancing (length before)) (balanced r after) (balance_left s r)
  settling : (s : Sheet) (before : List Move) (r : Result (C.Reply Settled) Refusal) (after : List Move)
      → SettleAnswered (book_of s) before r after → Link s (R.settling (length before)) (settled r after) (settle_left s r)

-- a list of calls from sheet to sheet
pub data Chain : Sheet → List Call → List Reply → Sheet → Type 0 where
  end : {s : Sheet} → Chain s [] [] s
  link : {s t u : Sheet} {c : Call} {r : Reply} {cs : List Call} {rs : List Reply} → Link s c r t → Chain t cs rs u
      → Chain s (c ∷ cs) (r ∷ rs) u

-- the replies of a list of calls from the book k on
unfoldable pub chain_numbers : Book → List Call → List Reply → List (List ℕ)
chain_numbers k [] rs = []
chain_numbers k (c ∷ cs) [] = []
chain_numbers k (c ∷ cs) (r ∷ rs) = reply_numbers k r ∷ chain_numbers (next k c) cs rs

-- ---- what a run starts from

-- the bytes of a sheet file; or instruments and their calibrations, with the bytes of a worklist (document 02, C-18)
pub data Source : Type 0 where
  file : List ℕ → Source
  worklist : ℕ → List ℕ → List ℕ → Source

-- what it says by the rules: a book, or a refusal
abbrev pub says : Source → Reading
says (file s) = read s
says (worklist m l s) = taken m l s

-- ---- what is claimed

-- the sheet s holds the book k, on which all claims hold
pub record HoldsBook (k : Book) (s : Sheet) : Type 0 where
  pub sound : Sound s
  pub sheet : s ≡ sheet_of k
  pub book : book_of s ≡ k
  pub claims : Claims k

-- before each call the sheet holds the book, the reply is the book's answer, and the sheet after it holds the book after it
pub data Holds : Book → Sheet → List Call → List Reply → Sheet → Type 0 where
  end : {k : Book} {s : Sheet} → HoldsBook k s → Holds k s [] [] s
  call : {k : Book} {s t u : Sheet} {c : Call} {r : Reply} {cs : List Call} {rs : List Reply} → HoldsBook k s → Link s c r t
      → reply_numbers k r ≡ answer_numbers (answer k c) → Holds (next k c) t cs rs u → Holds k s (c ∷ cs) (r ∷ rs) u

-- demand 3 of a run from a sheet file or a worklist: the book that it says, what holds at each call, the sheet at the end, and all replies
pub record Whole (source : Source) (s : Sheet) (cs : List Call) (rs : List Reply) (u : Sheet) : Type 0 where
  pub book : Book
  pub said : says source ≡ accepted book
  pub holds : Holds book s cs rs u
  pub sheet : u ≡ sheet_of (book_after book cs)
  pub replies : chain_numbers book cs rs ≡ map answer_numbers (answers book cs)

-- ---- edits in either order (document 02, C-19)

-- Two edits on one sheet. Where the first comes first they are answered a and b, and where the second does, from the same sheet again, b₂
-- and a₂: each is refused alike or made both times, and the sheet after both is the same.
pub record EitherOrder (a b b₂ a₂ : Edited) : Type 0 where
  pub first : a₂.answer ≡ a.answer
  pub second : b₂.answer ≡ b.answer
  pub sheet : a₂.sheet ≡ b.sheet

-- A run in which xs and ys stand interleaved, after cs and before zs. The sheet at the end is that of the one list and then the other, and so
-- that of any interleaving; each call of either list has the reply that it has where the other is not there.
pub record Interleaved (source : Source) {xs ys ws : List Call} (h : Interleaving xs ys ws) (cs zs : List Call) (rs : List Reply) (u : Sheet) : Type 0 where
  pub book : Book
  pub said : says source ≡ accepted book
  pub sheet : u ≡ sheet_of (book_after book (cs ++ (xs ++ ys ++ zs)))
  pub replies : chain_numbers book (cs ++ (ws ++ zs)) rs ≡ map answer_numbers (answers_by_turns book (turns h) cs xs ys zs)

-- two runs in which neighbours, c and d, have changed places
pub record Neighbours (source : Source) (c d : Call) (cs zs : List Call) (rs : List Reply) (u : Sheet) (ps : List Reply) (w : Sheet) : Type 0 where
  pub one : Interleaved source (in_order c d) cs zs rs u
  pub other : Interleaved source (other-order c d) cs zs ps w
  pub sheet : w ≡ u
