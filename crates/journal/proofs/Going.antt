-- A run line by line: the calls that are left, the sheet that the next one gets, and the text of the answers so far.
use Prim.Native.Nat.{ℕ, suc, ◌+◌, ◌-◌, ◌≤◌}
use mathlib.Core.Path.{◌≡◌, refl, sym, ap, ◌∙◌}
use mathlib.Core.List.{List, [], ◌∷◌, ◌++◌, append_assoc, append-nil}
use native.Mathlib.Omega.{arith}
use lib.Dec.{leb}
use lib.ListN.{length, take, drop, length-append, length-drop, replicate}
use borrow.Author.Tests.{leb-true, leb-false}
use Rattle.rules.specs.Refusal.{Refusal}
use Rattle.rules.specs.Read.{refuses}
use lib.Seq.{take_at, paste}
use Rattle.rules.specs.Sheet.{Book}
use Rattle.rules.specs.Run.{Call, answer, next, book_after, answers, answer_numbers}
use Rattle.rules.specs.Journal.{Journal, calls, faulty, with_call, journal, call_line, answer_line, answer_lines}
use Rattle.theory.proofs.Logic.{by_test}
use Rattle.theory.proofs.Runs.{next-sound}
use Rattle.sheet.specs.declared.Sheet.{Sheet}
use Rattle.sheet.specs.Represent.{Sound, sheet_of, book_of, padded}
use Rattle.sheet.proofs.Padded.{length-padded}
use Rattle.sheet.proofs.Represent.{book-sheet, sheet-sound}
use Rattle.text.proofs.Pasted.{Wrote, wrote_none, wrote-more, wrote-start}
use Rattle.journal.specs.declared.run.Turn.{Turn}
use Rattle.journal.specs.Entry.{lines_from}
use Rattle.journal.specs.Answering.{Made, made_with, made_of, is_settle, line_of, line_length, said, AnswerFits}
use Rattle.journal.specs.Running.{Spells, Turned, text_of, book_left}
use Rattle.journal.proofs.Linewise.{journal-is, lines-first, lines-faulty, lines_end}
use Rattle.journal.proofs.Fitting.{answer-fits, line-is, line-of-length}

-- ---- what is made of a call

pub record Answered (k : Book) (c : Call) (m : Made) : Type 0 where
  pub sheet : m.sheet ≡ sheet_of (next k c)
  pub numbers : said m.answer ≡ answer_numbers (answer k c)
  pub few : m.answer.size ≤ 632
  pub fits : AnswerFits m.answer
  pub text : line_of m.answer.settle (said m.answer) ≡ answer_line (answer k c)
  pub bytes : length (answer_line (answer k c)) ≡ line_length m.answer.settle m.answer.size

module _ (s : Sheet) (v : Sound s) (c : Call) where
  made-is : Answered (book_of s) c (made_of (book_of s) c)
  unfolding made_of
  made-is =
      let a = answer (book_of s) c in
      let l = answer_numbers a in
      let f = answer-fits s v c in
      let e : take (length l) (padded 632 l) ≡ l = take_at l (replicate (632 - length l) 0) (length l) refl in
      record {
        sheet = refl;
        numbers = e;
        few = f.few;
        fits = record { whole = omega (arith, f.few, length-padded 632 l f.few); fitting = rw e f };
        text = rw e (line-is a);
        bytes = ap length (sym (line-is a)) ∙ line-of-length (is_settle a) l f;
      }

  pub answered : (m : Made) → m ≡ made_of (book_of s) c → Answered (book_of s) c m
  answered m q = rw q made-is

  pub next-sheet : (t : Sheet) → t ≡ sheet_of (next (book_of s) c) → Sound t
  next-sheet t e = rw e (sheet-sound (next (book_of s) c) (next-sound (book_of s) c v.book))

  pub next-book : (t : Sheet) → t ≡ sheet_of (next (book_of s) c) → book_of t ≡ next (book_of s) c
  next-book t e = rw e (book-sheet (next (book_of s) c) (next-sound (book_of s) c v.book))

-- ---- a run from the book k by the journal j, before the line at at

pub record Going (k : Book) (j : List ℕ) (s : Sheet) (at : ℕ) : Type 0 where
  pub sound : Sound s
  pub room : at ≤ length j
  pub line : ℕ
  pub left : List Call
  pub lines : lines_from line (drop at j) ≡ calls left
  pub written : List ℕ
  pub whole : text_of k (journal j) ≡ written ++ answer_lines (answers (book_of s) left)
  pub after : book_left k (journal j) ≡ book_after (book_of s) left

unfoldable pub going_start : (s : Sheet) → Sound s → (j : List ℕ) → Spells j → Going (book_of s) j s 0
unfolding text_of book_left
going_start s v j p = record {
  sound = v;
  room = omega arith;
  line = 1;
  left = p.made;
  lines = sym (journal-is j) ∙ p.same;
  written = [];
  whole = ap (text_of (book_of s)) p.same;
  after = ap (book_left (book_of s)) p.same;
}

pub start-written : (s : Sheet) (v : Sound s) (j : List ℕ) (p : Spells j) → (going_start s v j p).written ≡ []
unfolding going_start
start-written s v j p = refl

pub start-wrote : (s : Sheet) (v : Sound s) (j : List ℕ) (p : Spells j) (d : List ℕ) → Wrote d 0 (going_start s v j p).written 0 d
start-wrote s v j p d = rw (start-written s v j p) (wrote_none d 0 (omega arith))

-- the lines after a line's call
pub record Follow (j : List ℕ) (next line : ℕ) (left : List Call) (c : Call) : Type 0 where
  pub rest : List Call
  pub lines : lines_from (suc line) (drop next j) ≡ calls rest
  pub parts : left ≡ c ∷ rest

never : (l : Journal) (i : ℕ) (cs : List Call) → l ≡ faulty i → l ≡ calls cs → ⊥
never l i cs p q = let z : ◌≡◌ {A = ℕ} 0 1 = cc in omega arith

follow : (j : List ℕ) (next line : ℕ) (left : List Call) (c : Call) (l : Journal) → lines_from (suc line) (drop next j) ≡ l
    → with_call c l ≡ calls left → Follow j next line left c
follow j next line left c (calls rest) p q = record { rest = rest; lines = p; parts = cc }
follow j next line left c (faulty i) p q = absurd (never (faulty i) i left refl q)

module _ {k : Book} {j : List ℕ} {s : Sheet} {at : ℕ} (g : Going k j s at) where
  -- a call is made
  module _ {r : Turn} {t : Sheet} (u : Turned s j at r t) where
    pub made : Answered (book_of s) u.call (made_with r.answer t)
    made = answered s g.sound u.call _ u.same

    pub follows : Follow j r.next g.line g.left u.call
    follows =
        follow j r.next g.line g.left u.call (lines_from (suc g.line) (drop r.next j)) refl
        (sym (lines-first j at g.line r.next u.call u.part (omega (arith, u.past)) u.room) ∙ g.lines)

    -- its answer stands behind what is written
    pub turn-whole : text_of k (journal j)
        ≡ g.written ++ (answer_line (answer (book_of s) u.call) ++ answer_lines (answers (book_of t) follows.rest))
    unfolding answers answer_lines
    turn-whole =
        g.whole
        ∙ ap (λ (cs : List Call). g.written ++ answer_lines (answers (book_of s) cs)) follows.parts
        ∙ ap (λ (z : Book). g.written ++ (answer_line (answer (book_of s) u.call) ++ answer_lines (answers z follows.rest)))
        (sym (next-book s g.sound u.call t made.sheet))

    -- and the last sheet is the same
    pub turn-after : book_left k (journal j) ≡ book_after (book_of t) follows.rest
    unfolding book_after
    turn-after =
        g.after
        ∙ ap (book_after (book_of s)) follows.parts
        ∙ ap (λ (z : Book). book_after z follows.rest) (sym (next-book s g.sound u.call t made.sheet))

    unfoldable pub going_on : Going k j t r.next
    going_on = record {
      sound = next-sheet s g.sound u.call t made.sheet;
      room = u.room;
      line = suc g.line;
      left = follows.rest;
      lines = follows.lines;
      written = g.written ++ answer_line (answer (book_of s) u.call);
      whole =
          turn-whole
          ∙ sym (append_assoc g.written (answer_line (answer (book_of s) u.call)) (answer_lines (answers (book_of t) follows.rest)));
      after = turn-after;
    }

    pub turn-written : length going_on.written ≡ length g.written + line_length r.answer.settle r.answer.size
    unfolding going_on
    turn-written = omega (arith, length-append g.written (answer_line (answer (book_of s) u.call)), made.bytes)

    -- its line behind the lines before it
    pub turn-wrote : {d e₁ e₂ : List ℕ} {to n : ℕ} → Wrote d 0 g.written to e₁
        → length g.written + line_length r.answer.settle r.answer.size ≤ length d → n ≡ to + line_length r.answer.settle r.answer.size
        → e₂ ≡ paste e₁ to (line_of r.answer.settle (said r.answer)) (line_length r.answer.settle r.answer.size)
        → Wrote d 0 going_on.written n e₂
    unfolding going_on
    turn-wrote {to = to} {n = n} w x q f =
        let l = answer_line (answer (book_of s) u.call) in
        let z : to ≡ 0 + to = omega arith in
        wrote-more l to (line_length r.answer.settle r.answer.size) n w z q made.bytes (omega (arith, w.size)) (rw made.text at f)

    -- it fits where the whole text does
    pub turn-room : length g.written + line_length r.answer.settle r.answer.size ≤ length (text_of k (journal j))
    turn-room =
        let l = answer_line (answer (book_of s) u.call) in
        let m = answer_lines (answers (book_of t) follows.rest) in
        omega (arith, ap length turn-whole, length-append g.written (l ++ m), length-append l m, made.bytes)

  -- no call is left
  module _ (e : Refusal) (q : call_line (drop at j) ≡ refuses e) where
    none_left : g.left ≡ []
    none_left = by_test (leb (length j) at)
        (λ t. none g.left (sym g.lines ∙ lines_end j at g.line (leb-true (length j) at t)))
        (λ t. absurd (never _ g.line g.left
        (lines-faulty g.line (drop at j) e q (omega (arith, leb-false (length j) at t, length-drop at j))) g.lines))
      where
        none : (cs : List Call) → calls cs ≡ calls [] → cs ≡ []
        none cs e = cc

    pub going_end : text_of k (journal j) ≡ g.written
    unfolding answers answer_lines
    going_end = g.whole ∙ ap (λ (cs : List Call). g.written ++ answer_lines (answers (book_of s) cs)) none_left ∙ append-nil g.written

    pub end-sheet : s ≡ sheet_of (book_left k (journal j))
    unfolding book_after
    end-sheet = sym g.sound.arrays ∙ ap sheet_of (sym (g.after ∙ ap (book_after (book_of s)) none_left))

    pub end-wrote : {d e : List ℕ} {to : ℕ} → Wrote d 0 g.written to e
        → (to ≡ length (text_of k (journal j))) × (e ≡ text_of k (journal j) ++ drop to d)
    end-wrote w = (omega (arith, w.size, ap length going_end), wrote-start w (sym going_end))
