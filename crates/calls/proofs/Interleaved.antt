-- Edits in either order (document 02, C-19), of sheets: by what the functions answer, and in runs.
use mathlib.Core.Path.{◌≡◌, refl, sym, ap, ◌∙◌}
use mathlib.Core.Bool.{true}
use mathlib.Core.List.{List, ◌∷◌, ◌++◌, map}
use Rattle.rules.specs.Sheet.{Book}
use Rattle.rules.specs.Edit.{Edit}
use Rattle.rules.specs.Edit as E
use Rattle.rules.specs.Run.{Call, Answer, editing, edit_answer, answer, next, book_after, answer_numbers}
use Rattle.rules.specs.Run as R
use Rattle.rules.specs.Interleave.{independent, all_independent, Interleaving}
use Rattle.theory.proofs.Commute.{commute}
use Rattle.theory.proofs.Interleave.{interleaves, ones-independent, in_order, other-order}
use Rattle.theory.proofs.Runs.{next-sound}
use Rattle.sheet.specs.declared.Sheet.{Sheet}
use Rattle.std.specs.Prelude.{Result, Ok, Err}
use Rattle.sheet.specs.declared.Refusal.{Refusal}
use Rattle.sheet.specs.Represent.{Sound, sheet_of, book_of}
use Rattle.sheet.specs.Answers.{Edited, coded, edited_as, edit_of, EditAnswered, ReadAnswered}
use Rattle.calls.specs.Runs.{Reply, Chain, Source, says, HoldsBook, EitherOrder, Interleaved, Neighbours}
use Rattle.calls.specs.Runs as S
use Rattle.calls.proofs.Runs.{stands, link-next, run_holds}

-- ---- two edits of a sheet

-- what an edit answers, by its answer on the book
abbrev answered : Answer → Result Unit Refusal
answered (R.refused e) = Err (coded e)
answered R.done = Ok tt
answered (R.reviewed v) = Ok tt
answered (R.tried t) = Ok tt
answered (R.balanced b l) = Ok tt
answered (R.settled z l) = Ok tt

as-answered : (s : Sheet) (o : E.Edited) → (edited_as s o).answer ≡ answered (edit_answer o)
as-answered s (E.refused e) = refl
as-answered s (E.edited k) = refl

-- an edit of s, with what it leaves
abbrev Answered : Sheet → Edit → Edited → Type 0
Answered s e a = EditAnswered s e a.answer a.sheet

module _ {s : Sheet} {e : Edit} {a : Edited} (v : Sound s) (h : Answered s e a) where
  edit-answer-is : a.answer ≡ answered (answer (book_of s) (editing e))
  unfolding answer edit_of
  edit-answer-is = ap (λ (x : Edited). x.answer) h.is ∙ as-answered s (E.edit (book_of s) e)

  -- the sheet that it leaves
  edit-left : HoldsBook (next (book_of s) (editing e)) a.sheet
  edit-left =
      stands (next (book_of s) (editing e)) a.sheet (next-sound (book_of s) (editing e) v.book)
      (link-next (book_of s) (sym v.arrays) refl (S.editing s e a.answer a.sheet h))

-- one after the other
module _ {s : Sheet} {e f : Edit} {a b : Edited} (v : Sound s) (p : Answered s e a) (q : Answered a.sheet f b) where
  second-answer : b.answer ≡ answered (answer (next (book_of s) (editing e)) (editing f))
  second-answer = rw (← (edit-left v p).book) (edit-answer-is (edit-left v p).sound q)

  second-left : b.sheet ≡ sheet_of (next (next (book_of s) (editing e)) (editing f))
  second-left = rw (← (edit-left v p).book) (edit-left (edit-left v p).sound q).sheet

-- the functions' own answers, whatever is asked for, from any sound sheet
pub edits-commute : {s : Sheet} {e f : Edit} {a b b₂ a₂ : Edited} → Sound s → independent (editing e) (editing f) ≡ true
    → Answered s e a → Answered a.sheet f b → Answered s f b₂ → Answered b₂.sheet e a₂ → EitherOrder a b b₂ a₂
edits-commute {s} {e} {f} v i p q q₂ p₂ =
    let w = commute (book_of s) (editing e) (editing f) i in
    record {
      first = second-answer v q₂ p₂ ∙ ap answered w.first ∙ sym (edit-answer-is v p);
      second = edit-answer-is v q₂ ∙ ap answered (sym w.second) ∙ sym (second-answer v p q);
      sheet = second-left v q₂ p₂ ∙ ap sheet_of (sym w.book) ∙ sym (second-left v p q);
    }

-- ---- two lists in a run, from any sheet file and any worklist that is not refused

module _ (o : Source) (s : Sheet) (e : ReadAnswered (says o) (Ok s)) (cs zs : List Call) where
  pub run-interleaved : {xs ys ws : List Call} {rs : List Reply} {u : Sheet} (h : Interleaving xs ys ws) → all_independent xs ys ≡ true
      → Chain s (cs ++ (ws ++ zs)) rs u → Interleaved o h cs zs rs u
  run-interleaved h i g =
      let w = run_holds o s e g in
      record {
        book = w.book;
        said = w.said;
        sheet = w.sheet ∙ ap sheet_of ((interleaves w.book).book h i cs zs);
        replies = w.replies ∙ ap (map answer_numbers) ((interleaves w.book).replies h i cs zs);
      }

  -- in whatever way they are interleaved, the sheet at the end is the same
  pub any-interleaving : {xs ys ws vs : List Call} {rs ps : List Reply} {u w : Sheet} → Interleaving xs ys ws → Interleaving xs ys vs
      → all_independent xs ys ≡ true → Chain s (cs ++ (ws ++ zs)) rs u → Chain s (cs ++ (vs ++ zs)) ps w → w ≡ u
  any-interleaving {xs} {ys} h l i g f =
      let a = run-interleaved h i g in
      let b = run-interleaved l i f in
      let same : b.book ≡ a.book = cc in
      b.sheet ∙ ap (λ (k : Book). sheet_of (book_after k (cs ++ (xs ++ ys ++ zs)))) same ∙ sym a.sheet

  -- two neighbours
  pub run-neighbours : {c d : Call} {rs ps : List Reply} {u w : Sheet} → independent c d ≡ true → Chain s (cs ++ (c ∷ d ∷ zs)) rs u
      → Chain s (cs ++ (d ∷ c ∷ zs)) ps w → Neighbours o c d cs zs rs u ps w
  run-neighbours {c} {d} h g f =
      let i = ones-independent c d h in
      record {
        one = run-interleaved (in_order c d) i g;
        other = run-interleaved (other-order c d) i f;
        sheet = any-interleaving (in_order c d) (other-order c d) i g f;
      }
