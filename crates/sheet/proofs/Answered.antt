-- An answer that is the rules' is so in the documents' numbers.
use Prim.Native.Nat.{ℕ}
use mathlib.Core.Path.{◌≡◌, refl, ap, ◌∙◌}
use mathlib.Core.List.{[], ◌∷◌}
use Rattle.rules.specs.Edit as E
use Rattle.rules.specs.Read as D
use Rattle.rules.specs.Sheet.{Book}
use Rattle.rules.specs.Run.{editing, answer, next, answer_numbers, edit_answer, edit_book}
use Rattle.sheet.specs.declared.Sheet.{Sheet}
use Rattle.std.specs.Prelude.{Result}
use Rattle.sheet.specs.declared.Fault.{Fault}
use Rattle.sheet.specs.declared.Refusal.{Refusal}
use Rattle.sheet.specs.Represent.{sheet_of, book_of}
use Rattle.sheet.specs.Answers.{coded-number, Edited, left, edited_as, edit_of, edit_numbers, EditAnswered, read_as, read_numbers, ReadAnswered}

numbered : (s : Sheet) (o : E.Edited) → edit_numbers (edited_as s o).answer ≡ answer_numbers (edit_answer o)
numbered s (E.refused e) = ap (λ (x : ℕ). x ∷ []) (coded-number e)
numbered s (E.edited k) = refl

pub edit-answered : {s : Sheet} {e : E.Edit} {r : Result Unit Refusal} {t : Sheet} → left r t ≡ edit_of s e → EditAnswered s e r t
unfolding edit_of answer
edit-answered {s} {e} {r} {t} f =
    record { is = f; numbers = ap (λ (x : Edited). edit_numbers x.answer) f ∙ numbered s (E.edit (book_of s) e) }

-- the sheet after an edit, refused or not
edit-sheet : (k : Book) (s : Sheet) → s ≡ sheet_of k → (o : E.Edited) → (edited_as s o).sheet ≡ sheet_of (edit_book k o)
edit-sheet k s e (E.refused r) = e
edit-sheet k s e (E.edited j) = refl

pub edit-next : (k : Book) (s : Sheet) (e : E.Edit) → book_of s ≡ k → s ≡ sheet_of k → (edit_of s e).sheet ≡ sheet_of (next k (editing e))
unfolding edit_of next
edit-next k s e b q = rw b (edit-sheet k s q (E.edit k e))

as-numbers : (o : D.Reading) → read_numbers (read_as o) ≡ D.reading_numbers o
as-numbers (D.accepted k) = refl
as-numbers (D.refused_at e j) = ap (λ (x : ℕ). x ∷ j ∷ []) (coded-number e)

pub read-answered : {o : D.Reading} {r : Result Sheet Fault} → r ≡ read_as o → ReadAnswered o r
read-answered {o} f = record { is = f; numbers = rw f (as-numbers o) }
