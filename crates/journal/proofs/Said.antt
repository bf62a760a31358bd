-- The call of an entry makes what the call of its line does: a list of more than 24 numbers is refused, and so are its first 25.
use Prim.Native.Nat.{ℕ, ◌<◌}
use mathlib.Core.Path.{◌≡◌, refl, ap, ◌∙◌}
use mathlib.Core.Bool.{true}
use mathlib.Core.List.{List}
use native.Mathlib.Omega.{arith}
use lib.ListN.{take}
use Rattle.rules.specs.Sheet.{Book, sound}
use Rattle.rules.specs.Edit.{Edit, Edited, add, withdraw, requalify, move, start, edit}
use Rattle.rules.specs.Run.{Call, editing, reviewing, trying, balancing, settling, answer, next, answer_numbers, edit_answer, edit_book}
use Rattle.theory.proofs.Format.{few}
use Rattle.theory.proofs.Worklist.{first-few}
use Rattle.theory.proofs.Sound.{sound-is}
use Rattle.sheet.specs.Represent.{sheet_of}
use Rattle.journal.specs.Entry.{call_of}
use Rattle.journal.specs.Answering.{call_said, answer_with, made_with, made_of, is_settle}
use Rattle.sheet.proofs.Firsts.{firsts-front}

-- ---- the first 25 of a list

module _ (k : Book) (v : sound k ≡ true) (l : List ℕ) where
  more : k.m < 25
  more = omega (arith, few k.m (sound-is k v).instruments)

  add-first : (t : ℕ) → edit k (add t (take 25 l)) ≡ edit k (add t l)
  unfolding edit
  add-first t = first-few k.m 25 l (λ d. edit k (add t d)) more (λ d p q. rw (p, q))

  requalify-first : (b : ℕ) → edit k (requalify b (take 25 l)) ≡ edit k (requalify b l)
  unfolding edit
  requalify-first b = first-few k.m 25 l (λ d. edit k (requalify b d)) more (λ d p q. rw (p, q))

-- ---- the same made

made-edits : (k : Book) (e f : Edit) → edit k e ≡ edit k f → made_of k (editing e) ≡ made_of k (editing f)
unfolding made_of answer next
made-edits k e f q =
    ap (λ (o : Edited). made_with (answer_with (answer_numbers (edit_answer o)) (is_settle (edit_answer o))) (sheet_of (edit_book k o))) q

pub made-said : (k : Book) → sound k ≡ true → (c : Call) → made_of k (call_said (call_of c)) ≡ made_of k c
unfolding call_said
made-said k v (editing (add t l)) =
    made-edits k _ (add t l) (ap (λ (d : List ℕ). edit k (add t d)) (firsts-front l) ∙ add-first k v l t)
made-said k v (editing (withdraw b)) = refl
made-said k v (editing (requalify b l)) =
    made-edits k _ (requalify b l) (ap (λ (d : List ℕ). edit k (requalify b d)) (firsts-front l) ∙ requalify-first k v l b)
made-said k v (editing (move b i)) = refl
made-said k v (editing (start b)) = refl
made-said k v reviewing = refl
made-said k v (trying a) = refl
made-said k v (balancing c) = refl
made-said k v (settling c) = refl
