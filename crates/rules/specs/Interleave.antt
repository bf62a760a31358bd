-- Document 02, C-19: the calls that move, requalify or start a batch; when two of them are of different batches; and two lists of calls
-- as one.
use Rattle.std.specs.Prelude.{ℕ, Bool, true, false, not, List, [], ◌∷◌, ◌++◌, eqb}
use Rattle.rules.specs.Fold.{every}
use Rattle.rules.specs.Sheet.{Book}
use Rattle.rules.specs.Edit.{add, withdraw, requalify, move, start}
use Rattle.rules.specs.Run.{Call, editing, reviewing, trying, balancing, settling, Answer, book_after, answers}

-- the number of the batch that a call moves, requalifies or starts, whether there is such a batch or not; no other call has one
pub data Subject : Type 0 where
  one : ℕ → Subject
  none : Subject

abbrev pub subject : Call → Subject
subject (editing (requalify b l)) = one b
subject (editing (move b i)) = one b
subject (editing (start b)) = one b
-- adding and withdrawing renumber
subject (editing (add t l)) = none
subject (editing (withdraw b)) = none
subject reviewing = none
subject (trying a) = none
subject (balancing c) = none
subject (settling c) = none

abbrev pub different : Subject → Subject → Bool
different (one b) (one c) = not (eqb b c)
different (one b) none = false
different none s = false

-- each of two calls moves, requalifies or starts a batch, and their numbers differ
unfoldable pub independent : Call → Call → Bool
independent c d = different (subject c) (subject d)

-- and so each call of a list with each of another
unfoldable pub all_independent : List Call → List Call → Bool
all_independent xs ys = every (λ (c : Call). every (independent c) ys) xs

-- the third list is the other two as one, each in its own order
pub data Interleaving {X : Type 0} : List X → List X → List X → Type 0 where
  end : Interleaving [] [] []
  first : {x : X} {xs ys ws : List X} → Interleaving xs ys ws → Interleaving (x ∷ xs) ys (x ∷ ws)
  second : {y : X} {xs ys ws : List X} → Interleaving xs ys ws → Interleaving xs (y ∷ ys) (y ∷ ws)

-- whose turn it is, entry for entry: true for the first list
unfoldable pub turns : {X : Type 0} {xs ys ws : List X} → Interleaving xs ys ws → List Bool
turns end = []
turns (first h) = true ∷ turns h
turns (second h) = false ∷ turns h

-- Two lists by turns. Where the list whose turn it is has no entry, or no turn is left, what remains follows, of the first and then of the
-- second.
unfoldable pub interleave : {X : Type 0} → List Bool → List X → List X → List X
interleave [] xs ys = xs ++ ys
interleave (true ∷ t) [] ys = ys
interleave (true ∷ t) (x ∷ xs) ys = x ∷ interleave t xs ys
interleave (false ∷ t) xs [] = xs
interleave (false ∷ t) xs (y ∷ ys) = y ∷ interleave t xs ys

-- The answers to cs, then by turns those to xs and ys, and then those to zs, from the book k on: xs and ys are each made after cs, without the
-- other, and zs after both.
abbrev pub answers_by_turns : Book → List Bool → List Call → List Call → List Call → List Call → List Answer
answers_by_turns k t cs xs ys zs =
    let j = book_after k cs in
    answers k cs ++ (interleave t (answers j xs) (answers j ys) ++ answers (book_after j (xs ++ ys)) zs)
