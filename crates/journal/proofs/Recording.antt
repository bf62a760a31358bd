-- Records entered among an answer's numbers.
use Prim.Native.Nat.{ℕ, suc, ◌+◌, ◌*◌, ◌≤◌, ◌<◌}
use mathlib.Core.Path.{◌≡◌, refl, sym, ap, ◌∙◌}
use mathlib.Core.Logic.{◌≢◌}
use mathlib.Core.List.{List, [], ◌∷◌, ◌++◌, append_assoc, append-nil}
use native.Mathlib.Numerals.{add-one}
use native.Mathlib.Omega.{arith}
use lib.ListN.{length, get_or, length-append}
use Rattle.rules.specs.Fold.{those_to}
use Rattle.rules.specs.Moves.{Move, records, move_numbers, move_of}
use Rattle.theory.proofs.Records.{records-same, records-other}
use Rattle.moves.specs.declared.Change.{Change}
use Rattle.journal.specs.declared.answer.Answer.{Answer}
use Rattle.journal.specs.Answering.{answer_with, said, Whole, Extends}
use Rattle.journal.proofs.Extending.{extended, fits}

-- ---- as numbers

pub numbers-append : (l : List Move) (v : Move) → move_numbers (l ++ (v ∷ [])) ≡ move_numbers l ++ (v.batch ∷ v.from ∷ v.to ∷ [])
unfolding move_numbers
numbers-append [] v = refl
numbers-append (u ∷ l) v = ap (λ (d : List ℕ). u.batch ∷ u.from ∷ u.to ∷ d) (numbers-append l v)

pub numbers-length : (l : List Move) → length (move_numbers l) ≡ 3 * length l
unfolding move_numbers
numbers-length [] = refl
numbers-length (v ∷ l) = omega (arith, numbers-length l)

-- ---- the records of the first b batches

module _ (c : Change) where
  abbrev noted : ℕ → List ℕ
  noted b = move_numbers (records b c.old c.new)

  pub record NotedTo (first a : Answer) (b : ℕ) : Type 0 where
    pub after : a ≡ answer_with (said first ++ noted b) first.settle
    pub few : length (noted b) ≤ 3 * b

  pub noted-none : (a : Answer) → Whole a → NotedTo a a 0
  unfolding records those_to move_numbers
  noted-none a w = record { after = w ∙ ap (λ (l : List ℕ). answer_with l a.settle) (sym (append-nil (said a))); few = omega arith }

  module _ {first a : Answer} {b : ℕ} (w : NotedTo first a b) (h : b < c.n) where
    -- there is room for a record
    pub noted-room : Whole first → first.size + 3 * c.n ≤ 632 → (a.size + 3 ≤ 632) × Whole a
    noted-room v r =
        fits (said first ++ noted b) first.settle a 3 w.after
        (omega (arith, w.few, ap (λ (x : Answer). x.size) v, length-append (said first) (noted b)))

    -- a batch that has not moved
    pub noted-same : get_or c.old b 0 ≡ get_or c.new b 0 → NotedTo first a (b + 1)
    noted-same e =
        let l : noted (b + 1) ≡ noted b = ap noted (add-one b) ∙ ap move_numbers (records-same b c.old c.new e) in
        record { after = rw l w.after; few = rw l (omega (arith, w.few)) }

    -- one that has
    pub noted-other : get_or c.old b 0 ≢ get_or c.new b 0 → (next : Answer)
        → Extends (λ x v. v ≡ x) ((b + 1) ∷ get_or c.old b 0 ∷ get_or c.new b 0 ∷ []) a next → NotedTo first next (b + 1)
    noted-other ne next x =
        let t = (b + 1) ∷ get_or c.old b 0 ∷ get_or c.new b 0 ∷ [] in
        let l : noted (b + 1) ≡ noted b ++ t =
        ap noted (add-one b)
        ∙ ap move_numbers (records-other b c.old c.new ne)
        ∙ numbers-append (records b c.old c.new) (move_of c.old c.new (suc b))
        ∙ ap (λ (i : ℕ). noted b ++ (i ∷ get_or c.old b 0 ∷ get_or c.new b 0 ∷ [])) (sym (add-one b)) in
        record {
          after =
              extended (said first ++ noted b) t first.settle a next w.after x
              ∙ ap (λ (y : List ℕ). answer_with y first.settle)
              (append_assoc (said first) (noted b) t ∙ ap (λ (y : List ℕ). said first ++ y) (sym l));
          few = omega (arith, w.few, ap length l, length-append (noted b) t);
        }
