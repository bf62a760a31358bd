-- The records of the first batches, as the code's, and the list that has them at its front.
use Rattle.std.proofs.Common.{ℕ, ◌≡◌, ◌≢◌, ◌+◌, ◌≤◌, ◌<◌, List, [], ◌∷◌, ◌++◌, map, length, get_or, add-one, ap, ◌∙◌}
use Rattle.std.proofs.Common.{append_assoc, drop-cons, length-append}
use Rattle.std.proofs.Math.ListN.{set}
use Rattle.std.proofs.Math.Seq.{set-append_seam}
use Rattle.std.proofs.lemmas.List.{map-append, length-map}
use Rattle.rules.specs.Lent.{at_front}
use Rattle.rules.specs.Instance.{Assignment}
use Rattle.rules.specs.Moves.{records}
use Rattle.theory.proofs.Records.{records-same, records-other, records-few}
use Rattle.moves.specs.declared.Change.{Change}
use Rattle.moves.specs.declared.Move.{Move}
use Rattle.moves.specs.Filled.{move_as, records_to}

-- one more batch: no record where it keeps its place, and one where it does not
pub records-same_more : (j : ℕ) (x y : Assignment) → get_or x j 0 ≡ get_or y j 0 → records (j + 1) x y ≡ records j x y
records-same_more j x y e = rw add-one (records-same j x y e)

pub records-other_more : (j : ℕ) (x y : Assignment) → get_or x j 0 ≢ get_or y j 0
    → records (j + 1) x y ≡ records j x y ++ (record { batch = j + 1; from = get_or x j 0; to = get_or y j 0 } ∷ [])
records-other_more j x y ne = rw add-one (records-other j x y ne)

module _ (c : Change) where
  -- a batch that keeps its place has no record
  pub same : (j : ℕ) → get_or c.old j 0 ≡ get_or c.new j 0 → records_to c (j + 1) ≡ records_to c j
  same j e = ap (map move_as) (records-same_more j c.old c.new e)

  -- one at another place has one
  pub other : (j : ℕ) → get_or c.old j 0 ≢ get_or c.new j 0
      → records_to c (j + 1) ≡ records_to c j ++ (record { batch = j + 1; from = get_or c.old j 0; to = get_or c.new j 0 } ∷ [])
  other j ne = ap (map move_as) (records-other_more j c.old c.new ne) ∙ map-append move_as (records j c.old c.new) _

  -- no more records than batches
  pub few : (j : ℕ) → length (records_to c j) ≤ j
  few j = rw (length-map (records j c.old c.new) move_as) (records-few j c.old c.new)

-- a record that is stored after those at the front
pub stored : (xs ys : List Move) (m : Move) → length xs < length ys → set (at_front xs ys) (length xs) m ≡ at_front (xs ++ (m ∷ [])) ys
stored xs ys m h = rw (length-append, add-one, append_assoc, drop-cons ys (length xs) m h, set-append_seam)
