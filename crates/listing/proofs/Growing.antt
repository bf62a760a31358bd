-- The law of a loop's next turn: one more line.
use Rattle.std.proofs.Common.{ℕ, ◌≡◌, ◌+◌, ◌*◌, ◌≤◌, List, [], ◌∷◌, ◌++◌, length, get_or, add-one, arith}
use Rattle.std.proofs.Math.Seq.{paste}
use Rattle.rules.specs.Render.{line}
use Rattle.listing.specs.Rows.{rows_to}
use Rattle.text.proofs.Pasted.{Wrote, wrote-more, wrote_as}
use Rattle.theory.proofs.Fields.{line-length}

rows_snoc : (minutes places : List ℕ) (b : ℕ)
    → rows_to minutes places b ++ line ((b + 1) ∷ get_or places b 0 ∷ get_or minutes b 0 ∷ []) ≡ rows_to minutes places (b + 1)
unfolding rows_to
rows_snoc minutes places b = rw add-one

-- the next batch's line
pub rows_more : {d e f : List ℕ} {p : ℕ} (minutes places : List ℕ) (b : ℕ)
    → Wrote d p (rows_to minutes places b) (19 * b) e → p + 19 * (b + 1) ≤ length d
    → f ≡ paste e (p + 19 * b) (line ((b + 1) ∷ get_or places b 0 ∷ get_or minutes b 0 ∷ [])) 19
    → Wrote d p (rows_to minutes places (b + 1)) (19 * (b + 1)) f
rows_more {d} {e} {f} {p} minutes places b w r g =
    let row : List ℕ = (b + 1) ∷ get_or places b 0 ∷ get_or minutes b 0 ∷ [] in
    wrote_as
    (wrote-more (line row) (p + 19 * b) 19 (19 * (b + 1)) w (omega arith) (omega arith) (line-length row) (omega arith) g)
    (rows_snoc minutes places b)
