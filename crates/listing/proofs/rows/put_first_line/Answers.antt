-- Five fields, the columns of the moves, and an end.
use Rattle.std.proofs.Common.{ℕ, List, [], ◌∷◌, refl, arith}
use Rattle.rules.specs.Render.{columns, fields}
use Rattle.text.proofs.Pasted.{wrote_one, wrote-more}
use Rattle.text.proofs.Numbers.{put_fields_same}
use Rattle.theory.proofs.Fields.{fields-length}
use Rattle.theory.proofs.Field.{columns-length}
use Rattle.listing.proofs.rows.put_first_line.Goals as goal

pub returns : goal.returns
returns c =
    let out = c.args.out.now in
    let b = c.args.p.now.balanced in
    let z = c.args.p.now.settled in
    let l : List ℕ = z.makespan ∷ b.bound ∷ b.level ∷ b.lifts ∷ b.pushes ∷ [] in
    let w = wrote_one out 0 (fields l) 30 (fields-length l) (omega arith) (put_fields_same c.put_fields.ensures) in
    let x = wrote-more (columns 12 z.moves) 30 12 42 w refl refl (columns-length 12 z.moves) (omega arith) c.put_columns.ensures in
    (wrote-more (10 ∷ []) 42 1 43 x refl refl refl (omega arith) c.put_end.ensures).text
