-- Three fields, and behind them the list.
use Rattle.std.proofs.Common.{ℕ, ◌+◌, ◌*◌, List, [], ◌∷◌, length, refl, ◌∙◌, arith}
use Rattle.rules.specs.Render.{fields, line}
use Rattle.theory.proofs.Fields.{fields-length, line-length}
use Rattle.text.proofs.Pasted.{wrote_one, wrote-more, wrote_as}
use Rattle.text.proofs.Numbers.{put_fields_same}
use Rattle.written.proofs.Lines.{batch-parts}
use Rattle.written.proofs.write.put_batch.Goals as goal

pub returns : goal.returns
returns c =
    let a = c.args in
    let l = a.list.now in
    let m = length l in
    let p : List ℕ = a.minutes ∷ a.place ∷ a.started ∷ [] in
    let three = rw (c.from.ensures, c.from-2.ensures) at (put_fields_same c.put_fields.ensures) in
    let x = wrote_one a.out.now a.at (fields p) 18 (fields-length p) (omega arith) three in
    (wrote_as
    (wrote-more (line (m ∷ l)) (a.at + 18) (6 * (m + 1) + 1) (6 * m + 25) x refl (omega arith) (line-length (m ∷ l) ∙ omega arith) (omega arith)
    c.put_list.ensures)
    (batch-parts a.minutes a.place a.started l c.requires.1)).text
