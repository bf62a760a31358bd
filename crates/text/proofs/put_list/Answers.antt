-- A line behind a field.
use Rattle.std.proofs.Common.{[], ◌∷◌, ◌+◌, ◌*◌, length, append_assoc, refl, sym, arith}
use Rattle.rules.specs.Render.{columns, fields, line}
use Rattle.text.proofs.Pasted.{wrote_one, wrote-more, wrote_as}
use Rattle.text.proofs.Numbers.{put_line_same}
use Rattle.theory.proofs.Fields.{field-length, line-length}
use Rattle.text.proofs.put_list.Goals as goal

pub returns : goal.returns
unfolding fields
returns c =
    let a = c.args in
    let l = a.list.now in
    let n = length l in
    let w = wrote_one a.out.now a.at (columns 6 n) 6 (field-length n) (omega arith) c.put_columns.ensures in
    (wrote_as
    (wrote-more (line l) (a.at + 6) (6 * n + 1) (6 * (n + 1) + 1) w refl (omega arith) (line-length l) (omega arith)
    (put_line_same c.put_line.ensures))
    (sym (append_assoc (columns 6 n) (fields l) (10 ∷ [])))).text
