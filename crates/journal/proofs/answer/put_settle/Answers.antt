-- Two fields, the columns of the moves, and the line of what is left.
use Prim.Native.Nat.{ℕ, ◌+◌, ◌-◌, ◌*◌}
use mathlib.Core.Path.{◌≡◌, refl, ap, ◌∙◌}
use native.Mathlib.Omega.{arith}
use lib.ListN.{length, get_or, take, drop, length-drop}
use lib.Seq.{length-take-le, take_all, paste}
use Rattle.rules.specs.Render.{columns, fields, line}
use Rattle.theory.proofs.Field.{columns-length}
use Rattle.text.proofs.Pasted.{wrote_one, wrote-more}
use Rattle.text.proofs.Numbers.{put_fields_same, put_line_same}
use Rattle.theory.proofs.Fields.{fields-length, line-length}
use Rattle.journal.proofs.Small.{small-all}
use Rattle.journal.proofs.answer.put_settle.Goals as goal

pub put_fields-requires-clause-six_columns : goal.put_fields-requires-clause-six_columns
put_fields-requires-clause-six_columns c = small-all (take 2 c.args.numbers.now) (c.requires.1.start refl)

pub put_line-requires-clause-six_columns : goal.put_line-requires-clause-six_columns
put_line-requires-clause-six_columns c =
    let l = c.args.numbers.now in
    let d : take (length l - 3) (drop 3 l) ≡ drop 3 l = take_all (length l - 3) (drop 3 l) (omega (arith, length-drop 3 l)) in
    rw d (small-all (drop 3 l) (c.requires.1.rest refl))

pub returns : goal.returns
returns c =
    let a = c.args in
    let h = c.requires.1.least refl in
    let l = a.numbers.now in
    let d : take (length l - 3) (drop 3 l) ≡ drop 3 l = take_all (length l - 3) (drop 3 l) (omega (arith, length-drop 3 l)) in
    let two : length (take 2 l) ≡ 2 = length-take-le 2 l (omega arith) in
    let n : 6 * length (drop 3 l) + 1 ≡ 6 * length l - 17 = omega (arith, length-drop 3 l) in
    let first : c.put_fields.new.out ≡ paste a.out.now a.at (fields (take 2 l)) (6 * length (take 2 l)) = put_fields_same c.put_fields.ensures in
    let last : c.put_line.new.out ≡ paste c.put_columns.new.out (a.at + 24) (line (drop 3 l)) (6 * length (drop 3 l) + 1) =
    put_line_same (rw d at c.put_line.ensures) in
    let w = wrote_one a.out.now a.at (fields (take 2 l)) 12 (fields-length (take 2 l) ∙ ap (λ (k : ℕ). 6 * k) two) (omega arith) (rw two at first) in
    let x = wrote-more (columns 12 (get_or l 2 0)) (a.at + 12) 12 24 w refl refl (columns-length 12 (get_or l 2 0))
    (omega arith) c.put_columns.ensures in
    (wrote-more (line (drop 3 l)) (a.at + 24) (6 * length l - 17) (6 * length l + 7) x refl (omega arith)
    (line-length (drop 3 l) ∙ n) (omega arith) (rw n at last)).text
