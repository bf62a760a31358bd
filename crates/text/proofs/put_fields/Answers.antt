use Rattle.std.proofs.Common.{[], ◌∷◌, ◌++◌, arith}
use Rattle.rules.specs.Render.{fields}
use Rattle.text.proofs.Pasted.{wrote_none}
use Rattle.text.proofs.Numbers.{fields_more, each_more}
use Rattle.text.proofs.put_fields.Goals as goal

pub loop-i-init : goal.loop-i-init
unfolding fields
loop-i-init g c = ([], tt, wrote_none c.args.out.now c.args.at (omega arith))

pub loop-i-preserved : goal.loop-i-preserved
loop-i-preserved g c =
    let h = c.loop-i.invariant in
    let i = c.loop-i.i in
    let x = c.into.result in (
      h.0 ++ (x ∷ []),
      each_more g.T.Into.converts c.args.numbers.now h.0 i _ x (omega arith) c.index-numbers-i.is h.1 c.into.ensures,
      fields_more i h.0 x h.2 (omega arith) c.put_columns.ensures,
    )
