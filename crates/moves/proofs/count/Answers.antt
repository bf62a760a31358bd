use Rattle.std.proofs.Common.{length, length-append, ap, refl, arith}
use Rattle.rules.specs.Fold.{those_to}
use Rattle.rules.specs.Moves.{records}
use Rattle.moves.proofs.Filled.{records-same_more, records-other_more}
use Rattle.moves.proofs.count.Goals as goal
use Rattle.moves.proofs.count.Goals.{then-c-j, else-c-j}

pub loop-j-init : goal.loop-j-init
unfolding records those_to
loop-j-init c = (refl, omega arith)

pub loop-j-preserved : goal.loop-j-preserved
loop-j-preserved c =
    let a = c.args.c in
    let j = c.loop-j.j in
    elim c.if-c-j.branch [
      | then-c-j w ↦ let e = simp length-append at (ap length (records-other_more j a.old a.new w.if-c-j.true)) in
          (omega (arith, w.k-is), omega (arith, w.k-is))
      | else-c-j w ↦ let e = ap length (records-same_more j a.old a.new w.if-c-j.false) in
          (omega (arith, w.k-is), omega (arith, w.k-is))
    ]
