use Rattle.journal.proofs.Recording.{noted-none, noted-same, noted-other}
use Rattle.journal.proofs.call.add_moves.Goals as goal
use Rattle.journal.proofs.call.add_moves.Goals.{then-old-new, else-old-new}

pub loop-b-init : goal.loop-b-init
loop-b-init c = noted-none c.args.c c.args.answer.now c.requires.2

pub loop-b-preserved : goal.loop-b-preserved
loop-b-preserved c =
    let w = c.loop-b.invariant in
    let o = c.from-old.ensures in
    let n = c.from-new.ensures in
    elim c.if-old-new.branch [
      | then-old-new x ↦ rw x.answer-is (noted-other c.args.c w c.loop-b-test.true (rw (o, n) at x.if-old-new.true) _ (rw (o, n) at x.extend.ensures))
      | else-old-new x ↦ rw x.answer-is (noted-same c.args.c w c.loop-b-test.true (rw (o, n) at x.if-old-new.false))
    ]
