-- Each step leads on as the rules do, and at the end nothing acts.
use Rattle.trials.proofs.Running.{begun, trying, one_more, at-end, nearer}
use Rattle.trials.proofs.run.run.Goals as goal

pub loop-next-init : goal.loop-next-init
loop-next-init c = λ I a w. begun w _ c.first_waiting.ensures

pub loop-next-smaller : goal.loop-next-smaller
loop-next-smaller c =
    let (I, a, w) = c.requires.starts in
    let g = c.loop-next.invariant I a w in
    nearer g w.setup (c.in-Continue.ensures I a (trying g w.setup))

pub loop-next-preserved : goal.loop-next-preserved
loop-next-preserved c = λ I a w. let g = c.loop-next.invariant I a w in one_more g (c.in-Continue.ensures I a (trying g w.setup))

pub returns-in-Break : goal.returns-in-Break
returns-in-Break c = λ I a w. let g = c.loop-next.invariant I a w in at-end w g (c.in-Break.ensures I a (trying g w.setup))
