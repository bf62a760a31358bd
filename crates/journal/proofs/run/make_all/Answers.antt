use mathlib.Core.Path.{◌∙◌}
use Rattle.journal.proofs.Going.{going_start, going_on, end-sheet}
use Rattle.journal.proofs.run.make_all.Goals as goal

pub loop-line-init : goal.loop-line-init
loop-line-init c = going_start c.args.sheet c.requires.0 c.args.journal.now c.requires.1

pub loop-line-preserved : goal.loop-line-preserved
loop-line-preserved c = going_on c.loop-line.invariant c.in-Some.ensures

pub returns : goal.returns
returns c = let e = c.in_default.ensures in e.0 ∙ end-sheet c.loop-line.invariant e.1 e.2
