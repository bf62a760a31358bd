-- From none.
use mathlib.Core.Path.{refl}
use mathlib.Core.List.{[]}
use Rattle.journal.proofs.Extending.{extended}
use Rattle.journal.proofs.answer.Answer.of.Goals as goal

pub returns : goal.returns
returns c = extended [] c.args.first.now c.args.settle _ _ refl c.extend.ensures
