-- A line of numbers that fit six columns each.
use Prim.Native.Nat.{ℕ, ◌+◌, ◌*◌}
use mathlib.Core.Path.{ap, ◌∙◌}
use lib.Seq.{paste, length-take-le}
use Rattle.rules.specs.Render.{line}
use Rattle.text.proofs.Numbers.{put_line_same}
use Rattle.journal.specs.Answering.{said}
use Rattle.journal.proofs.Small.{small-all}
use Rattle.journal.proofs.answer.Answer.put.Goals as goal

pub put_line-requires-clause-six_columns : goal.put_line-requires-clause-six_columns
put_line-requires-clause-six_columns c = small-all (said c.args.self.now) (c.requires.1.fitting.plain c.if-self.false)

pub returns-else-self : goal.returns-else-self
returns-else-self c =
    let a = c.args.self.now in
    rw c.if-self.false
    (put_line_same c.put_line.ensures ∙ ap (λ (i : ℕ). paste c.args.out.now c.args.at (line (said a)) (6 * i + 1))
    (length-take-le a.size a.numbers c.requires.1.whole))
