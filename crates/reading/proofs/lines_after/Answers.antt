-- Line 2, and the batch lines where it is not refused.
use mathlib.Core.Path.{◌≡◌, ◌∙◌}
use borrow.Author.Rules.{rules}
use Rattle.std.specs.Prelude.{Err}
use Rattle.rules.specs.Read.{lines_after}
use Rattle.reading.proofs.PartsRead.{calibrations-given, calibrations-refused}
use Rattle.reading.proofs.lines_after.Goals as goal

pub returns-in_err-c : goal.returns-in_err-c
returns-in_err-c c =
    let e : c.from_residual.result ≡ Err c.in_err-c.field-0.0 = search rules in
    e ∙ calibrations-refused c.args.s.now c.args.at c.args.m c.args.n c.in_err-c.ensures

pub batch_lines-requires : goal.batch_lines-requires
batch_lines-requires c =
    let g = calibrations-given c.args.s.now c.args.at c.args.m c.requires.0 c.requires.1 c.in_ok-c.ensures in
    (g.room, c.requires.1, c.requires.2, g.row)

pub returns : goal.returns
unfolding lines_after
returns c =
    let g = calibrations-given c.args.s.now c.args.at c.args.m c.requires.0 c.requires.1 c.in_ok-c.ensures in rw g.part c.batch_lines.ensures
