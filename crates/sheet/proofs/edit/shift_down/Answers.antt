use Rattle.sheet.proofs.Shift.{shifted}
use Rattle.sheet.proofs.edit.shift_down.Goals as goal

pub returns : goal.returns
returns g c =
    shifted c.args.none c.args.at c.args.by c.args.a.now c.requires.fits c.copy_within.new.self c.fill.new.self
    c.copy_within.ensures.after (c.fill.ensures.after c.requires.same)
