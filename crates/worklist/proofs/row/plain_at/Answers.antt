-- What is read first, or else nothing where that may be.
use Rattle.worklist.proofs.Reading.{plain-is}
use Rattle.worklist.proofs.row.plain_at.Goals as goal

pub returns : goal.returns
returns c = rw (c.or.ensures, c.then_some.ensures) (plain-is c.args.empty c.args.s c.number_at.result c.number_at.ensures)
