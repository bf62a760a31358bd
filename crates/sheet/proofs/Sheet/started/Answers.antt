-- A sound sheet's marks are its book's.
use Rattle.sheet.proofs.SoundViews.{view-started}
use Rattle.sheet.proofs.Sheet.started.Goals as goal

pub returns : goal.returns
returns c = view-started c.args.self c.requires
