-- A sound sheet's calibrations are its book's.
use Rattle.sheet.proofs.SoundViews.{view-calibrations}
use Rattle.sheet.proofs.Sheet.calibrations.Goals as goal

pub returns : goal.returns
returns c = view-calibrations c.args.self c.requires
