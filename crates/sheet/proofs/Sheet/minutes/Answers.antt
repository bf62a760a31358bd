-- A sound sheet's minutes are its book's.
use Rattle.sheet.proofs.SoundViews.{view-minutes}
use Rattle.sheet.proofs.Sheet.minutes.Goals as goal

pub returns : goal.returns
returns c = view-minutes c.args.self c.requires
