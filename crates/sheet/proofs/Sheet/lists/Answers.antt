-- A sound sheet's lists are its book's.
use Rattle.sheet.proofs.SoundViews.{view-rows}
use Rattle.sheet.proofs.Sheet.lists.Goals as goal

pub returns : goal.returns
returns c = view-rows c.args.self c.requires
