-- A sound sheet's counts are those of its book's lists.
use Rattle.sheet.proofs.SoundViews.{view-counts}
use Rattle.sheet.proofs.Sheet.counts.Goals as goal

pub returns : goal.returns
returns c = view-counts c.args.self c.requires
