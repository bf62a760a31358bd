-- A sound sheet's places are its book's.
use Rattle.sheet.proofs.SoundViews.{view_places}
use Rattle.sheet.proofs.Sheet.places.Goals as goal

pub returns : goal.returns
returns c = view_places c.args.self c.requires
