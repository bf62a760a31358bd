-- The book has the sheet's batches.
use mathlib.Core.Path.{sym}
use Rattle.sheet.proofs.SoundArrays.{book-size}
use Rattle.sheet.proofs.Sheet.batches.Goals as goal

pub returns : goal.returns
returns c = sym (book-size c.args.self)
