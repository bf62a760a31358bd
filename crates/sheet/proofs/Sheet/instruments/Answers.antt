-- The book has the sheet's instruments.
use mathlib.Core.Path.{sym}
use Rattle.sheet.proofs.SoundArrays.{book-m}
use Rattle.sheet.proofs.Sheet.instruments.Goals as goal

pub returns : goal.returns
returns c = sym (book-m c.args.self)
