-- Refused where the sheet is full; otherwise a row.
use native.Mathlib.Omega.{arith}
use mathlib.Core.Path.{◌∙◌}
use Rattle.sheet.proofs.Answered.{edit-answered}
use Rattle.sheet.proofs.Edits.{add-full, add_done}
use Rattle.sheet.proofs.SoundArrays.{book-size}
use Rattle.sheet.proofs.Sheet.add.Goals as goal

pub returns-then-self-ge-BATCHES : goal.returns-then-self-ge-BATCHES
returns-then-self-ge-BATCHES c =
    edit-answered (add-full c.args.self.now c.requires c.args.minutes c.args.list.now c.if-self-ge-BATCHES.true)

pub with_row-requires-clause-fact_2 : goal.with_row-requires-clause-fact_2
with_row-requires-clause-fact_2 c = omega (arith, c.if-self-ge-BATCHES.false, book-size c.args.self.now)

pub returns : goal.returns
returns c =
    edit-answered (c.with_row.ensures
    ∙ add_done c.args.self.now c.requires c.args.minutes c.args.list.now c.if-self-ge-BATCHES.false)
