-- Each array of the sheet entered into a wider one, and then the calibrations.
use native.Mathlib.Omega.{arith}
use mathlib.Core.Path.{◌∙◌}
use Rattle.sheet.specs.Represent.{book_of}
use Rattle.sheet.proofs.SoundViews.{view-instruments, view-batches}
use Rattle.planner.proofs.Entering.{batches-laid, calibrations-shown}
use Rattle.planner.proofs.items.items_of.Goals as goal

pub with_calibrations-requires : goal.with_calibrations-requires
with_calibrations-requires c =
    let s = c.args.sheet in
    (omega (arith, c.batches.ensures, view-batches s c.requires), omega (arith, c.instruments.ensures, view-instruments s c.requires))

pub returns : goal.returns
returns c =
    let k = book_of c.args.sheet in
    c.with_calibrations.ensures k.batches
    (batches-laid k.batches (view-batches c.args.sheet c.requires) c.batches.ensures (c.copy_from_slice.ensures.after ∙ c.minutes-lengths.ensures)
    (c.copy_from_slice-2.ensures.after ∙ c.places-stands.ensures) (c.copy_from_slice-3.ensures.after ∙ c.eligibility-eligible.ensures))
    ∙ calibrations-shown k c.instruments.ensures c.calibrations.ensures
