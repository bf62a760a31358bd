-- Settle over the sheet's arrays is the rules'.
use mathlib.Core.Path.{◌∙◌}
use native.Mathlib.Omega.{arith}
use Rattle.sheet.specs.Represent.{book_of}
use Rattle.sheet.proofs.SoundViews.{view-batches}
use Rattle.planner.proofs.Drawing.{rest-permitted, front-entered, settle-shown}
use Rattle.planner.proofs.calls.settle.Goals as goal

pub rest-z-requires : goal.rest-z-requires
rest-z-requires c = let l = c.lay-a.ensures.each _ c.jobs.ensures in (_, l.stands)

pub front-requires : goal.front-requires
front-requires c =
    omega (arith, c.batches.ensures, view-batches c.args.sheet c.requires)

pub returns : goal.returns
returns c =
    let k = book_of c.args.sheet in
    let l = c.lay-a.ensures.each _ c.jobs.ensures in
    let e = c.rest-z.ensures _ l.stands in
    settle-shown k c.rest-z.result _ l.shown e
    (c.with_places.ensures.0
    ∙ front-entered k _ _ c.rest-z.result.places _ (rest-permitted l.stands e) l.stands.reads.jobs c.batches.ensures c.front.ensures)
