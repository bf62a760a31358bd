-- Balance over the sheet's arrays is the rules'.
use mathlib.Core.Path.{◌∙◌}
use native.Mathlib.Omega.{arith}
use Rattle.sheet.specs.Represent.{book_of}
use Rattle.sheet.proofs.SoundViews.{view-batches}
use Rattle.planner.proofs.Drawing.{drawn-permitted, front-entered, balance-shown}
use Rattle.planner.proofs.calls.balance.Goals as goal

pub draw-d-requires-clause-standing : goal.draw-d-requires-clause-standing
draw-d-requires-clause-standing c = let l = c.lay-a.ensures.each _ c.jobs.ensures in (_, l.stands, l.marked)

pub front-requires : goal.front-requires
front-requires c =
    omega (arith, c.batches.ensures, view-batches c.args.sheet c.requires)

pub returns : goal.returns
returns c =
    let k = book_of c.args.sheet in
    let l = c.lay-a.ensures.each _ c.jobs.ensures in
    let e = c.draw-d.ensures _ l.stands l.marked in
    balance-shown k c.draw-d.result _ l.shown e
    (c.with_places.ensures.0
    ∙ front-entered k _ _ c.draw-d.result.places _ (drawn-permitted l.stands e) l.stands.reads.jobs c.batches.ensures c.front.ensures)
