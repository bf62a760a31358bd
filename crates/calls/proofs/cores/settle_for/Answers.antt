-- The reply and the change, for a list that is too short and for one that is not.
use native.Mathlib.Omega.{arith}
use Rattle.planner.proofs.Drawing.{settle-keeps}
use Rattle.calls.proofs.Replies.{settle-short, settle-long}
use Rattle.calls.proofs.cores.settle_for.Goals as goal

pub returns-then-entries-n : goal.returns-then-entries-n
returns-then-entries-n c = settle-short _ c.requires _ (omega (arith, c.if-entries-n.true, c.batches-n.ensures))

pub places-requires-2 : goal.places-requires-2
places-requires-2 c = rw c.settle-planned.ensures (settle-keeps _ c.requires)

pub returns : goal.returns
returns c =
    settle-long _ c.requires _ _ _ _ c.batches-n.ensures c.places.ensures (omega (arith, c.if-entries-n.false)) _ c.count-found.ensures.0
    _ c.settle-planned.ensures c.places-2.ensures
