use Rattle.std.proofs.Common.{◌≡◌, ◌-◌, ◌+◌, arith}
use Rattle.scans.proofs.Reaching.{toward-start, toward-more, toward-end, toward-still}
use Rattle.scans.proofs.group.closure_of.Goals as goal

pub loop-init : goal.loop-init
loop-init c =
    let z : c.args.m - 0 ≡ c.args.m = omega arith in
    λ I lengths r. rw z (toward-start I _ _ c.with-g.result _ r.machines c.requires.4 c.with-g.ensures)

pub returns-then-wider-g : goal.returns-then-wider-g
returns-then-wider-g c =
    λ I lengths r.
    let t = c.loop.invariant I lengths r in
    let z = r.machines in
    let f = r.few in
    toward-still I _ _ _ c.loop.g t (omega arith)
    (rw c.if-wider-g.true at (c.reach_once-wider.ensures I lengths t.list r t.group t.says))

pub loop-preserved : goal.loop-preserved
loop-preserved c =
    λ I lengths r.
    let t = c.loop.invariant I lengths r in
    let z : c.args.m - (c.loop.counter + 1) ≡ c.args.m - c.loop.counter - 1 = omega arith in
    rw z (toward-more I _ _ _ c.loop.g t c.reach_once-wider.result (omega arith) (c.reach_once-wider.ensures I lengths t.list r t.group t.says))

pub returns : goal.returns
returns c =
    λ I lengths r. toward-end I _ _ _ c.loop.g (c.loop.invariant I lengths r) (omega arith)
