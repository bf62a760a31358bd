use native.Mathlib.Numerals.{add-one}
use Rattle.std.proofs.Common.{◌≡◌, arith}
use Rattle.scans.proofs.Reaching.{joined-none, joined-more, joined-reach}
use Rattle.scans.proofs.group.reach_once.Goals as goal

pub loop-b-init : goal.loop-b-init
loop-b-init c = joined-none _ _ _ _

pub loop-b-preserved : goal.loop-b-preserved
loop-b-preserved c =
    let b = c.loop-b.b in
    rw (add-one b) (joined-more _ _ _ _ b c.loop-b.x c.added-x.result c.loop-b.invariant c.added-x.ensures)

pub returns : goal.returns
returns c =
    let e : c.loop-b.b ≡ c.args.n = omega arith in
    λ I lengths list r q s. joined-reach r c.args.places.now list c.args.g q s c.loop-b.x (rw e at c.loop-b.invariant)
