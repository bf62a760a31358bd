-- By whether a number is missing, and whether it is kept.
use native.Mathlib.Omega.{arith}
use Rattle.worklist.proofs.Listing.{no-first, one-read, then-missing, shorter, one-kept, one-passed}
use Rattle.worklist.proofs.row.numbers_at.Goals as goal

pub returns-in_err-m : goal.returns-in_err-m
returns-in_err-m c = rw c.from_residual.ensures (no-first c.args.s.now c.in_err-m.ensures)

pub loop-next-init : goal.loop-next-init
loop-next-init c = one-read c.args.s.now c.in_ok-m.m c.in_ok-m.rest.now c.in_ok-m.ensures

pub returns-in_err-value : goal.returns-in_err-value
returns-in_err-value c =
    rw c.from_residual-in_err-value.ensures
    (then-missing c.args.s.now c.loop-next.m c.loop-next.rest.now c.loop-next.invariant c.in-Some.next.now c.in-Some.ensures c.in_err-value.ensures)

pub loop-next-smaller-then-m-lt25 : goal.loop-next-smaller-then-m-lt25
loop-next-smaller-then-m-lt25 c =
    omega (
      arith,
      shorter c.args.s.now c.loop-next.m c.loop-next.rest.now c.loop-next.invariant c.in-Some.next.now c.in-Some.ensures _ _ c.in_ok-value.ensures,
    )

pub loop-next-preserved-then-m-lt25 : goal.loop-next-preserved-then-m-lt25
loop-next-preserved-then-m-lt25 c =
    one-kept c.args.s.now c.loop-next.m c.loop-next.rest.now c.loop-next.invariant c.in-Some.next.now c.in-Some.ensures _ _ c.in_ok-value.ensures
    c.if-m-lt25.true

pub loop-next-smaller : goal.loop-next-smaller
loop-next-smaller c =
    omega (
      arith,
      shorter c.args.s.now c.loop-next.m c.loop-next.rest.now c.loop-next.invariant c.in-Some.next.now c.in-Some.ensures _ _ c.in_ok-value.ensures,
    )

pub loop-next-preserved : goal.loop-next-preserved
loop-next-preserved c =
    one-passed c.args.s.now c.loop-next.m c.loop-next.rest.now c.loop-next.invariant c.in-Some.next.now c.in-Some.ensures _ _ c.in_ok-value.ensures
    c.if-m-lt25.false
