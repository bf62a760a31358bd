-- A line in its turn, and then the end.
use Prim.Native.Nat.{◌+◌}
use mathlib.Core.Path.{◌≡◌, ap, ◌∙◌}
use native.Mathlib.Omega.{arith}
use lib.ListN.{take}
use borrow.Author.Rules.{rules}
use Rattle.std.specs.Prelude.{Err}
use Rattle.reading.proofs.PartsRead.{line-given}
use Rattle.reading.proofs.BatchesRead.{size-is, none_yet, one_more, then-refused, left_over, all_read}
use Rattle.reading.proofs.batch_lines.Goals as goal

pub loop-i-init : goal.loop-i-init
loop-i-init c = rw c.empty-sheet.ensures (none_yet _ _ _ _ (take c.args.m c.args.calibrations) _ c.requires.0 c.requires.3)

pub returns-in_err-b : goal.returns-in_err-b
returns-in_err-b c =
    let e : c.from_residual.result ≡ Err c.in_err-b.field-0.0 = search rules in
    e ∙ then-refused _ _ _ _ _ _ _ _ c.loop-i.invariant c.loop-i-test.true c.in_err-b.ensures

pub append-requires : goal.append-requires
append-requires c = omega (arith, size-is _ _ _ _ _ _ _ _ c.loop-i.invariant, c.loop-i-test.true, c.requires.2)

pub loop-i-preserved : goal.loop-i-preserved
loop-i-preserved c =
    rw c.append.ensures
    (one_more _ _ _ _ _ _ _ _ c.loop-i.invariant _ c.loop-i.invariant.room
    (line-given c.args.s.now c.loop-i.next _ c.args.m (c.loop-i.i + 3) c.requires.1 c.in_ok-b.ensures) c.loop-i-test.true c.requires.2)

pub returns-then-next-s : goal.returns-then-next-s
returns-then-next-s c = ap Err c.refused.ensures ∙ left_over _ _ _ _ _ _ _ _ c.loop-i.invariant (omega arith) c.if-next-s.true

pub returns : goal.returns
returns c = all_read _ _ _ _ _ _ _ _ c.loop-i.invariant (omega arith) c.if-next-s.false
