-- Row by row: it stands there, and the sheet refuses it or has it.
use mathlib.Core.Path.{sym}
use native.Mathlib.Omega.{arith}
use borrow.Author.Tests.{eqb-true}
use Rattle.worklist.proofs.Passing.{not-empty}
use Rattle.worklist.proofs.Entering.{entering-start, row-there, roomy, shorter, row-refused, row-entered, entered}
use Rattle.worklist.proofs.take.enter.Goals as goal

pub loop-rest-init : goal.loop-rest-init
loop-rest-init c = entering-start c.args.s.now c.args.sheet c.requires.sound c.requires.empty c.requires.rows

pub unwrap-requires : goal.unwrap-requires
unwrap-requires c = row-there c.loop-rest.invariant (not-empty _ c.loop-rest-test.ensures) c.row_at.result c.row_at.ensures

pub with_row-requires-clause-fact_2 : goal.with_row-requires-clause-fact_2
with_row-requires-clause-fact_2 c =
    roomy c.loop-rest.invariant (not-empty _ c.loop-rest-test.ensures)

pub returns-in-Err : goal.returns-in-Err
returns-in-Err c =
    let read = rw c.unwrap.ensures at c.row_at.ensures in
    row-refused c.loop-rest.invariant (not-empty _ c.loop-rest-test.ensures) _ _ read _ c.in-Err.refusal c.in-Err.ensures

pub loop-rest-smaller : goal.loop-rest-smaller
loop-rest-smaller c =
    let read = rw c.unwrap.ensures at c.row_at.ensures in
    omega (arith, shorter c.loop-rest.invariant (not-empty _ c.loop-rest-test.ensures) _ _ read)

pub loop-rest-preserved : goal.loop-rest-preserved
loop-rest-preserved c =
    let read = rw c.unwrap.ensures at c.row_at.ensures in
    row-entered c.loop-rest.invariant (not-empty _ c.loop-rest-test.ensures) _ _ read _ c.in_default.field-0 c.in_default.ensures

pub returns : goal.returns
returns c = entered c.loop-rest.invariant (eqb-true _ 0 (sym c.loop-rest-test.ensures))
