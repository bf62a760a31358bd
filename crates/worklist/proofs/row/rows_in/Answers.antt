-- By whether a row is left, and whether it is of the form.
use Prim.Native.Nat.{◌+◌}
use mathlib.Core.Path.{◌≡◌, ap, sym}
use native.Mathlib.Omega.{arith}
use borrow.Author.Tests.{eqb-true}
use Rattle.std.proofs.lemmas.Result.{err_from_is_err_and}
use Rattle.worklist.specs.Read.{rows_as}
use Rattle.worklist.proofs.Passing.{empty-file, none_yet, then-faulty, then-good, shorter, not-empty}
use Rattle.worklist.proofs.row.rows_in.Goals as goal

pub returns-then-is_empty : goal.returns-then-is_empty
returns-then-is_empty c = sym (ap rows_as (empty-file c.args.s.now (eqb-true _ 0 (sym c.if-is_empty.ensures))))

pub loop-rest-init : goal.loop-rest-init
loop-rest-init c = none_yet c.args.s.now (not-empty _ c.if-is_empty.ensures)

pub returns-in_err-after : goal.returns-in_err-after
returns-in_err-after c =
    let p = err_from_is_err_and c.from_residual.result c.from_residual.ensures.1 in
    let none = c.in_err-after.ensures.ok_part in
    let q = rw none at c.in_err-after.ensures.value in
    let row : c.in_err-after.field-0.0 ≡ record { row = c.loop-rest.count + 1 } = cc in
    rw (p.1, p.2, row)
    (then-faulty c.args.s.now c.loop-rest.count c.loop-rest.rest.now c.loop-rest.invariant (not-empty _ c.loop-rest-test.ensures)
    (rw none at c.row_at.ensures))

pub loop-rest-smaller : goal.loop-rest-smaller
loop-rest-smaller c =
    let read = rw c.in_ok-after.ensures.ok_part at c.row_at.ensures in
    omega (
      arith,
      shorter c.args.s.now c.loop-rest.count c.loop-rest.rest.now c.loop-rest.invariant (not-empty _ c.loop-rest-test.ensures) _ _ read,
    )

pub loop-rest-preserved : goal.loop-rest-preserved
loop-rest-preserved c =
    let read = rw c.in_ok-after.ensures.ok_part at c.row_at.ensures in
    then-good c.args.s.now c.loop-rest.count c.loop-rest.rest.now c.loop-rest.invariant (not-empty _ c.loop-rest-test.ensures) _ _ read
