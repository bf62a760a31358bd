-- Part by part: the three numbers, the list, and the row's end.
use Rattle.worklist.proofs.RowParts.{no-minutes, no-place, no-mark, no-list, no-end, row-read}
use Rattle.worklist.proofs.row.row_at.Goals as goal

pub returns-in_err-minutes : goal.returns-in_err-minutes
returns-in_err-minutes c = rw c.from_residual.ensures (no-minutes c.args.s.now c.in_err-minutes.ensures)

pub returns-in_err-place : goal.returns-in_err-place
returns-in_err-place c = rw c.from_residual-in_err-place.ensures (no-place c.args.s.now _ _ c.in_ok-minutes.ensures c.in_err-place.ensures)

pub returns-in_err-mark : goal.returns-in_err-mark
returns-in_err-mark c =
    rw c.from_residual-in_err-mark.ensures
    (no-mark c.args.s.now _ _ c.in_ok-minutes.ensures _ _ c.in_ok-place.ensures c.in_err-mark.ensures)

pub returns-in_err-count : goal.returns-in_err-count
returns-in_err-count c =
    rw c.from_residual-in_err-count.ensures
    (no-list c.args.s.now _ _ c.in_ok-minutes.ensures _ _ c.in_ok-place.ensures _ _ c.in_ok-mark.ensures c.in_err-count.ensures)

pub returns-in_err-end_at : goal.returns-in_err-end_at
returns-in_err-end_at c =
    rw c.from_residual-in_err-end_at.ensures
    (no-end c.args.s.now _ _ c.in_ok-minutes.ensures _ _ c.in_ok-place.ensures _ _ c.in_ok-mark.ensures _ _ c.in_ok-count.ensures
    c.in_err-end_at.ensures)

pub returns : goal.returns
returns c =
    row-read c.args.s.now _ _ c.in_ok-minutes.ensures _ _ c.in_ok-place.ensures _ _ c.in_ok-mark.ensures _ _ c.in_ok-count.ensures
    _ c.in_ok-end_at.ensures
