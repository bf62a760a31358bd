-- Refused in the order of the rules, or the batch has its new list and place.
use native.Mathlib.Omega.{arith}
use Rattle.sheet.proofs.Answered.{edit-answered}
use Rattle.sheet.proofs.SoundArrays.{few-instruments, few-batches, good-long, row_fits}
use Rattle.sheet.proofs.Edits.{is-fit, is_free, requalify-none, requalify-unfit, requalify-done}
use Rattle.std.proofs.lemmas.Result.{err_from_is_err_and}
use Rattle.sheet.proofs.Sheet.requalify.Goals as goal

pub waiting-requires : goal.waiting-requires
waiting-requires c = few-batches c.args.self.now c.requires

pub returns-in_err-at : goal.returns-in_err-at
returns-in_err-at c =
    let p = err_from_is_err_and c.from_residual.result c.from_residual.ensures.1 in
    rw (p.1, p.2)
    (edit-answered (requalify-none c.args.self.now c.requires c.args.batch c.args.list.now c.in_err-at.ensures))

pub judged_row-requires : goal.judged_row-requires
judged_row-requires c = few-instruments c.args.self.now c.requires

pub returns-in_err-row : goal.returns-in_err-row
returns-in_err-row c =
    let p = err_from_is_err_and c.from_residual-in_err-row.result c.from_residual-in_err-row.ensures.1 in
    rw (p.1, p.2)
    (edit-answered (requalify-unfit c.args.self.now c.requires c.args.batch c.args.list.now
    (is_free c.args.self.now c.requires c.args.batch c.in_ok-at.ensures) c.in_err-row.ensures))

pub overflow_cast-list : goal.overflow_cast-list
overflow_cast-list c =
    let f = is-fit c.args.self.now.m c.args.list.now c.in_ok-row.ensures in
    omega (arith, (row_fits c.args.self.now.m c.args.list.now (few-instruments c.args.self.now c.requires) f.good).0)

pub enter_list-requires : goal.enter_list-requires
enter_list-requires c =
    let f = is-fit c.args.self.now.m c.args.list.now c.in_ok-row.ensures in (
      (is_free c.args.self.now c.requires c.args.batch c.in_ok-at.ensures).small,
      (good-long c.args.self.now.m c.args.list.now f.good).0,
      (row_fits c.args.self.now.m c.args.list.now (few-instruments c.args.self.now c.requires) f.good).0,
    )

pub returns : goal.returns
returns c =
    edit-answered (requalify-done c.args.self.now c.requires c.args.batch c.args.list.now _
    (is_free c.args.self.now c.requires c.args.batch c.in_ok-at.ensures)
    (is-fit c.args.self.now.m c.args.list.now c.in_ok-row.ensures) c.enter_list.ensures)
