-- Refused, or the batch is taken out.
use native.Mathlib.Omega.{arith}
use Rattle.sheet.proofs.Answered.{edit-answered}
use Rattle.sheet.proofs.SoundArrays.{few-batches}
use Rattle.sheet.proofs.Edits.{is_free, withdraw-none, withdraw-done}
use Rattle.std.proofs.lemmas.Result.{err_from_is_err_and}
use Rattle.sheet.proofs.Sheet.withdraw.Goals as goal

pub waiting-requires : goal.waiting-requires
waiting-requires c = few-batches c.args.self.now c.requires

pub returns-in_err-at : goal.returns-in_err-at
returns-in_err-at c =
    let p = err_from_is_err_and c.from_residual.result c.from_residual.ensures.1 in
    rw (p.1, p.2) (edit-answered (withdraw-none c.args.self.now c.requires c.args.batch c.in_err-at.ensures))

pub remove-requires : goal.remove-requires
remove-requires c =
    let f = is_free c.args.self.now c.requires c.args.batch c.in_ok-at.ensures in
    (f.small, omega (arith, f.inside))

pub returns : goal.returns
returns c =
    edit-answered (withdraw-done c.args.self.now c.requires c.args.batch _
    (is_free c.args.self.now c.requires c.args.batch c.in_ok-at.ensures) c.remove.ensures)
