-- Refused, or the batch is started.
use Rattle.sheet.proofs.Answered.{edit-answered}
use Rattle.sheet.proofs.SoundArrays.{few-batches}
use Rattle.sheet.proofs.Edits.{is_free, start_none, start-done}
use Rattle.std.proofs.lemmas.Result.{err_from_is_err_and}
use Rattle.sheet.proofs.Sheet.start.Goals as goal

pub waiting-requires : goal.waiting-requires
waiting-requires c = few-batches c.args.self.now c.requires

pub returns-in_err-at : goal.returns-in_err-at
returns-in_err-at c =
    let p = err_from_is_err_and c.from_residual.result c.from_residual.ensures.1 in
    rw (p.1, p.2) (edit-answered (start_none c.args.self.now c.requires c.args.batch c.in_err-at.ensures))

pub bounds-self-at : goal.bounds-self-at
bounds-self-at c = (is_free c.args.self.now c.requires c.args.batch c.in_ok-at.ensures).small

pub returns : goal.returns
returns c =
    edit-answered (start-done c.args.self.now c.requires c.args.batch (is_free c.args.self.now c.requires c.args.batch c.in_ok-at.ensures))
