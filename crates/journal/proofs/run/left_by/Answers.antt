-- What is refused stays so, and otherwise all calls are made.
use Rattle.std.proofs.lemmas.Result.{err_from_is_err_and}
use Rattle.journal.proofs.Hosting.{refused-left, went-sound, went-left}
use Rattle.journal.proofs.run.left_by.Goals as goal

pub returns-in_err-sheet : goal.returns-in_err-sheet
returns-in_err-sheet c =
    let p = err_from_is_err_and c.from_residual.result c.from_residual.ensures.1 in
    rw (p.1, p.2) (refused-left c.args.sheet.now c.args.journal.now _ c.in_err-sheet.ensures)

pub make_all-requires : goal.make_all-requires
make_all-requires c = went-sound c.args.sheet.now c.args.journal.now c.in_ok-sheet.sheet c.in_ok-sheet.ensures

pub returns : goal.returns
returns c = went-left c.args.sheet.now c.args.journal.now c.in_ok-sheet.sheet c.in_ok-sheet.ensures _ c.make_all.ensures
