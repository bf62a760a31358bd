-- The sheet is refused, or the list is too short, or the buffer is, or all is done.
use Rattle.std.proofs.lemmas.Result.{err_from_is_err_and}
use Rattle.rules.specs.Run.{balancing}
use Rattle.sheet.proofs.Accepted.{is-accepted, is-refused}
use Rattle.filing.proofs.Cases.{not-read, left_alone}
use Rattle.filing.proofs.Replies.{balance-sound, balance-short, balance-refused, balance-unwritten, balance-done, balance-nothing}
use Rattle.filing.proofs.balance_file.Goals as goal

pub returns-in_err-sheet : goal.returns-in_err-sheet
returns-in_err-sheet c =
    let p = err_from_is_err_and c.from_residual.result c.from_residual.ensures.1 in
    let f = is-refused _ _ c.in_err-sheet.ensures.is in
    let h = not-read c.args.sheet.now (balancing c.args.entries) c.args.out.now f.refusal _ f.said f.coded in
    rw (p.1, p.2) (balance-nothing c.args.sheet.now c.args.entries c.args.out.now _ c.args.out.now h (left_alone h))

pub balance_for-requires : goal.balance_for-requires
balance_for-requires c = (is-accepted _ _ c.in_ok-sheet.ensures.is).sound

pub returns-in_err-planning : goal.returns-in_err-planning
returns-in_err-planning c =
    let p = err_from_is_err_and c.from_residual-in_err-planning.result c.from_residual-in_err-planning.ensures.1 in
    let k = is-accepted _ _ c.in_ok-sheet.ensures.is in
    let s = balance-short _ c.args.entries _ c.in_err-planning.ensures in
    rw (p.1, p.2) (balance-refused c.args.sheet.now c.args.entries c.args.out.now _ k.book _ s)

pub write-requires : goal.write-requires
write-requires c =
    let k = is-accepted _ _ c.in_ok-sheet.ensures.is in
    balance-sound _ k.sound c.args.entries _ c.in_ok-planning.ensures

pub returns-in_err-length : goal.returns-in_err-length
returns-in_err-length c =
    let p = err_from_is_err_and c.from_residual-in_err-length.result c.from_residual-in_err-length.ensures.1 in
    let k = is-accepted _ _ c.in_ok-sheet.ensures.is in
    rw (p.1, p.2)
    (balance-unwritten _ k.sound c.args.entries _ c.in_ok-planning.ensures c.args.sheet.now c.args.out.now k.book _ _ c.in_err-length.ensures)

pub returns : goal.returns
returns c =
    let k = is-accepted _ _ c.in_ok-sheet.ensures.is in
    balance-done _ k.sound c.args.entries _ c.in_ok-planning.ensures c.args.sheet.now c.args.out.now k.book _ _ c.in_ok-length.ensures
