-- What the host gives, then the form of the file, then the number of its rows, then its rows.
use mathlib.Core.Path.{◌∙◌}
use Rattle.std.proofs.lemmas.Result.{err_from_is_err_and}
use Rattle.sheet.proofs.Answered.{read-answered}
use Rattle.worklist.proofs.Taking.{host-refused, sound, empty, from-there, form-refused, many-refused}
use Rattle.worklist.proofs.take.take.Goals as goal

pub returns-in_err-sheet : goal.returns-in_err-sheet
returns-in_err-sheet c =
    let p = err_from_is_err_and c.from_residual.result c.from_residual.ensures.1 in
    read-answered (rw (p.1, p.2) (host-refused c.args.m c.args.calibrations.now c.args.s.now _ c.in_err-sheet.ensures))

pub returns-in_err-count : goal.returns-in_err-count
returns-in_err-count c =
    let p = err_from_is_err_and c.from_residual-in_err-count.result c.from_residual-in_err-count.ensures.1 in
    read-answered (rw (p.1, p.2)
    (form-refused c.args.m c.args.calibrations.now c.args.s.now c.in_ok-sheet.sheet c.in_ok-sheet.ensures _ c.in_err-count.ensures))

pub returns-then-count-gt-BATCHES : goal.returns-then-count-gt-BATCHES
returns-then-count-gt-BATCHES c =
    read-answered (rw c.from.ensures (many-refused c.args.m c.args.calibrations.now c.args.s.now c.in_ok-sheet.sheet c.in_ok-sheet.ensures
    _ c.in_ok-count.ensures c.if-count-gt-BATCHES.true))

pub enter-requires-clause-sound : goal.enter-requires-clause-sound
enter-requires-clause-sound c = sound c.args.m c.args.calibrations.now c.args.s.now c.in_ok-sheet.sheet c.in_ok-sheet.ensures

pub enter-requires-clause-empty : goal.enter-requires-clause-empty
enter-requires-clause-empty c = empty c.args.m c.args.calibrations.now c.args.s.now c.in_ok-sheet.sheet c.in_ok-sheet.ensures

pub returns : goal.returns
returns c =
    read-answered (c.enter.ensures ∙ from-there c.args.m c.args.calibrations.now c.args.s.now c.in_ok-sheet.sheet c.in_ok-sheet.ensures)
