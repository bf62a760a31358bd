-- The sheet's fault, the journal's, or neither.
use mathlib.Core.Path.{sym}
use Rattle.std.proofs.lemmas.Result.{err_from_is_err_and}
use Rattle.sheet.proofs.Accepted.{is-accepted}
use Rattle.journal.specs.Running.{book_before, judged_of}
use Rattle.journal.proofs.Hosting.{left-unread, left-faulty, left-good, spells}
use Rattle.journal.proofs.run.judged.Goals as goal

pub returns-in_err-sheet : goal.returns-in_err-sheet
unfolding judged_of
returns-in_err-sheet c =
    let p = err_from_is_err_and c.from_residual.result c.from_residual.ensures.1 in
    rw (p.1, p.2) (left-unread book_before c.args.sheet.now c.args.journal.now _ c.in_err-sheet.ensures.is)

pub returns-in-Some : goal.returns-in-Some
unfolding judged_of
returns-in-Some c =
    let text = c.args.sheet.now in
    left-faulty book_before text c.args.journal.now c.in_ok-sheet.sheet c.in-Some.line
    (is-accepted text c.in_ok-sheet.sheet c.in_ok-sheet.ensures.is) c.in-Some.ensures

pub returns-in-None : goal.returns-in-None
unfolding judged_of
returns-in-None c =
    let text = c.args.sheet.now in
    let j = c.args.journal.now in
    let t = c.in_ok-sheet.sheet in
    let a = is-accepted text t c.in_ok-sheet.ensures.is in
    left-good book_before text j t t (spells j c.in-None.ensures) a (sym a.sound.arrays)
