-- A buffer that is too short, or the answers.
use mathlib.Core.Path.{sym, ◌∙◌}
use borrow.Author.Tests.{leb-true, leb-false}
use Rattle.text.proofs.Answer.{into-short, into-long}
use Rattle.journal.proofs.run.run_on.Goals as goal

pub returns-then-not-fits : goal.returns-then-not-fits
returns-then-not-fits c =
    rw c.into.ensures (into-short _ c.args.out.now (leb-false _ _ (sym c.fits.ensures ∙ c.if-not-fits.true)))

pub returns : goal.returns
returns c =
    into-long _ c.args.out.now _ _ (leb-true _ _ (sym c.fits.ensures ∙ c.if-not-fits.false))
    c.write_answers-length.ensures.value c.write_answers-length.ensures.out_after
