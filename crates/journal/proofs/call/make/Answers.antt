-- Each kind's call.
use mathlib.Core.Path.{ap, ◌∙◌}
use native.Mathlib.Omega.{arith}
use Rattle.sheet.proofs.SoundViews.{view-instruments, view-batches}
use Rattle.journal.specs.declared.answer.Answer.{Answer}
use Rattle.journal.specs.Answering.{made_with, call_said}
use Rattle.journal.proofs.Replies.{made-edit, made-review, made-trial, review-long, trial-stands}
use Rattle.journal.proofs.call.make.Goals as goal

pub returns-in-Add : goal.returns-in-Add
unfolding call_said
returns-in-Add c = rw c.in-Add.is (made-edit _ c.requires.0 _ _ _ _ c.of_edit.ensures (rw c.kept.ensures at c.add.ensures))

pub returns-in-Withdraw : goal.returns-in-Withdraw
unfolding call_said
returns-in-Withdraw c = rw c.in-Withdraw.is (made-edit _ c.requires.0 _ _ _ _ c.of_edit-in-Withdraw.ensures c.withdraw.ensures)

pub returns-in-Requalify : goal.returns-in-Requalify
unfolding call_said
returns-in-Requalify c =
    rw c.in-Requalify.is (made-edit _ c.requires.0 _ _ _ _ c.of_edit-in-Requalify.ensures (rw c.kept-in-Requalify.ensures at c.requalify.ensures))

pub returns-in-MoveTo : goal.returns-in-MoveTo
unfolding call_said
returns-in-MoveTo c = rw c.in-MoveTo.is (made-edit _ c.requires.0 _ _ _ _ c.of_edit-in-MoveTo.ensures c.move_to.ensures)

pub returns-in-Start : goal.returns-in-Start
unfolding call_said
returns-in-Start c = rw c.in-Start.is (made-edit _ c.requires.0 _ _ _ _ c.of_edit-in-Start.ensures c.start.ensures)

pub of_review-requires : goal.of_review-requires
of_review-requires c =
    let s = c.args.sheet.now in
    let u = (view-instruments s c.requires.0).1 in
    let l = review-long s c.requires.0 _ c.review.ensures.is in
    (omega (arith, c.instruments.ensures), omega (arith, c.instruments.ensures))

pub returns-in-Review : goal.returns-in-Review
unfolding call_said
returns-in-Review c =
    let s = c.args.sheet.now in
    rw c.in-Review.is (ap (λ (a : Answer). made_with a s) c.of_review.ensures ∙ made-review s c.requires.0 _ _ c.review.ensures c.instruments.ensures)

pub of_trial-requires : goal.of_trial-requires
of_trial-requires c =
    let s = c.args.sheet.now in
    (omega (arith, view-batches s c.requires.0, c.batches.ensures), trial-stands s c.requires.0 c.in-Trial.level _ _ c.trial.ensures.is c.batches.ensures)

pub returns-in-Trial : goal.returns-in-Trial
unfolding call_said
returns-in-Trial c =
    let s = c.args.sheet.now in
    rw c.in-Trial.is (ap (λ (a : Answer). made_with a s) c.of_trial.ensures
    ∙ made-trial s c.requires.0 c.in-Trial.level _ _ c.trial.ensures c.batches.ensures)

pub returns-in-Balance : goal.returns-in-Balance
unfolding call_said
returns-in-Balance c = rw c.in-Balance.is c.make_balance.ensures

pub returns-in-Settle : goal.returns-in-Settle
unfolding call_said
returns-in-Settle c = rw c.in-Settle.is c.make_settle.ensures
