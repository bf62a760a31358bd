-- A list that is too short, and one that is not.
use native.Mathlib.Omega.{arith}
use mathlib.Core.Path.{ap, ◌∙◌}
use Rattle.sheet.proofs.SoundViews.{view-batches}
use Rattle.planner.proofs.Drawing.{balance-keeps}
use Rattle.journal.specs.declared.answer.Answer.{Answer}
use Rattle.journal.specs.Answering.{made_with}
use Rattle.journal.proofs.Replies.{balance-short, made-balance, balance-long}
use Rattle.journal.proofs.call.make_balance.Goals as goal

pub returns-then-entries-n : goal.returns-then-entries-n
returns-then-entries-n c =
    ap (λ (a : Answer). made_with a c.args.sheet.now) c.of_refusal.ensures
    ∙ balance-short _ c.requires _ (omega (arith, c.if-entries-n.true, c.batches-n.ensures))

pub places-new-requires : goal.places-new-requires
places-new-requires c = rw c.balance-b.ensures (balance-keeps _ c.requires)

pub of_balanced-requires : goal.of_balanced-requires
of_balanced-requires c =
    let g = balance-long _ c.requires _ c.balance-b.ensures in
    (g.0, g.1, omega (arith, view-batches _ c.requires, c.batches-n.ensures))

pub returns : goal.returns
returns c =
    ap (λ (a : Answer). made_with a c.balance-b.result.sheet) c.of_balanced.ensures
    ∙ made-balance _ c.requires _ _ c.batches-n.ensures c.places-old.ensures
    (omega (arith, c.if-entries-n.false)) _ c.balance-b.ensures c.places-new.ensures
