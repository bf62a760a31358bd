-- A list that is too short, and one that is not.
use native.Mathlib.Omega.{arith}
use mathlib.Core.Path.{ap, ◌∙◌}
use Rattle.planner.proofs.Drawing.{settle-keeps}
use Rattle.journal.specs.declared.answer.Answer.{Answer}
use Rattle.journal.specs.Answering.{made_with}
use Rattle.journal.proofs.Replies.{settle-short, made-settle}
use Rattle.journal.proofs.call.make_settle.Goals as goal

pub returns-then-entries-n : goal.returns-then-entries-n
returns-then-entries-n c =
    ap (λ (a : Answer). made_with a c.args.sheet.now) c.of_refusal.ensures
    ∙ settle-short _ c.requires _ (omega (arith, c.if-entries-n.true, c.batches-n.ensures))

pub places-new-requires : goal.places-new-requires
places-new-requires c = rw c.settle-z.ensures (settle-keeps _ c.requires)

pub returns : goal.returns
returns c =
    ap (λ (a : Answer). made_with a c.settle-z.result.sheet) c.of_settled.ensures
    ∙ made-settle _ c.requires _ _ c.batches-n.ensures c.places-old.ensures
    (omega (arith, c.if-entries-n.false)) _ c.settle-z.ensures c.places-new.ensures
