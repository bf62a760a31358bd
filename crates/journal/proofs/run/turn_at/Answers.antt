-- The line's call is the rules', and so is what it makes.
use mathlib.Core.Path.{ap, ◌∙◌}
use Rattle.sheet.specs.Represent.{book_of}
use Rattle.journal.specs.declared.entry.Call.{Call}
use Rattle.journal.specs.Answering.{call_said, made_of}
use Rattle.journal.proofs.Linewise.{line-read}
use Rattle.journal.proofs.Said.{made-said}
use Rattle.journal.proofs.run.turn_at.Goals as goal

pub returns : goal.returns
returns c =
    let e = line-read c.args.journal.now c.args.at c.in_ok-call.call c.in_ok-call.next c.in_ok-call.ensures c.requires.1 in
    let k = book_of c.args.sheet.now in
    record {
      call = e.call;
      part = e.part;
      same = c.make.ensures ∙ ap (λ (x : Call). made_of k (call_said x)) e.same ∙ made-said k c.requires.0.book e.call;
      past = e.past;
      room = e.room;
    }
