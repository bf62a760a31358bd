-- What is refused stays so, and otherwise the sheet that is left is written.
use Rattle.std.proofs.Common.{◌∙◌}
use Rattle.written.proofs.Left.{left-refusal, left-sound, left-text}
use Rattle.written.proofs.write.write_into.Goals as goal

pub write-requires : goal.write-requires
write-requires c = left-sound c.args.sheet.now c.args.journal.now _ c.in-Ok.ensures

pub returns-in-Ok : goal.returns-in-Ok
returns-in-Ok c = c.hosted.ensures c.write.new.out ∙ c.write.ensures ∙ left-text c.args.sheet.now c.args.journal.now _ c.in-Ok.ensures c.args.out.now

pub returns-in-Err : goal.returns-in-Err
returns-in-Err c = rw c.from.ensures (left-refusal c.args.sheet.now c.args.journal.now c.args.out.now _ c.in-Err.ensures)
