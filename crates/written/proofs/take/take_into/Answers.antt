-- What is refused stays so, and otherwise the sheet that is taken is written.
use Rattle.std.proofs.Common.{◌∙◌, refl}
use Rattle.theory.proofs.Taken.{taken-sound}
use Rattle.sheet.proofs.Accepted.{or-accepted, is-refused}
use Rattle.written.proofs.Taken.{take-refused, take-written}
use Rattle.written.proofs.take.take_into.Goals as goal

pub write-requires : goal.write-requires
write-requires c =
    let a = c.args in
    (or-accepted _ _ (taken-sound a.m a.calibrations.now a.worklist.now) c.in-Ok.ensures.is).sound

pub returns-in-Ok : goal.returns-in-Ok
returns-in-Ok c =
    let a = c.args in
    let sheet = or-accepted _ _ (taken-sound a.m a.calibrations.now a.worklist.now) c.in-Ok.ensures.is in
    c.hosted.ensures c.write.new.out ∙ c.write.ensures ∙ take-written a.m a.calibrations.now a.worklist.now a.out.now _ sheet.book

pub returns-in-Err : goal.returns-in-Err
returns-in-Err c =
    let a = c.args in
    c.hosted-in-Err.ensures a.out.now
    ∙ take-refused a.m a.calibrations.now a.worklist.now a.out.now _ _ (is-refused _ _ c.in-Err.ensures.is) refl
