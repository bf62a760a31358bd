-- By where the place is.
use Rattle.std.proofs.Common.{◌≡◌, false, arith, sym, ◌∙◌}
use Rattle.scans.specs.Grouping.{among}
use Rattle.scans.proofs.Reaching.{among_none, among-past, among_in}
use Rattle.scans.proofs.group.added.Goals as goal
use Rattle.scans.proofs.group.added.Goals.{else-p-ne0-via-then-p-ne0+then-p-m+else-is_in}
use Rattle.scans.proofs.group.added.Goals.{else-p-ne0-via-then-p-ne0+else-p-m, else-p-ne0-via-else-p-ne0}

pub returns-then-is_in : goal.returns-then-is_in
returns-then-is_in c =
    let e = c.from-p.ensures in
    sym (rw (among_in c.args.g c.args.m c.args.place c.is_in.result (omega arith) (omega arith) (rw e at c.is_in.ensures) ∙ c.if-is_in.true))

pub returns-else-p-ne0 : goal.returns-else-p-ne0
returns-else-p-ne0 c =
    let e = c.from-p.ensures in
    let a = c.args in
    let off : among a.g a.m a.place ≡ false
    = elim c.else-p-ne0.branch [
      | else-p-ne0-via-then-p-ne0+then-p-m+else-is_in w ↦
          among_in a.g a.m a.place w.is_in.result (omega (arith, w.if-p-ne0.true)) (omega (arith, w.if-p-m.true)) (rw e at w.is_in.ensures)
          ∙ w.if-is_in.false
      | else-p-ne0-via-then-p-ne0+else-p-m w ↦ among-past a.g a.m a.place (omega (arith, w.if-p-m.false))
      | else-p-ne0-via-else-p-ne0 w ↦ among_none a.g a.m a.place (omega (arith, w.if-p-ne0.false))
    ] in
    sym (rw off)
