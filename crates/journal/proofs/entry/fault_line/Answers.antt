use Prim.Native.Nat.{suc}
use mathlib.Core.Path.{sym, ap, ◌∙◌}
use native.Mathlib.Numerals.{add-one}
use native.Mathlib.Omega.{arith}
use lib.ListN.{drop}
use Rattle.journal.specs.Entry.{lines_from, fault_of}
use Rattle.journal.proofs.Linewise.{journal-is, line-read, lines-first, lines-fault, lines_end, fault-first}
use Rattle.journal.proofs.entry.fault_line.Goals as goal

pub loop-at-init : goal.loop-at-init
loop-at-init c = (omega arith, omega arith, sym (ap fault_of (journal-is _)))

pub returns-in_default : goal.returns-in_default
returns-in_default c =
    let l = c.loop-at in
    sym (ap fault_of (lines-fault c.args.s.now l.at l.line c.in_default.ensures c.loop-at-test.true)) ∙ l.invariant.2

pub loop-at-smaller : goal.loop-at-smaller
loop-at-smaller c =
    let at = c.loop-at.at in
    let g = line-read c.args.s.now at _ c.in-Some.next c.in-Some.ensures c.loop-at.invariant.0 in
    omega (arith, g.past, g.room, c.loop-at-test.true)

pub loop-at-preserved : goal.loop-at-preserved
loop-at-preserved c =
    let s = c.args.s.now in
    let at = c.loop-at.at in
    let j = c.loop-at.line in
    let n = c.in-Some.next in
    let g = line-read s at _ n c.in-Some.ensures c.loop-at.invariant.0 in (
      g.room,
      omega (arith, g.past, c.loop-at.invariant.1),
      rw add-one
          (sym (fault-first g.call (lines_from (suc j) (drop n s)))
          ∙ sym (ap fault_of (lines-first s at j n g.call g.part (omega (arith, g.past)) g.room))
          ∙ c.loop-at.invariant.2),
    )

pub returns : goal.returns
returns c =
    let s = c.args.s.now in
    sym (ap fault_of (lines_end s c.loop-at.at c.loop-at.line c.loop-at-test.false)) ∙ c.loop-at.invariant.2
