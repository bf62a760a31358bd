-- Line 1: each field is read in its turn and judged, and then the LF. Then the lines after it.
use mathlib.Core.Path.{sym, ◌∙◌}
use Rattle.sheet.proofs.Scan.{in-range}
use Rattle.fields.proofs.Reading.{end-room}
use Rattle.reading.proofs.HeadRead.{size-missing, size-bad, batches-missing, batches-bad, head-unended, then_lines}
use Rattle.reading.proofs.read.Goals as goal

pub returns-in_default : goal.returns-in_default
returns-in_default c = rw c.refused.ensures (size-missing c.args.s.now c.field_at.ensures c.in_default.not-Value)

pub returns-then-not-within : goal.returns-then-not-within
returns-then-not-within c = rw c.refused-then-not-within.ensures (size-bad c.args.s.now c.field_at.ensures c.in-Value.is (sym c.within.ensures ∙ c.if-not-within.true))

pub returns-in_default-field_at : goal.returns-in_default-field_at
returns-in_default-field_at c =
    rw c.refused-in_default-field_at.ensures (batches-missing c.args.s.now c.field_at.ensures c.in-Value.is (sym c.within.ensures ∙ c.if-not-within.false)
    c.field_at-2.ensures c.in_default-field_at.not-Value)

pub returns-then-n-gt-BATCHES : goal.returns-then-n-gt-BATCHES
returns-then-n-gt-BATCHES c =
    rw c.refused-then-n-gt-BATCHES.ensures (batches-bad c.args.s.now c.field_at.ensures c.in-Value.is (sym c.within.ensures ∙ c.if-not-within.false)
    c.field_at-2.ensures c.in-Value-field_at.is c.if-n-gt-BATCHES.true)

pub returns-then-not-ends_at : goal.returns-then-not-ends_at
returns-then-not-ends_at c =
    rw c.refused-then-not-ends_at.ensures (head-unended c.args.s.now c.field_at.ensures c.in-Value.is (sym c.within.ensures ∙ c.if-not-within.false)
    c.field_at-2.ensures c.in-Value-field_at.is c.if-n-gt-BATCHES.false (sym c.ends_at.ensures ∙ c.if-not-ends_at.true))

pub lines_after-requires : goal.lines_after-requires
lines_after-requires c = (
  end-room c.args.s.now 12 (sym c.ends_at.ensures ∙ c.if-not-ends_at.false),
  (in-range _ _ (sym c.within.ensures ∙ c.if-not-within.false)).1,
  c.if-n-gt-BATCHES.false,
)

pub returns : goal.returns
returns c =
    then_lines c.args.s.now c.field_at.ensures c.in-Value.is (sym c.within.ensures ∙ c.if-not-within.false)
    c.field_at-2.ensures c.in-Value-field_at.is c.if-n-gt-BATCHES.false (sym c.ends_at.ensures ∙ c.if-not-ends_at.false) c.lines_after.ensures
