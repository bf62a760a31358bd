-- Length, place, mark and count, each read in its turn and judged, and then the list.
use mathlib.Core.Path.{sym, ap, ◌∙◌}
use native.Mathlib.Omega.{arith}
use Rattle.std.specs.Prelude.{Err}
use lib.ListN.{length}
use Rattle.sheet.proofs.Scan.{in-range}
use Rattle.reading.specs.Lines.{line_as}
use Rattle.reading.proofs.LineParts.{length-missing, length-bad, place-missing, mark-missing, mark-bad, count-missing, count-bad, list-room, then_list}
use Rattle.reading.proofs.batch_line.Goals as goal

pub returns-in_default : goal.returns-in_default
returns-in_default c = ap Err c.refused.ensures ∙ length-missing c.args.s.now c.args.at c.args.m c.args.line c.field_at.ensures c.in_default.not-Value

pub returns-then-not-within : goal.returns-then-not-within
returns-then-not-within c = ap Err c.refused-then-not-within.ensures ∙ length-bad c.args.s.now c.args.at c.args.m c.args.line c.field_at.ensures c.in-Value.is (sym c.within.ensures ∙ c.if-not-within.true)

pub returns-in_default-place_at : goal.returns-in_default-place_at
returns-in_default-place_at c =
    ap Err c.refused-in_default-place_at.ensures ∙ place-missing c.args.s.now c.args.at c.args.m c.args.line c.field_at.ensures c.in-Value.is (sym c.within.ensures ∙ c.if-not-within.false)
    c.place_at.ensures c.in_default-place_at.not-Value

pub returns-in_default-field_at : goal.returns-in_default-field_at
returns-in_default-field_at c =
    ap Err c.refused-in_default-field_at.ensures ∙ mark-missing c.args.s.now c.args.at c.args.m c.args.line c.field_at.ensures c.in-Value.is (sym c.within.ensures ∙ c.if-not-within.false)
    c.place_at.ensures c.in-Value-place_at.is c.field_at-2.ensures c.in_default-field_at.not-Value

pub returns-then-v-gt1 : goal.returns-then-v-gt1
returns-then-v-gt1 c =
    ap Err c.refused-then-v-gt1.ensures ∙ mark-bad c.args.s.now c.args.at c.args.m c.args.line c.field_at.ensures c.in-Value.is (sym c.within.ensures ∙ c.if-not-within.false)
    c.place_at.ensures c.in-Value-place_at.is c.field_at-2.ensures c.in-Value-field_at.is c.if-v-gt1.true

pub returns-in_default-field_at-2 : goal.returns-in_default-field_at-2
returns-in_default-field_at-2 c =
    ap Err c.refused-in_default-field_at-2.ensures ∙ count-missing c.args.s.now c.args.at c.args.m c.args.line c.field_at.ensures c.in-Value.is (sym c.within.ensures ∙ c.if-not-within.false)
    c.place_at.ensures c.in-Value-place_at.is c.field_at-2.ensures c.in-Value-field_at.is c.if-v-gt1.false
    c.field_at-3.ensures c.in_default-field_at-2.not-Value

pub returns-then-not-within-2 : goal.returns-then-not-within-2
returns-then-not-within-2 c =
    ap Err c.refused-then-not-within-2.ensures ∙ count-bad c.args.s.now c.args.at c.args.m c.args.line c.field_at.ensures c.in-Value.is (sym c.within.ensures ∙ c.if-not-within.false)
    c.place_at.ensures c.in-Value-place_at.is c.field_at-2.ensures c.in-Value-field_at.is c.if-v-gt1.false
    c.field_at-3.ensures c.in-Value-field_at-2.is (sym c.within-2.ensures ∙ c.if-not-within-2.true)

pub overflow_cast-t-2 : goal.overflow_cast-t-2
overflow_cast-t-2 c = omega (arith, in-range _ _ (sym c.within.ensures ∙ c.if-not-within.false))

pub line_list-requires : goal.line_list-requires
line_list-requires c =
    let r = in-range _ _ (sym c.within-2.ensures ∙ c.if-not-within-2.false) in (
      list-room c.args.s.now c.args.at c.args.m c.args.line c.field_at.ensures c.in-Value.is (sym c.within.ensures ∙ c.if-not-within.false)
          c.place_at.ensures c.in-Value-place_at.is c.field_at-2.ensures c.in-Value-field_at.is c.if-v-gt1.false
          c.field_at-3.ensures c.in-Value-field_at-2.is,
      c.requires.1,
      c.if-v-gt1.false,
      r.0,
      r.1,
    )

pub returns : goal.returns
returns c =
    c.line_list.ensures
    ∙ ap (line_as (length c.args.s.now) c.args.line)
    (sym (then_list c.args.s.now c.args.at c.args.m c.args.line c.field_at.ensures c.in-Value.is (sym c.within.ensures ∙ c.if-not-within.false)
    c.place_at.ensures c.in-Value-place_at.is c.field_at-2.ensures c.in-Value-field_at.is c.if-v-gt1.false
    c.field_at-3.ensures c.in-Value-field_at-2.is (sym c.within-2.ensures ∙ c.if-not-within-2.false)))
