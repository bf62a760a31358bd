use Prim.Native.Nat.{◌*◌}
use mathlib.Core.Path.{◌≡◌, ◌∙◌}
use native.Mathlib.Omega.{arith}
use lib.ListN.{length}
use borrow.Author.Rules.{rules}
use borrow.Author.Tests.{eq-eqb, ne_eqb}
use Rattle.sheet.proofs.SoundArrays.{few-batches, list-size}
use Rattle.sheet.proofs.Marking.{marked-one}
use Rattle.sheet.proofs.Marks.{rows_start, rows_next, rows_step, rows_end, entry-range, place-range}
use Rattle.sheet.proofs.Sheet.eligibility.Goals as goal
use Rattle.sheet.proofs.Sheet.eligibility.Goals.{else-self-i-eq0, then-self-i-eq0}

pub loop-i-init : goal.loop-i-init
loop-i-init c = rows_start (few-batches c.args.self c.requires)

pub mark_row-requires : goal.mark_row-requires
mark_row-requires c =
    let e = c.loop-i.invariant in
    let h = c.loop-i-test.true in
    let l : length c.args.self.lists ≡ 4800 = search rules in
    let w = (list-size c.args.self c.requires c.loop-i.i h).1 in
    record {
      fact_1 = omega (arith, e.long);
      fact_2 = rows_next e h;
      fact_3 = omega arith;
      fact_4 = λ k g. entry-range c.args.self c.requires c.loop-i.i k h g (omega arith);
    }

pub overflow_sub-marks : goal.overflow_sub-marks
overflow_sub-marks c = (place-range c.args.self c.requires c.loop-i.i c.loop-i-test.true).0

pub bounds-marks-i : goal.bounds-marks-i
bounds-marks-i c =
    let p = place-range c.args.self c.requires c.loop-i.i c.loop-i-test.true in
    omega (arith, p.0, p.1, c.loop-i.invariant.room)

pub loop-i-preserved : goal.loop-i-preserved
loop-i-preserved c =
    let p = place-range c.args.self c.requires c.loop-i.i c.loop-i-test.true in
    let e = c.loop-i.invariant in
    let h = c.loop-i-test.true in
    let places = c.args.self.places in
    let l : length places ≡ 200 = search rules in
    elim c.if-self-i-eq0.branch [
      | then-self-i-eq0 w ↦ rows_step e _ _ h (w.marks-is ∙ w.mark_row.ensures) (rw (eq-eqb _ 0 w.if-self-i-eq0.true))
      | else-self-i-eq0 w ↦ rows_step e _ _ h
          (w.marks-is ∙ marked-one c.loop-i.marks (c.loop-i.i * 24) places c.loop-i.i (rows_next e h) (omega (arith, e.long, e.room)) (omega (arith, e.room)) p)
          (rw (ne_eqb _ 0 w.if-self-i-eq0.false))
    ]

pub returns : goal.returns
returns c =
    let l : length c.args.self.places ≡ 200 = search rules in
    rows_end c.args.self c.loop-i.marks c.loop-i.i c.requires (omega (arith, few-batches c.args.self c.requires))
    c.loop-i.invariant c.loop-i-test.false
