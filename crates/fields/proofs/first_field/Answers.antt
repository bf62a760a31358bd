use Prim.Native.Nat.{ℕ}
use mathlib.Core.Path.{sym, ap, ◌∙◌}
use native.Mathlib.Numerals.{add-one}
use native.Mathlib.Omega.{arith}
use borrow.Author.Tests.{lt-ltb, le-ltb}
use lib.ListN.{length}
use lib.Seq.{length-take-le}
use Rattle.rules.specs.Field.{field}
use Rattle.fields.specs.Columns.{coded_field}
use Rattle.fields.proofs.Columns.{below_more, below-five, column-more, columns-done}
use Rattle.fields.proofs.first_field.Goals as goal

pub returns-then-s-lt6 : goal.returns-then-s-lt6
unfolding field
returns-then-s-lt6 c = rw (lt-ltb _ _ c.if-s-lt6.true)

pub with_column-f-requires : goal.with_column-f-requires
with_column-f-requires c =
    below-five c.loop-b.b-index c.loop-b.f (omega (arith, length-take-le 6 c.args.s.now c.if-s-lt6.false, c.loop-b-test.true)) c.loop-b.invariant.0

pub loop-b-preserved : goal.loop-b-preserved
loop-b-preserved c =
    let i : ℕ = c.loop-b.b-index in
    rw c.with_column-f.ensures (
      rw add-one (below_more i c.loop-b.f _ c.loop-b.invariant.0),
      sym (column-more c.args.s.now c.loop-b.f i c.loop-b-test.true) ∙ c.loop-b.invariant.1,
    )

pub returns : goal.returns
unfolding field
returns c =
    let text = c.args.s.now in
    rw (le-ltb (length text) 6 c.if-s-lt6.false)
    (columns-done text c.loop-b.f c.loop-b.b-index c.loop-b-test.false ∙ ap coded_field c.loop-b.invariant.1)
