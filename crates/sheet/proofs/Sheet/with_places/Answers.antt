use mathlib.Core.Path.{◌≡◌}
use native.Mathlib.Omega.{arith}
use lib.ListN.{length}
use Rattle.sheet.proofs.SoundArrays.{few-batches, list-size, waits-at, starts-at}
use Rattle.theory.proofs.Enter.{entered-start}
use Rattle.sheet.proofs.Placed.{kept_step, kept-skip, kept-end, kept-sound}
use borrow.Author.Rules.{rules}
use Rattle.sheet.proofs.Sheet.with_places.Goals as goal
use Rattle.sheet.proofs.Sheet.with_places.Goals.{else-self-b-eq0, then-self-b-eq0}

pub loop-b-init : goal.loop-b-init
loop-b-init c = (few-batches c.args.self c.requires, entered-start)

pub kept_in-requires : goal.kept_in-requires
kept_in-requires c =
    let l : length c.args.self.lists ≡ 4800 = search rules in
    let h = c.loop-b-test.true in
    let w = list-size c.args.self c.requires c.loop-b.b h in
    (w.0, omega (arith, w.1, c.loop-b.invariant.0, h))

pub loop-b-preserved : goal.loop-b-preserved
loop-b-preserved c =
    let l : length c.args.self.places ≡ 200 = search rules in
    let i = c.loop-b.invariant in
    let h = c.loop-b-test.true in (
      i.0,
      elim c.if-self-b-eq0.branch [ then-self-b-eq0 w ↦ rw w.places-is (kept_step c.args.self c.args.x w.kept_in.result i.1 (omega (arith, i.0)) h (waits-at c.args.self c.requires _ w.if-self-b-eq0.true) w.kept_in.ensures) | else-self-b-eq0 w ↦ rw w.places-is (kept-skip c.args.self c.args.x i.1 (omega (arith, i.0)) h (starts-at c.args.self c.requires _ w.if-self-b-eq0.false)) ],
    )

pub returns : goal.returns
returns c =
    let q = kept-end c.args.self c.args.x c.requires c.loop-b.invariant.1 c.loop-b-test.false in
    (q, rw q (kept-sound c.args.self c.args.x c.requires))
