use Rattle.std.proofs.Common.{arith}
use Rattle.arrays.proofs.Loads.{loaded-none, loaded-enter, loaded-skip, loaded-bound}
use Rattle.arrays.proofs.scan.loads_of.Goals as goal
use Rattle.arrays.proofs.scan.loads_of.Goals.{else-p-ne0, else-p-ne0-via-else-p-ne0, else-p-ne0-via-then-p-ne0+else-p-m, then-p-ne0+then-p-m}

pub loop-b-init : goal.loop-b-init
loop-b-init c = loaded-none _ _ _ c.requires.3

pub overflow_add-loads : goal.overflow_add-loads
overflow_add-loads c =
    let known = c.type_inv.minutes in
    let r =
    loaded-bound c.args.minutes.now c.args.places.now c.args.m c.loop-b.b _ 65535 c.loop-b.loads (omega arith) c.if-p-m.true
    (λ k. omega (arith, known k)) c.loop-b.invariant in
    omega (arith, known c.loop-b.b, c.from.ensures)

pub loop-b-preserved : goal.loop-b-preserved
loop-b-preserved c =
    elim c.if-p-ne0.branch [
      | then-p-ne0+then-p-m w ↦ rw w.loads-is
          (loaded-enter _ _ _ c.loop-b.b _ c.loop-b.loads _ c.from-p.ensures w.from.ensures (omega (arith, w.if-p-ne0.true)) w.if-p-m.true c.requires.3
          c.loop-b.invariant)
      | else-p-ne0 w ↦ rw w.loads-is
          (loaded-skip _ _ _ c.loop-b.b c.loop-b.loads
          (λ i l u e. elim w.else-p-ne0.branch [
            | else-p-ne0-via-then-p-ne0+else-p-m v ↦ omega (arith, c.from-p.ensures, v.if-p-m.false)
            | else-p-ne0-via-else-p-ne0 v ↦ omega (arith, c.from-p.ensures, v.if-p-ne0.false)
          ])
          c.loop-b.invariant)
    ]
