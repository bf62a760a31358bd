use Rattle.std.proofs.Common.{◌≤◌, length, length-append, ap, refl, ◌∙◌, arith}
use Rattle.rules.specs.Fold.{those_to}
use Rattle.rules.specs.Moves.{records}
use Rattle.moves.specs.Filled.{records_to}
use Rattle.moves.proofs.Filled.{same, other, few, stored}
use Rattle.moves.proofs.fill.Goals as goal
use Rattle.moves.proofs.fill.Goals.{then-from-to, else-from-to}

pub loop-b-init : goal.loop-b-init
unfolding records those_to
loop-b-init c = record { counted = refl; at_front = refl }

pub bounds-moves-k : goal.bounds-moves-k
bounds-moves-k c = omega (arith, few c.args.c c.loop-b.b)

pub loop-b-preserved : goal.loop-b-preserved
loop-b-preserved c =
    let h = c.loop-b.invariant in
    let a = c.args in
    let b = c.loop-b.b in
    let had = records_to a.c b in
    let l : length had ≤ b = few a.c b in
    elim c.if-from-to.branch [
      | then-from-to w ↦
          let e = other a.c b w.if-from-to.true in
          record {
            counted = let n = simp length-append at (ap length e) in omega (arith, w.k-is, h.counted);
            at_front =
                rw (w.moves-is, h.at_front, h.counted, w.from.ensures, w.from-then-from-to.ensures, e)
                (stored had a.moves.now _ (omega arith));
          }
      | else-from-to w ↦
          let e = same a.c b w.if-from-to.false in
          record { counted = rw e (w.k-is ∙ h.counted); at_front = rw e (w.moves-is ∙ h.at_front) }
    ]
