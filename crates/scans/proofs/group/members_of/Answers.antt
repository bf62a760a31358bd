use native.Mathlib.Numerals.{add-one}
use Rattle.std.proofs.Common.{arith, sym, ◌∙◌}
use Rattle.rules.specs.Fold.{those_to}
use Rattle.scans.proofs.Groups.{holds-none, holds-in, holds-out}
use Rattle.scans.proofs.group.members_of.Goals as goal
use Rattle.scans.proofs.group.members_of.Goals.{else-is_in, then-is_in}

pub loop-i-init : goal.loop-i-init
unfolding those_to
loop-i-init c = (omega arith, holds-none)

pub loop-i-preserved : goal.loop-i-preserved
loop-i-preserved c =
    let i = c.loop-i.i in
    let size = c.loop-i.size in (
      elim c.if-is_in.branch [ then-is_in w ↦ omega arith | else-is_in w ↦ omega arith ],
      rw (add-one i)
          (elim c.if-is_in.branch [
            | then-is_in w ↦ rw (w.list-is, w.size-is, add-one i, add-one size)
                (holds-in _ _ size i c.loop-i.invariant.1 (sym c.is_in.ensures ∙ w.if-is_in.true) (omega arith))
            | else-is_in w ↦ rw (w.list-is, w.size-is)
                (holds-out _ _ size i c.loop-i.invariant.1 (sym c.is_in.ensures ∙ w.if-is_in.false))
          ]),
    )
