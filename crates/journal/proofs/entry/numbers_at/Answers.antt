use mathlib.Core.Path.{ap, ◌∙◌}
use mathlib.Core.List.{List}
use Prim.Native.Nat.{ℕ}
use native.Mathlib.Omega.{arith}
use lib.ListN.{set}
use Rattle.sheet.proofs.Firsts.{firsts-fill, firsts-full}
use Rattle.journal.proofs.Numbers.{then-missing, one_more, all_read}
use Rattle.journal.proofs.entry.numbers_at.Goals as goal
use Rattle.journal.proofs.entry.numbers_at.Goals.{else-k-lt25, then-k-lt25}

pub returns-in_err-number : goal.returns-in_err-number
returns-in_err-number c =
    let l = c.loop-k in
    rw c.from_residual.ensures (then-missing c.args.s.now _ _ _ _ l.next l.invariant c.loop-k-test.true c.in_err-number.ensures)

pub loop-k-preserved : goal.loop-k-preserved
loop-k-preserved c =
    let k = c.loop-k.k in
    let f = c.loop-k.invariant in
    let x = c.in_ok-number.number in
    let r = c.in_ok-number.ensures in
    one_more c.args.s.now _ _ c.loop-k.numbers k c.loop-k.next f x _ c.loop-k-test.true r.0 r.1
    (elim c.if-k-lt25.branch [
      | then-k-lt25 w ↦ w.numbers-is ∙ ap (λ (l : List ℕ). set l k x) f.same ∙ firsts-fill f.numbers k x f.count w.if-k-lt25.true
      | else-k-lt25 w ↦ w.numbers-is ∙ f.same ∙ firsts-full f.numbers x (omega (arith, f.count, w.if-k-lt25.false))
    ])

pub returns : goal.returns
returns c = rw c.min-count.ensures (all_read c.args.s.now _ _ _ _ _ c.loop-k.invariant c.loop-k-test.false)
