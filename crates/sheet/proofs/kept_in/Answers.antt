-- By whether the place is listed.
use Prim.Native.Nat.{ℕ}
use native.Mathlib.Omega.{arith}
use mathlib.Core.Path.{sym, ap, ◌∙◌}
use lib.ListN.{get_or, drop}
use lib.Seq.{get_or-take, get_or-drop}
use Rattle.rules.specs.Edit.{kept}
use Rattle.sheet.proofs.kept_in.Goals as goal

pub returns-then-listed : goal.returns-then-listed
unfolding kept
returns-then-listed c = rw (← c.from.ensures, sym c.listed.ensures ∙ c.if-listed.true)

pub returns-else-listed : goal.returns-else-listed
unfolding kept
returns-else-listed c =
    let l = c.args.lists.now in
    rw (← c.from.ensures, sym c.listed.ensures ∙ c.if-listed.false)
    (sym (get_or-take c.args.count (drop c.args.from l) 0 0 c.requires.0
    ∙ get_or-drop c.args.from l 0 0
    ∙ ap (λ (i : ℕ). get_or l i 0) (omega arith)))
