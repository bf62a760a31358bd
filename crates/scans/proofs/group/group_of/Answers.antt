-- By whether some machine is underloaded.
use native.Mathlib.Numerals.{add-one}
use Rattle.std.proofs.Common.{sym, ◌∙◌}
use Rattle.scans.proofs.Groups.{group-some, group-all}
use Rattle.scans.proofs.group.group_of.Goals as goal

pub returns-then-some_underloaded : goal.returns-then-some_underloaded
returns-then-some_underloaded c =
    λ I lengths r.
    group-some I _ _ (sym c.some_underloaded.ensures ∙ c.if-some_underloaded.true) (rw (add-one c.args.over) at (c.closure_of.ensures I lengths r))

pub returns-else-some_underloaded : goal.returns-else-some_underloaded
returns-else-some_underloaded c =
    λ I lengths r. group-all I _ _ r.machines (sym c.some_underloaded.ensures ∙ c.if-some_underloaded.false) c.all_machines.ensures
