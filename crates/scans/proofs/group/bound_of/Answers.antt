-- The larger of the longest length and the share.
use Rattle.std.proofs.Common.{sym, ◌∙◌}
use Rattle.arrays.proofs.Folds.{most-max}
use Rattle.scans.proofs.Within.{bound-none, bound-is}
use Rattle.scans.proofs.group.bound_of.Goals as goal

pub returns-then-size-eq0 : goal.returns-then-size-eq0
returns-then-size-eq0 c I m sets list r w s z e = e ∙ sym (bound-none I list (sym z ∙ c.if-size-eq0.true))

pub returns : goal.returns
returns c =
    λ I m sets list r w s z e.
    c.max.ensures ∙ most-max _ _
    ∙ sym (bound-is I list _ c.confined_of.result _ c.share_of.result c.if-size-eq0.false e
    (c.confined_of.ensures.value I m sets list r w s) z c.share_of.ensures)
