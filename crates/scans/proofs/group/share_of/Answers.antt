use Rattle.std.proofs.Common.{◌∙◌}
use Rattle.scans.proofs.Within.{rounds-up}
use Rattle.scans.proofs.group.share_of.Goals as goal

pub returns : goal.returns
returns c = c.div_ceil.ensures ∙ rounds-up _ _ c.requires
