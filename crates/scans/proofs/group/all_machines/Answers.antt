-- The ones of the power of two less one.
use Rattle.scans.proofs.Groups.{all_set}
use Rattle.scans.proofs.group.all_machines.Goals as goal

pub returns : goal.returns
returns c = all_set _ c.requires
