-- Both figures and the sheet, by what each call promises.
use Rattle.planner.proofs.Drawing.{balance-keeps}
use Rattle.listing.proofs.Planned.{plan-made}
use Rattle.listing.proofs.plan.plan.Goals as goal

pub settle-settled-requires : goal.settle-settled-requires
settle-settled-requires c = rw c.balance-balanced.ensures (balance-keeps _ c.requires)

pub returns : goal.returns
returns c = plan-made _ c.requires _ _ c.balance-balanced.ensures c.settle-settled.ensures
