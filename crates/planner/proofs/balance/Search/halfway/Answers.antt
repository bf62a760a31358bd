use native.Mathlib.Omega.{arith}
use Rattle.planner.proofs.Seeking.{halfway-open, halfway-closed}
use Rattle.planner.proofs.balance.Search.halfway.Goals as goal

pub returns-then-lowest-self : goal.returns-then-lowest-self
returns-then-lowest-self c = halfway-open c.args.self.now _ c.lowest-lowest.ensures (omega (arith, c.if-lowest-self.true))

pub returns-else-lowest-self : goal.returns-else-lowest-self
returns-else-lowest-self c = halfway-closed c.args.self.now _ c.lowest-lowest.ensures (omega (arith, c.if-lowest-self.false))
