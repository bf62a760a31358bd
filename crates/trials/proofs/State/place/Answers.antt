-- The next job that waits stands after the one that was placed.
use Rattle.std.proofs.Common.{rules}
use Rattle.trials.proofs.Waiting.{none-placed}
use Rattle.trials.proofs.State.place.Goals as goal

pub first_waiting-self-requires : goal.first_waiting-self-requires
first_waiting-self-requires c = (search rules, search rules, search rules, none-placed c.args.self.placement.places _ c.args.b c.args.i (search rules) c.requires.none)
