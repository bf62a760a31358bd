-- What the contracts cite: the rules' records as the code's.
use Rattle.std.specs.Prelude.{ℕ, List, map}
use Rattle.rules.specs.Lent.{at_front}
use Rattle.rules.specs.Moves as R
use Rattle.rules.specs.Moves.{records}
use Rattle.moves.specs.declared.Change.{Change}
use Rattle.moves.specs.declared.Move.{Move}

abbrev pub move_as : R.Move → Move
move_as v = record { batch = v.batch; from = v.from; to = v.to }

-- the records of the first j batches
abbrev pub records_to : Change → ℕ → List Move
records_to c j = map move_as (records j c.old c.new)

-- the list ys with all of them at its front; what lies past them stays
abbrev pub filled_by : Change → List Move → List Move
filled_by c ys = at_front (records_to c c.n) ys
