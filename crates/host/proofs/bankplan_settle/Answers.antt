-- The list has room for the records of a planning that is made.
use mathlib.Core.Path.{refl}
use Rattle.host.proofs.bankplan_settle.Goals as goal

pub fill-requires : goal.fill-requires
fill-requires c = let h = c.in-Ok.ensures.change _ refl in (h.few, h.room)
