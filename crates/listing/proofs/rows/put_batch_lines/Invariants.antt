-- The lines of the batches passed are written.
use Rattle.std.proofs.Common.{◌*◌}
use Rattle.listing.specs.Rows.{rows_to}
use Rattle.text.proofs.Pasted.{Wrote}
use Rattle.listing.proofs.rows.put_batch_lines.Given as goal

abbrev pub invariant-loop-b : goal.invariant-loop-b
invariant-loop-b l = Wrote l.initial.out l.at (rows_to l.minutes l.places l.b) (19 * l.b) l.out
