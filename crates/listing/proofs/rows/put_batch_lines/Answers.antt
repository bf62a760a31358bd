use Rattle.std.proofs.Common.{arith}
use Rattle.listing.specs.Rows.{rows_to}
use Rattle.text.proofs.Pasted.{wrote_none}
use Rattle.text.proofs.Numbers.{put_line_same}
use Rattle.listing.proofs.Growing.{rows_more}
use Rattle.listing.proofs.rows.put_batch_lines.Goals as goal

pub loop-b-init : goal.loop-b-init
unfolding rows_to
loop-b-init c = wrote_none c.args.out.now c.args.at (omega arith)

pub loop-b-preserved : goal.loop-b-preserved
loop-b-preserved c =
    rows_more c.args.minutes.now c.args.places.now c.loop-b.b c.loop-b.invariant (omega arith)
    (rw c.from.ensures at (put_line_same c.put_line.ensures))
