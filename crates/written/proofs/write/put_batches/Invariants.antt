-- The lines of the batches passed are written, `at` is where they end, and the arrays are the sheet's.
use Rattle.std.proofs.Common.{◌≡◌, ◌+◌}
use Rattle.text.proofs.Pasted.{Wrote}
use Rattle.written.proofs.Lines.{lines_to, bytes_to}
use Rattle.written.proofs.Writing.{Held}
use Rattle.written.proofs.write.put_batches.Given as goal

abbrev pub invariant-loop-b : goal.invariant-loop-b
invariant-loop-b l = record {
  written : Wrote l.initial.out l.start (lines_to l.minutes l.places l.started l.counts l.lists l.b) (bytes_to l.counts l.b) l.out;
  end : l.at ≡ l.start + bytes_to l.counts l.b;
  arrays : Held l.fn.sheet l.b-end l.minutes l.places l.started l.counts l.lists;
}
