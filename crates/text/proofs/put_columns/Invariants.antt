-- So many last columns are written, and `rest` is what stands before them.
use Rattle.std.proofs.Common.{◌≡◌, ◌+◌, ◌-◌, ◌/◌, ◌^◌}
use Rattle.rules.specs.Render.{columns}
use Rattle.text.proofs.Pasted.{Wrote}
use Rattle.text.proofs.put_columns.Given as goal

abbrev pub invariant-loop-done : goal.invariant-loop-done
invariant-loop-done l = record {
  written : Wrote l.initial.out (l.at + l.width - l.done) (columns l.done l.v) l.done l.out;
  rest : l.rest ≡ l.v / 10 ^ l.done;
}
