-- Batches in arrays with room for 224, as review, trials, balance and settle take them.
use Rattle.std.specs.Prelude.{List, map, length}
use Rattle.rules.specs.Sheet.{Batch}
use Rattle.sheet.specs.Represent.{padded}
use Rattle.sheet.specs.View.{mark_rows}
use Rattle.planner.specs.declared.items.Items.{Items}

abbrev pub items_of : List Batch → Items
items_of bs = record {
  n = length bs;
  minutes = padded 224 (map (λ (b : Batch). b.minutes) bs);
  places = padded 224 (map (λ (b : Batch). b.place) bs);
  marks = padded 5376 (mark_rows bs);
}
