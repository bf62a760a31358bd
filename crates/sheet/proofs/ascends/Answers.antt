use Rattle.std.proofs.Common.{take}
use Rattle.std.proofs.lemmas.List.Sorted.{non_decreasing_from_is_sorted}
use Rattle.sheet.proofs.Scan.{sorted-is}
use Rattle.sheet.proofs.ascends.Goals as goal

pub returns : goal.returns
returns c =
    let l = take c.args.count c.args.list.now in
    sorted-is l c.is_sorted.result (non_decreasing_from_is_sorted l c.is_sorted.result c.is_sorted.ensures.cases)
