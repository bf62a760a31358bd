use Rattle.std.proofs.Common.{arith, ◌∙◌}
use Rattle.std.proofs.lemmas.Iterator.{YieldsList-from_slice}
use Rattle.std.proofs.lemmas.Iterator.Consumers.{YieldsList-from_copied}
use Rattle.arrays.proofs.Folds.{max-read}
use Rattle.arrays.proofs.scan.largest_load.Goals as goal

pub returns : goal.returns
returns c =
    c.unwrap_or.ensures
    ∙ max-read c.args.loads.now c.args.m c.copied.result _ c.max.ensures.ran (YieldsList-from_copied (YieldsList-from_slice _ (cc))) (omega arith)
