use mathlib.Core.Path.{◌≡◌}
use native.Mathlib.Omega.{arith}
use lib.ListN.{length}
use lib.Seq.{length-take-le}
use borrow.Author.Rules.{rules}
use Rattle.planner.proofs.Entering.{front-padded}
use Rattle.planner.proofs.calls.front.Goals as goal

pub returns : goal.returns
returns c =
    let long : length c.args.places ≡ 224 = search rules in
    front-padded 200 c.args.n c.copy_from_slice.ensures.after (length-take-le c.args.n c.args.places (omega (arith, c.requires)))
