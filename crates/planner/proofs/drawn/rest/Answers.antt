-- The figures of settling.
use mathlib.Core.Path.{◌≡◌}
use lib.ListN.{length}
use borrow.Author.Rules.{rules}
use Rattle.planner.proofs.Reviewing.{standing-placing, standing-known}
use Rattle.planner.proofs.Drawing.{rested-at}
use Rattle.planner.proofs.drawn.rest.Goals as goal

pub settle-z-requires : goal.settle-z-requires
settle-z-requires c = let wide : length c.args.start.loads ≡ 24 = search rules in standing-known c.requires.1 wide

pub returns : goal.returns
returns c =
    let wide : length c.args.start.loads ≡ 24 = search rules in
    λ I st. rested-at st (c.settle-z.ensures I st.reads (standing-placing st wide)) c.largest_load.ensures
