-- The three numbers by the searches that give them.
use Rattle.std.proofs.Common.{◌≡◌, ◌+◌}
use Rattle.std.specs.Option.{option_map}
use native.Mathlib.Omega.{arith}
use lib.ListN.{length}
use borrow.Author.Rules.{rules}
use Rattle.planner.proofs.Answered.{review-answered}
use Rattle.planner.proofs.SheetArrays.{review-shown}
use Rattle.planner.proofs.Reviewing.{standing-placing, standing-known, found-below, review-is}
use Rattle.planner.proofs.calls.review.Goals as goal

pub first_improving-requires : goal.first_improving-requires
first_improving-requires c =
    let long : length c.lay-a.result.start.loads ≡ 24 = search rules in
    standing-known (c.lay-a.ensures.each _ c.jobs-jobs.ensures).stands long

pub map-requires : goal.map-requires
map-requires c = λ i e.
    let long : length c.lay-a.result.start.loads ≡ 24 = search rules in
    let st = (c.lay-a.ensures.each _ c.jobs-jobs.ensures).stands in
    let few = found-below _ _ (c.first_improving.ensures _ st.reads (standing-placing st long)) e in
    λ _ _. omega (arith, few, st.reads.most)

pub returns : goal.returns
returns c =
    let l = c.lay-a.ensures.each _ c.jobs-jobs.ensures in
    let st = l.stands in
    let long : length c.lay-a.result.start.loads ≡ 24 = search rules in
    let p = standing-placing st long in
    let r = review-is st.reads p c.largest_load.ensures (c.first_improving.ensures _ st.reads p) in
    let next : c.map.result ≡ option_map (λ i. i + 1) c.first_improving.result = search rules in
    review-answered (review-shown _ l long r next)
