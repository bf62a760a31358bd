use Rattle.std.proofs.Common.{◌≡◌, ◌+◌, ◌-◌, ◌<◌, ap, ◌∙◌, get_or, length, take, drop, arith, length-take-le, length-drop}
use lib.Seq.{get_or-take, get_or-drop}
use Rattle.sheet.proofs.Marking.{marked_start, marked_step}
use Rattle.sheet.proofs.view.mark_row.Goals as goal

pub loop-x-init : goal.loop-x-init
loop-x-init c = marked_start c.requires.fact_2

pub loop-x-preserved : goal.loop-x-preserved
loop-x-preserved c =
    let a = c.args in
    let i = c.loop-x.x-index in
    let e : a.at + a.count - a.at ≡ a.count = omega arith in
    let n : length (take (a.at + a.count - a.at) (drop a.at a.lists.now)) ≡ a.count = ap (λ k. length (take k (drop a.at a.lists.now))) e ∙ length-take-le a.count (drop a.at a.lists.now) (omega (arith, length-drop a.at a.lists.now, c.requires.fact_3)) in
    let h : i < a.count = omega (arith, c.loop-x-test.true) in
    let x : get_or (take (a.at + a.count - a.at) (drop a.at a.lists.now)) i 0 ≡ get_or a.lists.now (a.at + i) 0 =
    ap (λ k. get_or (take k (drop a.at a.lists.now)) i 0) e ∙ get_or-take a.count (drop a.at a.lists.now) i 0 h ∙ get_or-drop a.at a.lists.now i 0 in
    rw x (marked_step c.loop-x.invariant c.requires.fact_1 c.requires.fact_3 h (c.requires.fact_4 i h))
