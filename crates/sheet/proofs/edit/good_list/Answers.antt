use Rattle.std.proofs.Common.{◌∙◌, sym}
use Rattle.rules.specs.Sheet.{is_instrument}
use Rattle.sheet.proofs.Scan.{named-behind, list-size, strange, twice, good-next, list-good}
use Rattle.sheet.proofs.edit.good_list.Goals as goal
use Rattle.sheet.proofs.edit.good_list.Goals.{then-not-within-2-via-then-not-within-2, then-not-within-2-via-else-not-within-2+then-contains}

pub returns-then-not-within : goal.returns-then-not-within
returns-then-not-within c = list-size _ _ (sym c.within.ensures ∙ c.if-not-within.true)

pub returns-then-not-within-2 : goal.returns-then-not-within-2
unfolding is_instrument
returns-then-not-within-2 c =
    elim c.then-not-within-2.branch [
      | then-not-within-2-via-then-not-within-2 w ↦ strange c.loop-i.invariant c.loop-i-test.true (sym c.within-in-loop-i.ensures ∙ w.if-not-within-2.true)
      | then-not-within-2-via-else-not-within-2+then-contains w ↦ twice c.loop-i.invariant c.loop-i-test.true (named-behind c.args.list.now c.loop-i.i w.contains.ensures.value ∙ w.if-contains.true)
    ]

pub loop-i-preserved : goal.loop-i-preserved
unfolding is_instrument
loop-i-preserved c =
    good-next c.loop-i.invariant c.loop-i-test.true (sym c.within-in-loop-i.ensures ∙ c.if-not-within-2.false) (named-behind c.args.list.now c.loop-i.i c.contains.ensures.value ∙ c.if-contains.false)

pub returns : goal.returns
returns c = list-good _ _ (sym c.within.ensures ∙ c.if-not-within.false) c.loop-i-test.false c.loop-i.invariant
