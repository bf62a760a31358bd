-- Each instrument in its turn, then the order and the LF, and then the place.
use mathlib.Core.Path.{◌≡◌, refl, sym, ap, ◌∙◌}
use native.Mathlib.Omega.{arith}
use borrow.Author.Rules.{rules}
use lib.Dec.{eqb}
use Rattle.std.specs.Prelude.{Result, Ok, Err}
use Rattle.sheet.specs.declared.Fault.{Fault}
use Rattle.sheet.specs.Answers.{fault}
use Rattle.theory.proofs.Logic.{and-mk, and-no-left, and-no-right}
use Rattle.rules.specs.Sheet.{is_instrument}
use Rattle.sheet.proofs.Scan.{in-range}
use Rattle.reading.proofs.Lines.{by_result, list-missing, list-bad, list-more, line-unended, line-elsewhere, place-small, line_end}
use Rattle.reading.proofs.line_list.Goals as goal
use Rattle.reading.proofs.line_list.Goals.{then-not-within-via-then-not-within, then-not-within-via-else-not-within+then-listed}

pub returns-in_default : goal.returns-in_default
returns-in_default c =
    ap Err c.refused.ensures ∙ list-missing _ _ _ _ c.loop-k.invariant c.loop-k-test.true c.field_at.ensures _ _ _ _ c.in_default.not-Value

pub returns-then-not-within : goal.returns-then-not-within
unfolding is_instrument
returns-then-not-within c =
    ap Err c.refused-then-not-within.ensures ∙ list-bad _ _ _ _ c.loop-k.invariant c.loop-k-test.true c.field_at.ensures c.in-Value.is _ _ _ _
    (elim c.then-not-within.branch [
      | then-not-within-via-then-not-within w ↦ and-no-left _ _ (sym c.within.ensures ∙ w.if-not-within.true)
      | then-not-within-via-else-not-within+then-listed w ↦ and-no-right _ _ (rw (sym w.listed.ensures ∙ w.if-listed.true))
    ])

pub overflow_cast-list : goal.overflow_cast-list
overflow_cast-list c = omega (arith, in-range _ _ (sym c.within.ensures ∙ c.if-not-within.false), c.requires)

pub loop-k-preserved : goal.loop-k-preserved
unfolding is_instrument
loop-k-preserved c =
    list-more _ _ _ _ c.loop-k.invariant c.loop-k-test.true c.field_at.ensures c.in-Value.is (omega (arith, c.requires))
    (and-mk _ _ (sym c.within.ensures ∙ c.if-not-within.false) (rw (sym c.listed.ensures ∙ c.if-listed.false)))

pub returns-in_err-map_err : goal.returns-in_err-map_err
returns-in_err-map_err c =
    by_result c.end_refusal.result
    (λ q. let z : c.map_err.result ≡ Ok tt = search rules in absurd (let w : ◌≡◌ {A = Result Unit Fault} (Ok tt) (Err c.in_err-map_err.field-0.0) = sym z ∙ c.in_err-map_err.was in cc))
    (λ e q. let z : c.from_residual.result ≡ Err (fault e c.args.line) = search rules in
    z ∙ line-unended _ _ _ _ c.loop-k.invariant (omega arith) _ _ _ _ c.end_refusal.ensures q)

pub returns-then-not-listed : goal.returns-then-not-listed
returns-then-not-listed c =
    ap Err c.refused-then-not-listed.ensures ∙ let q : c.end_refusal.result ≡ Ok tt = search rules in
    line-elsewhere _ _ _ _ c.loop-k.invariant (omega arith) _ _ _ _ (omega (arith, c.requires)) c.requires.3 c.end_refusal.ensures q c.place_or-p.ensures (sym c.listed-2.ensures ∙ c.if-not-listed.true)

pub overflow_cast-result : goal.overflow_cast-result
overflow_cast-result c =
    let q : c.end_refusal.result ≡ Ok tt = search rules in
    omega (arith, place-small _ _ _ _ c.loop-k.invariant (omega arith) c.args.line c.args.minutes c.args.place (eqb c.args.started 1) (omega (arith, c.requires)) c.requires.3 c.end_refusal.ensures q c.place_or-p.ensures (sym c.listed-2.ensures ∙ c.if-not-listed.false), c.requires)

pub returns : goal.returns
returns c =
    let q : c.end_refusal.result ≡ Ok tt = search rules in
    line_end _ _ _ _ c.loop-k.invariant (omega arith) _ _ _ _ (omega (arith, c.requires)) c.requires.3 c.end_refusal.ensures q c.place_or-p.ensures c.requires.2 refl (sym c.listed-2.ensures ∙ c.if-not-listed.false)
