-- By whether the byte in front is a digit.
use mathlib.Core.Path.{ap, ◌∙◌}
use mathlib.Core.Bool.{true, false}
use Prim.Native.Nat.{ℕ}
use Rattle.worklist.specs.Rows.{gives}
use Rattle.worklist.proofs.Digits.{digit-here}
use Rattle.worklist.proofs.row.digit_at.Goals as goal

pub returns-then-not-is_ascii_digit : goal.returns-then-not-is_ascii_digit
returns-then-not-is_ascii_digit c = digit-here c.args.s.now _ _ false c.in_ok-x.ensures.cases.0 c.if-not-is_ascii_digit.ensures.value

pub returns : goal.returns
returns c =
    ap (λ (v : ℕ). gives v c.in_ok-x.rest.now) c.from.ensures
    ∙ digit-here c.args.s.now _ _ true c.in_ok-x.ensures.cases.0 c.if-not-is_ascii_digit.ensures.value
