use Prim.Native.Nat.{ℕ, ◌+◌}
use mathlib.Core.Path.{ap}
use native.Mathlib.Omega.{arith}
use Rattle.text.proofs.Pasted.{wrote-length}
use Rattle.journal.proofs.Going.{going_start, start-wrote, made, going_on, turn-room, turn-wrote, end-wrote}
use Rattle.journal.proofs.run.write_answers.Goals as goal

pub loop-answer-init : goal.loop-answer-init
loop-answer-init c =
    let a = c.args in
    let p = c.requires in
    (going_start a.sheet p.0 a.journal.now p.1, start-wrote a.sheet p.0 a.journal.now p.1 a.out.now)

pub put-requires : goal.put-requires
put-requires c =
    let l = c.loop-answer in
    let u = c.in-Some.ensures in
    (omega (arith, turn-room l.invariant.0 u, l.invariant.1.size, wrote-length l.invariant.1, c.requires.2), (made l.invariant.0 u).fits)

pub line_length-to-requires : goal.line_length-to-requires
line_length-to-requires c = (made c.loop-answer.invariant.0 c.in-Some.ensures).few

pub overflow_add-to : goal.overflow_add-to
overflow_add-to c =
    let l = c.loop-answer in
    omega (arith, turn-room l.invariant.0 c.in-Some.ensures, l.invariant.1.size, c.requires.2, c.line_length-to.ensures)

pub loop-answer-preserved : goal.loop-answer-preserved
loop-answer-preserved c =
    let l = c.loop-answer in
    let u = c.in-Some.ensures in (
      going_on l.invariant.0 u,
      turn-wrote l.invariant.0 u l.invariant.1 (omega (arith, turn-room l.invariant.0 u, c.requires.2))
          (ap (λ (k : ℕ). l.to + k) c.line_length-to.ensures) c.put.ensures,
    )

pub returns : goal.returns
returns c =
    let e = c.in_default.ensures in
    let w = end-wrote c.loop-answer.invariant.0 e.1 e.2 c.loop-answer.invariant.1 in
    record { value = w.0; out_after = w.1 }
