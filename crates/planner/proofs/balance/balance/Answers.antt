use mathlib.Core.Path.{refl, ◌∙◌}
use native.Mathlib.Omega.{arith}
use lib.ListN.{take}
use Rattle.theory.proofs.Small.{longest-small, makespan-small}
use Rattle.planner.proofs.Seeking.{halfway-some, halfway-none, less-left, start-stays, starts, seeking-first, seeking-next, seeking-end}
use Rattle.planner.proofs.balance.balance.Goals as goal

pub loop-a-init : goal.loop-a-init
loop-a-init c =
    let r = c.requires in
    let small = makespan-small r.1.reads.small (take c.args.jobs.now.n c.args.start.places) in
    (omega arith, omega (arith, r.3, small), refl, λ I v p q. seeking-first v _ q)

pub overflow_add-a : goal.overflow_add-a
overflow_add-a c =
    let r = c.requires in
    omega (arith, (halfway-some c.loop-a.s c.halfway.ensures c.in-Some.is).below, c.loop-a.invariant.1, r.2, longest-small r.1.reads.small)

pub loop-a-smaller : goal.loop-a-smaller
loop-a-smaller c =
    let s = c.loop-a.s in
    rw c.learn-s.ensures (less-left s c.in-Some.a c.try_level.result (halfway-some c.loop-a.s c.halfway.ensures c.in-Some.is)).gap

pub loop-a-preserved : goal.loop-a-preserved
loop-a-preserved c =
    let k = c.loop-a in
    let a = c.in-Some.a in
    let r = c.try_level.result in
    let w = halfway-some c.loop-a.s c.halfway.ensures c.in-Some.is in
    let h = less-left k.s a r w in
    rw c.learn-s.ensures (
      h.ordered,
      omega (arith, h.level, k.invariant.1),
      start-stays k.s a r ∙ k.invariant.2,
      λ I v p q.
          let t = c.try_level.ensures I (starts v k.s k.invariant.2) (omega (arith, p)) in
          seeking-next v k.s a r w k.invariant.2 (k.invariant.3 I v p q) t,
    )

pub returns : goal.returns
returns c = λ I v p q. seeking-end v c.loop-a.s (halfway-none c.loop-a.s c.halfway.ensures c.in_default.is) (c.loop-a.invariant.3 I v p q)
