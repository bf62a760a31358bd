use native.Mathlib.Omega.{arith}
use lib.ListN.{take}
use Rattle.theory.proofs.Small.{squares-small}
use Rattle.settling.proofs.Ranges.{found_some, found_none}
use Rattle.settling.proofs.Settles.{run-start, run_more, run_end, squares-are, moved-falls}
use Rattle.settling.proofs.settle.settle.Goals as goal

pub loop-k-init : goal.loop-k-init
loop-k-init c = λ I r d. run-start d

pub mover-requires : goal.mover-requires
mover-requires c =
    let k = c.requires in
    record { said = k.said; placing = (c.loop-k.invariant k.said.I k.said.reads k.placing).placing }

pub relocate-requires : goal.relocate-requires
relocate-requires c =
    let k = c.requires in
    let run = c.loop-k.invariant k.said.I k.said.reads k.placing in
    record { known = record { said = k.said; placing = run.placing }; next = found_some _ _ (c.in-Some.ensures k.said.I k.said.reads run.placing) }

pub overflow_add-moves : goal.overflow_add-moves
overflow_add-moves c =
    let k = c.requires in
    omega (
      arith,
      (c.loop-k.invariant k.said.I k.said.reads k.placing).paid,
      squares-small k.said.reads.small (take c.args.jobs.now.n c.args.placement.places),
    )

pub loop-k-smaller : goal.loop-k-smaller
loop-k-smaller c =
    let k = c.requires in
    let r = k.said.reads in
    let run = c.loop-k.invariant k.said.I r k.placing in
    let next = found_some _ _ (c.in-Some.ensures k.said.I r run.placing) in
    let d = c.relocate.ensures k.said.I r run.placing next in
    omega (arith, squares-are r run.placing, squares-are r d.placing, moved-falls r run next d)

pub loop-k-preserved : goal.loop-k-preserved
loop-k-preserved c = λ I r d.
    let run = c.loop-k.invariant I r d in
    let next = found_some _ _ (c.in-Some.ensures I r run.placing) in
    run_more r run next (c.relocate.ensures I r run.placing next)

pub returns : goal.returns
returns c = λ I r d.
    let run = c.loop-k.invariant I r d in
    run_end run (found_none _ (c.in_default.ensures I r run.placing))
