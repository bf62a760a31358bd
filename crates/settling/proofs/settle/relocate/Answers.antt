-- One move of the rules over arrays.
use mathlib.Core.Path.{sym, ◌∙◌}
use native.Mathlib.Omega.{arith}
use Rattle.settling.proofs.Relocate.{due_range, goes_some, goes_in, loaded, relocated}
use Rattle.settling.proofs.Ranges.{some_found}
use Rattle.settling.proofs.settle.relocate.Goals as goal

pub least_other-requires : goal.least_other-requires
least_other-requires c = let k = due_range c.requires in omega arith

pub unwrap-j-requires : goal.unwrap-j-requires
unwrap-j-requires c =
    let d = c.requires.known in
    rw c.least_other.ensures (some_found _ (goes_some c.args.jobs.now c.args.placement.now d.said.reads d.placing c.args.k c.requires.next))

pub shift-requires : goal.shift-requires
shift-requires c =
    let d = c.requires.known in
    let k = due_range c.requires in
    let g = goes_in c.args.jobs.now c.args.placement.now d.said.reads d.placing c.args.k c.requires.next c.unwrap-j.result (sym c.unwrap-j.ensures ∙ c.least_other.ensures) in
    record {
      on_a_machine = (omega arith, omega arith, omega arith, omega arith);
      loaded = loaded c.args.jobs.now c.args.placement.now d.said.reads d.placing c.args.k c.requires.next;
      room = omega (arith, k.small c.unwrap-j.result g);
    }

pub returns : goal.returns
returns c = λ I r d e.
    relocated c.args.jobs.now c.args.placement.now r d c.args.k e c.unwrap-j.result (sym c.unwrap-j.ensures ∙ c.least_other.ensures) c.shift.new.placement
    c.shift.ensures.places_after c.shift.ensures.loads_after
