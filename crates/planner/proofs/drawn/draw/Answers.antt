-- The figures of the search and of its group.
use mathlib.Core.Path.{◌∙◌}
use Rattle.arrays.proofs.Lengths.{longest-reads}
use Rattle.scans.proofs.MarkWords.{set-marks}
use Rattle.planner.proofs.Drawing.{makespan-is, sought-set, drawn}
use Rattle.planner.proofs.drawn.draw.Goals as goal

pub balance-s-requires : goal.balance-s-requires
balance-s-requires c =
    let r = c.requires.standing in
    (r.0, r.1, c.longest_of-most.ensures ∙ longest-reads r.1.reads, c.largest_load-highest.ensures ∙ makespan-is r.1)

pub returns : goal.returns
returns c = λ I st w.
    let most = c.longest_of-most.ensures ∙ longest-reads st.reads in
    let found = c.balance-s.ensures I st most (c.largest_load-highest.ensures ∙ makespan-is st) in
    let g = c.members_of-group.ensures in
    let e = c.marks_of.ensures ∙ set-marks _ _ (sought-set st found c.group-set.ensures) in
    drawn st found c.group-set.ensures g (c.bound_of-bound.ensures I _ _ _ st.reads w e g.count most) c.largest_load.ensures
