-- The trial over the sheet's arrays is the rules'.
use Prim.Native.Nat.{ℕ}
use mathlib.Core.Path.{ap, ◌∙◌}
use native.Mathlib.Omega.{arith}
use lib.ListN.{take}
use Rattle.theory.proofs.Small.{total-small, longest-small}
use Rattle.arrays.proofs.Lengths.{total-reads, longest-reads}
use Rattle.theory.proofs.Jobs.{batches-first}
use Rattle.sheet.specs.Represent.{book_of, padded}
use Rattle.sheet.proofs.SoundViews.{view-batches}
use Rattle.planner.proofs.Answered.{trial-answered}
use Rattle.planner.proofs.TrialAnswers.{level-within, limit-is, answered-refused, answered-passed, answered-failed}
use Rattle.planner.proofs.calls.trial.Goals as goal

pub returns-then-total_of-level : goal.returns-then-total_of-level
returns-then-total_of-level c =
    let total-by = c.total_of.ensures ∙ total-reads (c.lay-a.ensures.each _ c.jobs-jobs.ensures).stands.reads in
    trial-answered c.requires.book (answered-refused _ _ (omega (arith, c.if-total_of-level.true, total-by)))

pub overflow_add-limit : goal.overflow_add-limit
overflow_add-limit c =
    let r = (c.lay-a.ensures.each _ c.jobs-jobs.ensures).stands.reads in
    let within = level-within r c.total_of.ensures c.if-total_of-level.false in
    omega (arith, within, c.longest_of.ensures ∙ longest-reads r, total-small r.small, longest-small r.small)

pub try_level-t-requires : goal.try_level-t-requires
try_level-t-requires c =
    let l = c.lay-a.ensures.each _ c.jobs-jobs.ensures in
    (_, l.stands, limit-is c.args.level l.stands.reads c.longest_of.ensures)

pub front-requires : goal.front-requires
front-requires c = omega (arith, c.batches.ensures, view-batches c.args.sheet c.requires)

pub returns-in-None : goal.returns-in-None
returns-in-None c =
    let k = book_of c.args.sheet in
    let l = c.lay-a.ensures.each _ c.jobs-jobs.ensures in
    let r = l.stands.reads in
    let within = level-within r c.total_of.ensures c.if-total_of-level.false in
    let y = c.try_level-t.ensures _ l.stands (limit-is c.args.level r c.longest_of.ensures) in
    trial-answered c.requires.book
    (answered-passed k _ within l.shown y c.in-None.is (omega (arith, batches-first k, r.jobs)) _
    (c.front.ensures ∙ ap (λ (j : ℕ). padded 200 (take j c.try_level-t.result.end.places)) c.batches.ensures))

pub returns-in-Some : goal.returns-in-Some
returns-in-Some c =
    let l = c.lay-a.ensures.each _ c.jobs-jobs.ensures in
    let r = l.stands.reads in
    let within = level-within r c.total_of.ensures c.if-total_of-level.false in
    let y = c.try_level-t.ensures _ l.stands (limit-is c.args.level r c.longest_of.ensures) in
    trial-answered c.requires.book
    (answered-failed _ _ within l.shown y c.in-Some.is _ r.machines r.few _ c.members_of.ensures)
