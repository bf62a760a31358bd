-- A trial at the limits of its level, and what its end says.
use mathlib.Core.Path.{refl}
use borrow.Author.Rules.{rules}
use Rattle.trials.proofs.Verdict.{starts, tries-pass, over-in, tries-fail}
use Rattle.trials.proofs.trial.try_level.Goals as goal

pub run-s-requires-clause-starts : goal.run-s-requires-clause-starts
run-s-requires-clause-starts c = let (I, w, e) = c.requires in (I, _, starts w _ _ e _ refl refl)

pub group_of-requires : goal.group_of-requires
group_of-requires c =
    let (I, w, e) = c.requires in
    (search rules, search rules, search rules, over-in w _ _ e (c.run-s.ensures I _ (starts w _ _ e _ refl refl)) _ c.in-Some.ensures)

pub returns-in-Some : goal.returns-in-Some
returns-in-Some c = λ I w e.
    let d = c.run-s.ensures I _ (starts w _ _ e _ refl refl) in
    tries-fail w _ _ e d _ c.in-Some.ensures _ (c.group_of.ensures I _ w.reads)

pub returns-in-None : goal.returns-in-None
returns-in-None c = λ I w e. tries-pass w _ _ e (c.run-s.ensures I _ (starts w _ _ e _ refl refl)) c.in-None.ensures
