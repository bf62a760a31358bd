use Prim.Native.Nat.{ℕ}
use mathlib.Core.Path.{sym, ap, ◌∙◌}
use mathlib.Core.List.{List, [], ◌∷◌, ◌++◌, append_assoc, append-nil}
use native.Mathlib.Omega.{arith}
use Rattle.text.proofs.Numbers.{each_more}
use Rattle.journal.specs.Answering.{answer_with, said}
use Rattle.journal.proofs.Extending.{one-more, more-room}
use Rattle.journal.proofs.answer.Answer.extend.Goals as goal

pub loop-x-init : goal.loop-x-init
loop-x-init g c = ([], tt, c.requires.1 ∙ ap (λ (l : List ℕ). answer_with l c.args.self.now.settle) (sym (append-nil (said c.args.self.now))))

pub bounds-self-self : goal.bounds-self-self
bounds-self-self g c =
    let h = c.loop-x.invariant in
    (more-room g.T.Into.converts c.args.part.now c.args.self.now c.loop-x.self h.0 c.loop-x.x-index c.requires.1 c.requires.0 c.loop-x-test.true h.1 h.2).0

pub offset_bounds-self-self : goal.offset_bounds-self-self
offset_bounds-self-self g c =
    let h = c.loop-x.invariant in
    omega (arith, (more-room g.T.Into.converts c.args.part.now c.args.self.now c.loop-x.self h.0 c.loop-x.x-index c.requires.1 c.requires.0 c.loop-x-test.true h.1 h.2).0)

pub loop-x-preserved : goal.loop-x-preserved
loop-x-preserved g c =
    let h = c.loop-x.invariant in
    let i = c.loop-x.x-index in
    let a = c.args.self.now in
    let x = c.into.result in
    let r = more-room g.T.Into.converts c.args.part.now a c.loop-x.self h.0 i c.requires.1 c.requires.0 c.loop-x-test.true h.1 h.2 in (
      h.0 ++ (x ∷ []),
      each_more g.T.Into.converts c.args.part.now h.0 i _ x c.loop-x-test.true c.x-item.is h.1 c.into.ensures,
      one-more (said a ++ h.0) a.settle c.loop-x.self x h.2 r.1 ∙ ap (λ (l : List ℕ). answer_with l a.settle) (append_assoc (said a) h.0 (x ∷ [])),
    )
