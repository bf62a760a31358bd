-- The invariant: what the first numbers of the part convert to stands behind those of before.
use Prim.Native.Nat.{ℕ}
use mathlib.Core.List.{List, ◌++◌}
use mathlib.Core.Path.{◌≡◌}
use lib.ListN.{take}
use Rattle.std.specs.List.{AllZip}
use Rattle.journal.specs.Answering.{answer_with, said}
use Rattle.journal.proofs.answer.Answer.extend.Given as goal

abbrev pub invariant-loop-x : goal.invariant-loop-x
invariant-loop-x g l =
    (values : List ℕ) × AllZip g.T.Into.converts (take l.x-index l.part) values ×
    (l.self ≡ answer_with (said l.initial.self ++ values) l.initial.self.settle)
