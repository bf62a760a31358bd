-- The first numbers are written, each as what it converts to.
use Rattle.std.proofs.Common.{ℕ, List, ◌*◌, take}
use Rattle.std.specs.List.{AllZip}
use Rattle.rules.specs.Render.{fields}
use Rattle.text.proofs.Pasted.{Wrote}
use Rattle.text.proofs.put_fields.Given as goal

abbrev pub invariant-loop-i : goal.invariant-loop-i
invariant-loop-i g l =
    (values : List ℕ) × AllZip g.T.Into.converts (take l.i l.numbers) values × Wrote l.initial.out l.at (fields values) (6 * l.i) l.out
