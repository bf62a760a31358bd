-- The records behind the two figures.
use Prim.Native.Nat.{◌+◌, ◌*◌}
use mathlib.Core.Bool.{true}
use mathlib.Core.List.{[], ◌∷◌}
use native.Mathlib.Omega.{arith}
use Rattle.journal.proofs.Extending.{fits}
use Rattle.journal.proofs.call.of_settled.Goals as goal

pub add_records-requires : goal.add_records-requires
add_records-requires c =
    let f = fits (0 ∷ c.from.result ∷ c.args.z.moves ∷ []) true c.of-answer.result (1 + 3 * c.args.c.n) c.of-answer.ensures
    (omega (arith, c.requires)) in
    (c.requires, f.0, f.1)
