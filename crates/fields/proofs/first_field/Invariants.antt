-- The invariant: the columns so far give f, which fits them, and what is left goes on from it as the rules do.
use Prim.Native.Nat.{◌^◌}
use mathlib.Core.Path.{◌≡◌}
use lib.ListN.{take, drop}
use Rattle.rules.specs.Field.{blanks}
use Rattle.fields.specs.Columns.{below}
use Rattle.fields.proofs.Columns.{field_after}
use Rattle.fields.proofs.first_field.Given as goal

abbrev pub invariant-loop-b : goal.invariant-loop-b
invariant-loop-b l = below (10 ^ l.b-index) l.f × (field_after l.f (drop l.b-index (take 6 l.s)) ≡ blanks (take 6 l.s))
