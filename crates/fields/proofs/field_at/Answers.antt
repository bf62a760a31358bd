-- Where nothing is left from there on. What the slice gives, the check finds.
use native.Mathlib.Omega.{arith}
use lib.ListN.{drop_of_length-le}
use Rattle.rules.specs.Field.{field}
use Rattle.fields.proofs.field_at.Goals as goal

pub returns-then-s-at : goal.returns-then-s-at
unfolding field
returns-then-s-at c = rw (drop_of_length-le c.args.s.now {i = c.args.at} (omega (arith, c.if-s-at.true)))
