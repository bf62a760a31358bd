-- A trial, at any limits and from wherever it may start, ends because nothing acts any more, never because its steps were
-- counted out, and its counts keep their bounds.
use Prim.Native.Nat.{◌+◌, ◌*◌, ◌≤◌}
use mathlib.Core.Path.{◌≡◌, refl}
use native.Mathlib.Omega.{arith}
use lib.ListN.{length}
use Rattle.rules.specs.Fold.{sum_to}
use Rattle.rules.specs.Instance.{Instance, Assignment, n, list_of}
use Rattle.rules.specs.Trial.{Limits, State, rest, act, after, start, ended_by, lift_bound, push_bound}
use Rattle.theory.proofs.Valid.{Partial}
use Rattle.theory.proofs.Heights.{Shape, shape-step, shape-start}
use Rattle.theory.proofs.Caps.{Caps, caps-step, caps-start}
use Rattle.theory.proofs.Lifts.{climbed, lifts-step, lifts-bound}
use Rattle.theory.proofs.Pushes.{turned, pushes-step, pushes-bound, pushes-tight}
use Rattle.theory.proofs.Steps.{made, run-keeps, run-rests}

pub record Counted (I : Instance) (s : State) : Type 0 where
  pub shape : Shape I s
  pub caps : Caps I s
  pub lifts : s.lifts ≤ climbed I s
  pub pushes : s.pushes ≤ turned I s.assignment s.machine_heights s.job_heights

pub counted_step : (I : Instance) (a : Limits) (s : State) → Counted I s → Counted I (after s (act I a s))
counted_step I a s v = record {
  shape = shape-step I a s v.shape;
  caps = caps-step I a s v.shape v.caps;
  lifts = lifts-step I a s v.shape v.caps v.lifts;
  pushes = pushes-step I a s v.shape v.pushes;
}

pub made-bound : (I : Instance) (s : State) → Counted I s → made s ≤ lift_bound I + push_bound I
made-bound I s v = omega (arith, lifts-bound I s v.lifts, pushes-bound I s v.caps v.pushes)

module _ (I : Instance) (x : Assignment) (w : Partial I x) (a : Limits) where
  pub counted_start : Counted I (start I x)
  counted_start = record { shape = shape-start I x w; caps = caps-start I x; lifts = omega arith; pushes = omega arith }

  pub counted-end : Counted I (ended_by I x a)
  unfolding ended_by
  counted-end = run-keeps I a (Counted I) (counted_step I a) (lift_bound I + push_bound I) (start I x) counted_start

  -- nothing acts at the end
  pub trial-rests : act I a (ended_by I x a) ≡ rest
  unfolding ended_by
  trial-rests =
      run-rests I a (Counted I) (counted_step I a) (lift_bound I + push_bound I) (made-bound I) (start I x) counted_start refl

  -- the bounds of document 01, and a tighter one for the pushes
  pub trial-lifts : (ended_by I x a).lifts ≤ lift_bound I
  trial-lifts = lifts-bound I (ended_by I x a) counted-end.lifts

  pub trial-pushes : (ended_by I x a).pushes ≤ push_bound I
  trial-pushes = pushes-bound I (ended_by I x a) counted-end.caps counted-end.pushes

  pub trial-pushes-tight : (ended_by I x a).pushes ≤ (2 * I.m + 3) * sum_to (n I) (λ b. length (list_of I b))
  trial-pushes-tight = pushes-tight I (ended_by I x a) counted-end.caps counted-end.pushes
