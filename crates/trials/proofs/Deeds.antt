-- What an item does, by the two searches that its step makes: for the lowest end just below it, and else for the lowest end of all.
use Prim.Native.Nat.{ℕ, zero, suc, ◌<◌}
use mathlib.Core.Path.{◌≡◌, refl, sym}
use mathlib.Core.Bool.{Bool, true}
use mathlib.Core.List.{List}
use native.Mathlib.Omega.{arith}
use lib.ListN.{get_or}
use Rattle.std.proofs.Common.{Some, None}
use Rattle.std.specs.Option.{IsSome}
use Rattle.rules.specs.Fold.{at, least_to}
use Rattle.rules.specs.Trial.{push, lift, can, deed}
use Rattle.theory.proofs.Acting.{below, deed-pushes, deed-lifts}
use Rattle.theory.proofs.Agree.{first_found, least-le}
use Rattle.arrays.specs.Found.{found}
use Rattle.arrays.proofs.Found.{found_some, found_none}

is-some : (k : ℕ) → 0 < k → IsSome (found k)
is-some zero h = absurd (omega arith)
is-some (suc k) h = refl

-- with arcs from 1 to c, to ends of heights `high`, from one of height h
module _ (c : ℕ) (arc : ℕ → Bool) (high : List ℕ) (h : ℕ) where
  pub push-found : (i : ℕ) → Some i ≡ found (below c arc (at high) h) → (i < c) × (deed c arc (at high) h ≡ push (suc i))
  push-found i e =
      let z = found_some (sym e) in
      ((first_found c _ i z).within, deed-pushes c arc (at high) h i z)

  module _ (acts : can (deed c arc (at high) h) ≡ true) (e : None ≡ found (below c arc (at high) h)) where
    lifts : (deed c arc (at high) h ≡ lift (suc (at high (least_to c arc (at high))))) × (0 < least_to c arc (at high))
    lifts = deed-lifts c arc (at high) h (found_none (sym e)) acts

    pub least-some : IsSome (found (least_to c arc (at high)))
    least-some = is-some _ lifts.1

    pub lift-least : (k : ℕ) → Some k ≡ found (least_to c arc (at high)) → (k < c) × (deed c arc (at high) h ≡ lift (suc (get_or high k 0)))
    lift-least k f =
        let z = found_some (sym f) in
        (omega (arith, z, least-le c arc (at high)), rw z at lifts.0)
