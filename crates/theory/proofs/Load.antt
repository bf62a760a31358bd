-- What one job put elsewhere does to the loads.
use Prim.Native.Nat.{ℕ, ◌+◌, ◌≤◌, ◌<◌}
use mathlib.Core.Path.{◌≡◌, ap, ◌∙◌}
use native.Mathlib.Omega.{arith}
use lib.ListN.{length}
use lib.Dec.{eqb}
use Rattle.rules.specs.Fold.{pick, at, put}
use Rattle.rules.specs.Instance.{Instance, Assignment, n, minutes_of}
use Rattle.rules.specs.Load.{load}
use Rattle.theory.proofs.Fold.{at-put-same, at-put-other, sum_to-one}

-- job b's part in the load of machine i
abbrev pub part : Instance → Assignment → ℕ → ℕ → ℕ
part I x i b = pick (eqb (at x b) i) (minutes_of I b) 0

-- one job put anew: the load where it was loses its minutes, and the load where it goes gains them
pub load-put : (I : Instance) (x : Assignment) (b v i : ℕ) → length x ≡ n I → 0 < b → b ≤ n I
    → load I (put x b v) i + part I x i b ≡ load I x i + pick (eqb v i) (minutes_of I b) 0
unfolding load
load-put I x b v i hl p q =
    let e : at (put x b v) b ≡ v = at-put-same x b v p (omega arith) in
    sum_to-one (n I) (part I (put x b v) i) (part I x i) b p q (λ j ne. rw (at-put-other x b j v))
    ∙ ap (λ (y : ℕ). load I x i + pick (eqb y i) (minutes_of I b) 0) e
