-- One job put on another machine: the two loads that change, and what stays permitted.
use Prim.Native.Nat.{ℕ, ◌+◌, ◌≤◌, ◌<◌}
use mathlib.Core.Path.{◌≡◌, refl, sym, ap, ◌∙◌}
use mathlib.Core.Bool.{true}
use mathlib.Core.Logic.{◌≢◌}
use native.Mathlib.Omega.{arith}
use native.Mathlib.Decide.{ℕ_discrete}
use lib.ListN.{length}
use borrow.Author.Tests.{eq-eqb, ne_eqb}
use Rattle.rules.specs.Fold.{at, put}
use Rattle.rules.specs.Instance.{Instance, Assignment, n, minutes_of, eligible}
use Rattle.rules.specs.Load.{load}
use Rattle.theory.proofs.Fold.{length-put, at-put-same, at-put-other}
use Rattle.theory.proofs.Valid.{Permitted}
use Rattle.theory.proofs.Load.{load-put}

module _ (I : Instance) (x : Assignment) (b j : ℕ) (size : length x ≡ n I) (l : 0 < b) (u : b ≤ n I) where
  -- the load that the job leaves
  pub load-left : at x b ≢ j → load I (put x b j) (at x b) + minutes_of I b ≡ load I x (at x b)
  load-left ne =
      let r = load-put I x b j (at x b) size l u in
      omega (arith, rw (eq-eqb (at x b) (at x b) refl, ne_eqb j (at x b) (λ e. ne (sym e))) at r)

  -- the load that it joins
  pub load-joined : at x b ≢ j → load I (put x b j) j ≡ load I x j + minutes_of I b
  load-joined ne =
      let r = load-put I x b j j size l u in
      omega (arith, rw (ne_eqb (at x b) j ne, eq-eqb j j refl) at r)

  -- a load that it neither leaves nor joins
  pub load-other : (i : ℕ) → i ≢ at x b → i ≢ j → load I (put x b j) i ≡ load I x i
  load-other i p q =
      let r = load-put I x b j i size l u in
      omega (arith, rw (ne_eqb (at x b) i (λ e. p (sym e)), ne_eqb j i (λ e. q (sym e))) at r)

pub put-permitted : {I : Instance} {x : Assignment} (b j : ℕ) → Permitted I x → eligible I b j ≡ true → Permitted I (put x b j)
put-permitted {I} {x} b j w e = record {
  size = length-put x b j ∙ w.size;
  listed = λ c l u. elim (ℕ_discrete c b) [
    | yes q ↦ rw q (ap (λ (i : ℕ). eligible I b i) (at-put-same x b j (omega arith) (omega arith)) ∙ e)
    | no ne ↦ ap (λ (i : ℕ). eligible I c i) (at-put-other x b c j ne) ∙ w.listed c l u
  ];
}
