-- What the theorems ask of an instance and of an assignment. A sound book gives both (Sound).
use Prim.Native.Nat.{ℕ, zero, suc, ◌≤◌, ◌<◌}
use mathlib.Core.Path.{◌≡◌, refl}
use mathlib.Core.Bool.{true}
use mathlib.Core.List.{List, [], ◌∷◌}
use native.Mathlib.Omega.{arith}
use lib.ListN.{length, get_or}
use lib.Dec.{eqb}
use borrow.Author.Tests.{eqb-true, eq-eqb}
use Rattle.rules.specs.Fold.{at, mem}
use Rattle.rules.specs.Instance.{Instance, Assignment, Job, no_job, n, minutes_of, eligible}
use Rattle.rules.specs.Load.{permitted}
use Rattle.theory.proofs.Logic.{conflict, and_left, and_right, and-mk}
use Rattle.theory.proofs.View.{all-at, all-mk}

-- each job takes a minute or more, and lists name machines
pub record Valid (I : Instance) : Type 0 where
  pub minutes : (b : ℕ) → 0 < b → b ≤ n I → 0 < minutes_of I b
  pub ranged : (b i : ℕ) → eligible I b i ≡ true → (0 < i) × (i ≤ I.m)

-- each job has one machine, and may run there
pub record Permitted (I : Instance) (x : Assignment) : Type 0 where
  pub size : length x ≡ n I
  pub listed : (b : ℕ) → 0 < b → b ≤ n I → eligible I b (at x b) ≡ true

-- each job has one machine that may run it, or none: where a trial may start
pub record Partial (I : Instance) (x : Assignment) : Type 0 where
  pub size : length x ≡ n I
  pub listed : (b i : ℕ) → 0 < i → at x b ≡ i → eligible I b i ≡ true

pub permitted-is : (I : Instance) (x : Assignment) → permitted I x ≡ true → Permitted I x
unfolding permitted
permitted-is I x e = record {
  size = eqb-true _ _ (and_left _ _ e);
  listed = λ b p q. all-at (n I) _ b p q (and_right (eqb (length x) (n I)) _ e);
}

pub is-permitted : (I : Instance) (x : Assignment) → Permitted I x → permitted I x ≡ true
unfolding permitted
is-permitted I x v = and-mk _ _ (eq-eqb _ _ v.size) (all-mk (n I) _ v.listed)

-- a job that is no job of the instance has no machine
past_end : (l : List Job) (b i : ℕ) → mem i (get_or l b no_job).list ≡ true → b < length l
unfolding mem
past_end [] b i e = conflict e refl
past_end (j ∷ l) zero i e = omega arith
past_end (j ∷ l) (suc b) i e = let r = past_end l b i e in omega arith

pub eligible-job : (I : Instance) (b i : ℕ) → eligible I b i ≡ true → (0 < b) × (b ≤ n I)
unfolding mem
eligible-job I zero i e = conflict e refl
eligible-job I (suc b) i e = (omega arith, past_end I.jobs b i e)

module _ {I : Instance} {x : Assignment} (v : Valid I) (w : Permitted I x) where
  -- an assigned job is on a machine, and on its list
  pub on-machine : (b : ℕ) → 0 < b → b ≤ n I → (0 < at x b) × (at x b ≤ I.m)
  on-machine b p q = v.ranged b (at x b) (w.listed b p q)
