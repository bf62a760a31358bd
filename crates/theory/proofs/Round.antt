-- Round lengths (document 02, C-12): where every length is a multiple of g, so are the longest length and every makespan, and of two
-- multiples the larger is so by g or more.
use Prim.Native.Nat.{ℕ, zero, suc, ◌+◌, ◌%◌, ◌≤◌, ◌<◌, ◌∣◌}
use mathlib.Core.Path.{◌≡◌, ap, ◌∙◌}
use mathlib.Core.Bool.{Bool, true, false}
use native.Mathlib.Nat.{le_refl, dvd-zero, dvd-add, dvd-sub, dvd_of_mod-eq-zero, le_of_dvd, mod-one, mod_self}
use native.Mathlib.Omega.{arith}
use lib.Dec.{eqb}
use borrow.Author.Tests.{eqb-true, eq-eqb, leb-true, le-leb}
use Rattle.rules.specs.Fold.{pick, at, sum_to, max_to}
use Rattle.rules.specs.Instance.{Instance, Assignment, n, minutes_of}
use Rattle.rules.specs.Load.{load, makespan, longest}
use Rattle.rules.specs.Round.{multiples, equal_lengths, close_to}
use Rattle.theory.proofs.View.{all-at, all-mk}
use Rattle.theory.proofs.Makespan.{max-some}

-- ---- the test close_to, as an inequality

pub close-mk : (I : Instance) (g v w : ℕ) → v + g ≤ w + longest I → close_to I g v w ≡ true
unfolding close_to
close-mk I g v w h = le-leb _ _ h

pub close-le : (I : Instance) (g v w : ℕ) → close_to I g v w ≡ true → v + g ≤ w + longest I
unfolding close_to
close-le I g v w e = leb-true _ _ e

-- ---- multiples

-- of two multiples of g, the larger is so by g or more
pub multiples-apart : (g a b : ℕ) → g ∣ a → g ∣ b → a < b → a + g ≤ b
multiples-apart g a b p q l = let r = le_of_dvd (omega arith) (dvd-sub _ q p) in omega arith

sum-multiple : (g k : ℕ) (f : ℕ → ℕ) → ((i : ℕ) → 0 < i → i ≤ k → g ∣ f i) → g ∣ sum_to k f
unfolding sum_to
sum-multiple g zero f h = dvd-zero g
sum-multiple g (suc k) f h =
    dvd-add _ (sum-multiple g k f (λ i l u. h i l (omega arith))) (h (suc k) (omega arith) (le_refl (suc k)))

max-multiple : (g k : ℕ) (f : ℕ → ℕ) → ((i : ℕ) → 0 < i → i ≤ k → g ∣ f i) → g ∣ max_to k f
unfolding max_to
max-multiple g zero f h = dvd-zero g
max-multiple g (suc k) f h = let r = max-some (suc k) f (omega arith) in rw r.3 at (h r.0 r.1 r.2)

pick-multiple : (g v : ℕ) (t : Bool) → g ∣ v → g ∣ pick t v 0
pick-multiple g v true h = h
pick-multiple g v false h = dvd-zero g

-- ---- every length a multiple of g

module _ (I : Instance) (g : ℕ) (e : multiples I g ≡ true) where
  length-multiple : (b : ℕ) → 0 < b → b ≤ n I → g ∣ minutes_of I b
  unfolding multiples
  length-multiple b l u = dvd_of_mod-eq-zero _ (eqb-true _ _ (all-at (n I) _ b l u e))

  pub longest-multiple : g ∣ longest I
  unfolding longest
  longest-multiple = max-multiple g (n I) _ length-multiple

  pub load-multiple : (x : Assignment) (i : ℕ) → g ∣ load I x i
  unfolding load
  load-multiple x i = sum-multiple g (n I) _ (λ b l u. pick-multiple g _ (eqb (at x b) i) (length-multiple b l u))

  pub makespan-multiple : (x : Assignment) → g ∣ makespan I x
  unfolding makespan
  makespan-multiple x = max-multiple g I.m _ (λ i l u. load-multiple x i)

-- ---- the two ends: every number is a multiple of 1, and equal lengths are multiples of the longest

pub multiples-one : (I : Instance) → multiples I 1 ≡ true
unfolding multiples
multiples-one I = all-mk (n I) _ (λ b l u. eq-eqb _ _ (mod-one (minutes_of I b)))

pub multiples-equal : (I : Instance) → equal_lengths I ≡ true → multiples I (longest I) ≡ true
unfolding multiples equal_lengths
multiples-equal I e =
    all-mk (n I) _ (λ b l u. eq-eqb _ _ (ap (λ v. v % longest I) (eqb-true _ _ (all-at (n I) _ b l u e)) ∙ mod_self (longest I)))
