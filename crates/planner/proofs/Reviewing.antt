-- Review over arrays: loads that were added up are the rules', and so are their list and the greatest of them.
use Prim.Native.Nat.{ℕ, ◌≤◌, ◌<◌}
use mathlib.Core.Path.{◌≡◌, refl, sym, ap, ◌∙◌}
use mathlib.Core.List.{List}
use native.Mathlib.Omega.{arith}
use lib.ListN.{length, take}
use Rattle.std.specs.Prelude.{Bool, Option, Some}
use Rattle.theory.proofs.Agree.{first-le}
use Rattle.arrays.proofs.Found.{found_some}
use lib.Dec.{eqb}
use Rattle.rules.specs.Fold.{pick, at, sum_to, max_to, first_to, list_to}
use Rattle.rules.specs.Instance.{Instance, minutes_of}
use Rattle.rules.specs.Load.{load, makespan, improves, review}
use Rattle.theory.proofs.Fold.{sum_to-ext, max_to-ext}
use Rattle.theory.proofs.Entries.{take-list}
use Rattle.arrays.specs.Reads.{Reads}
use Rattle.arrays.specs.Found.{found}
use Rattle.arrays.specs.Jobs.{Says}
use Rattle.arrays.specs.declared.Jobs.{Jobs}
use Rattle.arrays.specs.declared.Placement.{Placement}
use Rattle.trials.specs.Attempt.{Standing}
use Rattle.settling.specs.Settling.{Placing, Known, ReviewIs}
use Rattle.arrays.proofs.Take.{at_take}

module _ {I : Instance} {m c : ℕ} {lengths sets : List ℕ} (r : Reads I m c lengths sets) where
  -- loads that were added up over the places
  pub added-loads : (places loads : List ℕ)
      → ((i : ℕ) → 0 < i → i ≤ m → at loads i ≡ sum_to c (λ b. pick (eqb (at places b) i) (at lengths b) 0))
      → (i : ℕ) → 0 < i → i ≤ m → at loads i ≡ load I (take c places) i
  unfolding load
  added-loads places loads h i l v =
      h i l v
      ∙ sum_to-ext c _ _ (λ b bl bu. rw (at_take c places b bu, r.minutes b bl bu))
      ∙ ap (λ (k : ℕ). sum_to k (λ b. pick (eqb (at (take c places) b) i) (minutes_of I b) 0)) (sym r.jobs)

-- what settling asks of a placement and its jobs
pub standing-placing : {I : Instance} {j : Jobs} {p : Placement} → Standing I j p → length p.loads ≡ 24 → Placing I j p
standing-placing {I} {j} st h =
    record { permitted = st.permitted; long = omega (arith, st.reads.few, h); each = λ i l u. st.kept i l (omega (arith, st.reads.machines)) }

pub standing-known : {I : Instance} {j : Jobs} {p : Placement} → Standing I j p → length p.loads ≡ 24 → Known j p
standing-known {I} st h = record { said = record { I = I; reads = st.reads }; placing = standing-placing st h }

-- an index found is below the count
pub found-below : (n : ℕ) (p : ℕ → Bool) {o : Option ℕ} {i : ℕ} → o ≡ found (first_to n p) → o ≡ Some i → i < n
found-below n p e f = omega (arith, found_some (sym e ∙ f), first-le n p _ refl)

pub review-is : {I : Instance} {j : Jobs} {p : Placement} {greatest : ℕ} {lowest : Option ℕ} → Says I j → Placing I j p
    → greatest ≡ max_to j.m (λ i. at p.loads i) → lowest ≡ found (first_to j.n (λ b. improves I (take j.n p.places) b))
    → ReviewIs I j p greatest lowest
unfolding review makespan
review-is {I} {j} {p} r q e f = record {
  each =
      take-list j.m p.loads (λ i. load I (take j.n p.places) i) q.long q.each
      ∙ ap (λ (k : ℕ). list_to k (λ i. load I (take j.n p.places) i)) (sym r.machines);
  greatest = e ∙ max_to-ext j.m _ _ q.each ∙ ap (λ (k : ℕ). max_to k (λ i. load I (take j.n p.places) i)) (sym r.machines);
  lowest = f ∙ ap (λ (k : ℕ). found (first_to k (λ b. improves I (take j.n p.places) b))) (sym r.jobs);
}
