-- The total and the longest of the minutes that arrays say.
use Prim.Native.Nat.{ℕ}
use mathlib.Core.Path.{◌≡◌, sym, ap, ◌∙◌}
use mathlib.Core.List.{List}
use Rattle.rules.specs.Fold.{at, sum_to, max_to}
use Rattle.rules.specs.Instance.{Instance, minutes_of}
use Rattle.rules.specs.Load.{total, longest}
use Rattle.theory.proofs.Fold.{sum_to-ext, max_to-ext}
use Rattle.arrays.specs.Reads.{Reads}

module _ {I : Instance} {m c : ℕ} {lengths sets : List ℕ} (r : Reads I m c lengths sets) where
  pub total-reads : sum_to c (λ b. at lengths b) ≡ total I
  unfolding total
  total-reads = sum_to-ext c _ _ r.minutes ∙ ap (λ (k : ℕ). sum_to k (λ b. minutes_of I b)) (sym r.jobs)

  pub longest-reads : max_to c (λ b. at lengths b) ≡ longest I
  unfolding longest
  longest-reads = max_to-ext c _ _ r.minutes ∙ ap (λ (k : ℕ). max_to k (λ b. minutes_of I b)) (sym r.jobs)
