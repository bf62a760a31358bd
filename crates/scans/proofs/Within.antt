-- The minutes confined to a group, job after job by their marks, and the bound that the group shows.
use Prim.Native.Nat.{ℕ, zero, suc, ◌+◌, ◌-◌, ◌*◌, ◌/◌, ◌%◌, ◌≤◌, ◌<◌, min}
use mathlib.Core.Path.{◌≡◌, refl, sym, ap₂, ◌∙◌}
use mathlib.Core.Bool.{Bool, true, false}
use mathlib.Core.List.{List, [], ◌∷◌}
use native.Mathlib.Nat.{mod-lt, suc-mul}
use native.Mathlib.Omega.{arith}
use native.Mathlib.Decide.{ℕ_discrete}
use lib.ListN.{length, get_or, take, drop}
use borrow.Author.Tests.{le-leb}
use Rattle.rules.specs.Fold.{pick, at, most, every, sum_to}
use Rattle.rules.specs.Sheet.{is_instrument}
use Rattle.rules.specs.Instance.{Instance, n, minutes_of, list_of}
use Rattle.rules.specs.Load.{longest}
use Rattle.rules.specs.LowerBound.{within, confined, ceil_div, share, lower_bound}
use Rattle.rules.specs.Marks.{marks_of}
use Rattle.std.proofs.lemmas.Nat.{div-add-mod', div-mul-add}
use Rattle.theory.proofs.Fold.{sum_to-ext, sum_to-bound}
use Rattle.theory.proofs.Logic.{and-mk, by_test}
use Rattle.arrays.proofs.Entries.{at_small}
use Rattle.scans.proofs.MarkWords.{lies}
use Rattle.theory.proofs.Member.{every-mk}
use Rattle.arrays.specs.Reads.{Reads}
use Rattle.scans.specs.Marks.{Marked, covered}

-- ---- confined minutes

-- the marks of job number b lie in the group's
abbrev pub lies_in : List ℕ → List ℕ → ℕ → Bool
lies_in marks group zero = false
lies_in marks group (suc b) = covered 24 (take 24 (drop (b * 24) marks)) group

-- the minutes of those of the first c jobs whose marks do
abbrev pub marked_minutes : List ℕ → List ℕ → List ℕ → ℕ → ℕ
marked_minutes lengths marks group c = sum_to c (λ b. pick (lies_in marks group b) (at lengths b) 0)

pub marked-small : (lengths marks group : List ℕ) (c : ℕ) → c ≤ 224 → ((k : ℕ) → get_or lengths k 0 ≤ 65535)
    → marked_minutes lengths marks group c ≤ 14679840
marked-small lengths marks group c u h =
    let r = sum_to-bound c (λ b. pick (lies_in marks group b) (at lengths b) 0) 65535 (λ b l v. small b) in
    omega (arith, r)
  where
    small : (b : ℕ) → pick (lies_in marks group b) (at lengths b) 0 ≤ 65535
    small b = by_test (lies_in marks group b) (λ t. rw t (at_small lengths 65535 h b)) (λ t. rw t (omega arith))

module _ {I : Instance} {m c : ℕ} {lengths sets : List ℕ} (r : Reads I m c lengths sets) (marks : List ℕ) (w : Marked I c marks) (list : List ℕ)
    {group : List ℕ} (e : group ≡ marks_of list) where
  few : (b : ℕ) → every (is_instrument 24) (list_of I b) ≡ true
  unfolding is_instrument
  few b =
      every-mk (is_instrument 24) (list_of I b)
      (λ i t. let z = r.valid.ranged b i t in
      and-mk _ _ (le-leb 1 i z.0) (le-leb i 24 (omega (arith, r.machines, r.few))))

  pub marked-confined : marked_minutes lengths marks group c ≡ confined I list
  unfolding confined
  marked-confined = sum_to-ext c _ _ each ∙ (rw r.jobs refl)
    where
      each : (b : ℕ) → 0 < b → b ≤ c → pick (lies_in marks group b) (at lengths b) 0 ≡ pick (within (list_of I b) list) (minutes_of I b) 0
      each zero l u = absurd (omega arith)
      each (suc b) l u = rw ((lies refl).within _ list (few (suc b)) (w b u) e, r.minutes (suc b) l u)

-- ---- the bound

pub bound-none : (I : Instance) (list : List ℕ) → length list ≡ 0 → lower_bound I list ≡ longest I
unfolding lower_bound
bound-none I [] e = refl
bound-none I (i ∷ list) e = absurd (omega arith)

bound_some : (I : Instance) (list : List ℕ) → (length list ≡ 0 → ⊥) → lower_bound I list ≡ most (longest I) (ceil_div (confined I list) (length list))
unfolding lower_bound share
bound_some I [] h = absurd (h refl)
bound_some I (i ∷ list) h = refl

pub bound-is : (I : Instance) (list : List ℕ) (w x d s : ℕ) → (d ≡ 0 → ⊥) → w ≡ longest I → x ≡ confined I list
    → d ≡ length list → s ≡ ceil_div x d → lower_bound I list ≡ most w s
bound-is I list w x d s h e f g k = bound_some I list (λ z. h (g ∙ z)) ∙ sym (ap₂ most e (k ∙ ap₂ ceil_div f g))

-- ---- a share, rounded up

pub rounds-up : (x d : ℕ) → 0 < d → x / d + min 1 (x % d) ≡ ceil_div x d
rounds-up x d h =
    let q = x / d in
    let e : q * d + x % d ≡ x = div-add-mod' x d in
    let l : x % d < d = mod-lt x h in
    let m : suc q * d ≡ q * d + d = suc-mul q d in
    elim (ℕ_discrete (x % d) 0) [
      | yes z ↦
          let y : x + d - 1 ≡ q * d + (d - 1) = omega arith in
          rw y (omega (arith, div-mul-add q d (d - 1) (omega arith)))
      | no n ↦
          let y : x + d - 1 ≡ suc q * d + (x % d - 1) = omega arith in
          rw y (omega (arith, div-mul-add (suc q) d (x % d - 1) (omega arith)))
    ]
