-- The loads of the machines, one job after another.
use Prim.Native.Nat.{ℕ, zero, suc, ◌+◌, ◌-◌, ◌*◌, ◌≤◌, ◌<◌}
use mathlib.Core.Path.{◌≡◌, refl, sym, ap₂, ◌∙◌}
use mathlib.Core.List.{List}
use mathlib.Core.Logic.{◌≢◌}
use native.Mathlib.Numerals.{add-one}
use native.Mathlib.Omega.{arith}
use native.Mathlib.Decide.{ℕ_discrete}
use lib.ListN.{get_or, set, length, replicate, get_or-replicate, length-replicate}
use lib.Dec.{eqb}
use borrow.Author.Tests.{eq-eqb, ne_eqb}
use Rattle.rules.specs.Fold.{pick, at, put, sum_to}
use Rattle.theory.proofs.Logic.{by_test}
use Rattle.arrays.proofs.Entries.{at_small, at-index, put-index}
use Rattle.theory.proofs.Fold.{at-put-same, at-put-other, length-put, sum_to-bound}

module _ (minutes places : List ℕ) (m : ℕ) where
  -- what job b adds to machine i
  abbrev pub minutes_on : ℕ → ℕ → ℕ
  minutes_on i b = pick (eqb (at places b) i) (at minutes b) 0

  -- the loads by the first b jobs
  pub record Loaded (b : ℕ) (loads : List ℕ) : Type 0 where
    pub long : length loads ≡ 24
    pub on : (i : ℕ) → 0 < i → i ≤ m → at loads i ≡ sum_to b (λ j. minutes_on i j)
    pub past : (i : ℕ) → m < i → i ≤ 24 → at loads i ≡ 0

  zeros : (i : ℕ) → i ≤ 24 → at (replicate 24 0) i ≡ 0
  zeros zero u = refl
  zeros (suc k) u = get_or-replicate 24 k 0 0 u

  pub loaded-none : m ≤ 24 → Loaded 0 (replicate 24 0)
  unfolding sum_to
  loaded-none h = record {
    long = length-replicate {A = ℕ} 24 0;
    on = λ i l u. zeros i (omega arith);
    past = λ i l u. zeros i u;
  }

  share-on : (i b : ℕ) → at places b ≡ i → minutes_on i b ≡ at minutes b
  share-on i b e = rw (eq-eqb (at places b) i e)

  share-off : (i b : ℕ) → at places b ≢ i → minutes_on i b ≡ 0
  share-off i b n = rw (ne_eqb (at places b) i n)

  -- a job on machine k adds to its entry
  loaded-add : (b k : ℕ) (loads : List ℕ) → at places (suc b) ≡ k → 0 < k → k ≤ m → m ≤ 24
      → Loaded b loads → Loaded (suc b) (put loads k (at loads k + at minutes (suc b)))
  unfolding sum_to
  loaded-add b k loads e l u h r = record {
    long = length-put loads k _ ∙ r.long;
    on = λ i i0 im.
        elim (ℕ_discrete i k) [
          | yes q ↦
              rw q
              (at-put-same loads k _ l (omega (arith, r.long))
              ∙ ap₂ ◌+◌ (r.on k l u) (sym (share-on k (suc b) e)))
          | no ne ↦
              at-put-other loads k i _ ne
              ∙ omega (arith, r.on i i0 im, share-off i (suc b) (λ z. ne (sym z ∙ e)))
        ];
    past = λ i i0 im. at-put-other loads k i _ (λ z. omega arith) ∙ r.past i i0 im;
  }

  -- by index: the job at index b, of w minutes, whose place is the number p of a machine
  pub loaded-enter : (b p : ℕ) (loads : List ℕ) (w : ℕ) → p ≡ get_or places b 0 → w ≡ get_or minutes b 0 → 0 < p → p ≤ m → m ≤ 24 → Loaded b loads
      → Loaded (b + 1) (set loads (p - 1) (get_or loads (p - 1) 0 + w))
  loaded-enter b p loads w z e l u h r =
      rw (add-one b, e, ← put-index loads p (get_or loads (p - 1) 0 + get_or minutes b 0) l, ← at-index loads p l) (loaded-add b p loads (sym z) l u h r)

  -- a job on no machine adds nothing
  pub loaded-skip : (b : ℕ) (loads : List ℕ) → ((i : ℕ) → 0 < i → i ≤ m → at places (suc b) ≢ i)
      → Loaded b loads → Loaded (b + 1) loads
  unfolding sum_to
  loaded-skip b loads n r = rw (add-one b) record {
    long = r.long;
    on = λ i l u. omega (arith, r.on i l u, share-off i (suc b) (n i l u));
    past = r.past;
  }

  -- each load so far is at most that of b jobs of c minutes
  pub loaded-bound : (b k c : ℕ) (loads : List ℕ) → 0 < k → k ≤ m → ((j : ℕ) → get_or minutes j 0 ≤ c)
      → Loaded b loads → get_or loads (k - 1) 0 ≤ b * c
  loaded-bound b k c loads l u h r =
      omega (arith, at-index loads k l, r.on k l u, sum_to-bound b (λ j. minutes_on k j) c (λ j p q. small j))
    where
      small : (j : ℕ) → minutes_on k j ≤ c
      small j =
          by_test (eqb (at places j) k)
          (λ t. rw t (at_small minutes c h j))
          (λ t. rw t (omega arith))
