-- One move over arrays: where the job goes, that the loads have room for it, and what places and loads are after it.
use Prim.Native.Nat.{ℕ, zero, suc, ◌+◌, ◌-◌, ◌≤◌, ◌<◌}
use mathlib.Core.Path.{◌≡◌, sym, ap, subst, ◌∙◌}
use mathlib.Core.List.{List}
use native.Mathlib.Numerals.{add-one}
use native.Mathlib.Omega.{arith}
use lib.ListN.{length, length-set, take, drop, get_or, set}
use lib.Seq.{drop-set-lt}
use Rattle.std.proofs.Common.{Some}
use Rattle.rules.specs.Fold.{at, put, least_to}
use Rattle.rules.specs.Instance.{Instance, Assignment, n, minutes_of}
use Rattle.rules.specs.Settle.{mover, target, moved}
use Rattle.theory.proofs.Fold.{at-put-same, length-put}
use Rattle.theory.proofs.Makespan.{load-ge}
use Rattle.theory.proofs.Review.{Improves}
use Rattle.theory.proofs.Settling.{mover-some, target-better, moved-permitted}
use Rattle.arrays.specs.declared.Jobs.{Jobs}
use Rattle.arrays.specs.declared.Placement.{Placement}
use Rattle.arrays.specs.Found.{found}
use Rattle.arrays.specs.Jobs.{Says}
use Rattle.arrays.specs.Reads.{Kept}
use Rattle.settling.specs.Settling.{shifted, Placing, Due, Moved}
use Rattle.arrays.proofs.Take.{at_take, take_put}
use Rattle.arrays.proofs.Entries.{at-index, put-put}
use Rattle.arrays.proofs.Kept.{kept_on, kept_off}
use Rattle.settling.proofs.Ranges.{found_some}
use Rattle.settling.proofs.Placing.{others, place_in, target_is, InRange, in-range}

-- by number
shifted-number : (l : List ℕ) (i j w : ℕ) → 0 < i
    → shifted l (i - 1) j w ≡ put (put l i (at l i - w)) (suc j) (at (put l i (at l i - w)) (suc j) + w)
shifted-number l zero j w p = absurd (omega arith)
shifted-number l (suc i) j w p = let e : suc i - 1 ≡ i = omega arith in rw e

-- they are the loads after job b goes from machine i to machine j + 1
shifted-kept : (I : Instance) (x : Assignment) (l : List ℕ) (b i j w : ℕ) → length x ≡ n I → 0 < b → b ≤ n I → I.m ≤ length l
    → Kept I x l → w ≡ minutes_of I b → at x b ≡ i → 0 < i → i ≤ I.m → j < I.m → Kept I (put x b (suc j)) (shifted l (i - 1) j w)
shifted-kept I x l b i j w size p q long k e on i0 im jm =
    rw (shifted-number l i j w i0)
    (subst (λ (y : Assignment). Kept I y (put (put l i (at l i - w)) (suc j) (at (put l i (at l i - w)) (suc j) + w))) (put-put x b 0 (suc j))
    (kept_on I (put x b 0) (put l i (at l i - w)) b (length-put x b 0 ∙ size) p q (omega (arith, length-put l i (at l i - w)))
    (kept_off I x l b size p q long k w e i on i0 im) w e (suc j) (at-put-same x b 0 p (omega arith)) (omega arith) jm))

module _ {I : Instance} (j : Jobs) (p : Placement) (r : Says I j) (d : Placing I j p) (k : ℕ) (e : mover I (take j.n p.places) ≡ suc k) where
  pub due_in : k < j.n
  due_in = omega (arith, (mover-some I (take j.n p.places) k e).0, r.jobs)

  improving : Improves I (take j.n p.places) (suc k)
  improving = (mover-some I (take j.n p.places) k e).1

  goes : least_to j.m (λ i. others j p (suc k) i) (λ i. at p.loads i) ≡ target I (take j.n p.places) (suc k)
  goes = target_is r d (suc k) (omega arith) due_in

  pub goes_some : 0 < least_to j.m (λ i. others j p (suc k) i) (λ i. at p.loads i)
  goes_some = omega (arith, goes, (target-better I (take j.n p.places) (suc k) improving).0)

  -- its load is on its machine
  pub loaded : get_or j.minutes.now k 0 ≤ get_or p.loads (get_or p.places k 0 - 1) 0
  loaded =
      let u = due_in in
      let x = take j.n p.places in
      let q = place_in r d (suc k) (omega arith) u in
      let i = at-index p.loads (get_or p.places k 0) q.0 in
      let held = d.each (get_or p.places k 0) q.0 q.1 in
      let w = r.minutes (suc k) (omega arith) u in
      omega (arith, load-ge I x (suc k) (get_or p.places k 0) (omega arith) (omega (arith, r.jobs)) (at_take j.n p.places (suc k) u))

  module _ (t : ℕ) (some : Some t ≡ found (least_to j.m (λ i. others j p (suc k) i) (λ i. at p.loads i))) where
    f : suc t ≡ target I (take j.n p.places) (suc k)
    f = sym (found_some _ t some) ∙ goes

    pub goes_in : t < j.m
    goes_in = omega (arith, (target-better I (take j.n p.places) (suc k) improving).1, f, r.machines)

    pub relocated : (q : Placement) → q.places ≡ set p.places k (t + 1)
        → q.loads ≡ shifted p.loads (get_or p.places k 0 - 1) t (get_or j.minutes.now k 0) → Moved I j p q (suc k)
    unfolding moved
    relocated q places loads =
        let x = take j.n p.places in
        let u = due_in in
        let g = goes_in in
        let z = place_in r d (suc k) (omega arith) u in
        let s : take j.n q.places ≡ put x (suc k) (suc t)
        = ap (take j.n) (places ∙ ap (set p.places k) (add-one t)) ∙ take_put j.n p.places (suc k) (suc t) u in
        let a : put x (suc k) (suc t) ≡ moved I x (suc k) = ap (put x (suc k)) f in
        record {
          assignment = s ∙ a;
          placing = record {
            permitted = rw (s, a) (moved-permitted d.permitted (suc k) improving);
            long = omega (arith, ap length loads ∙ length-set _ t _ ∙ length-set p.loads _ _, d.long);
            each = λ i i0 im.
                rw (loads, s)
                (shifted-kept I x p.loads (suc k) (get_or p.places k 0) t (get_or j.minutes.now k 0) d.permitted.size (omega arith)
                (omega (arith, r.jobs))
                (omega (arith, d.long, r.machines)) (λ v v0 vm. d.each v v0 (omega (arith, r.machines))) (r.minutes (suc k) (omega arith) u)
                (at_take j.n p.places (suc k) u) z.0 (omega (arith, z.1, r.machines)) (omega (arith, r.machines)) i i0
                (omega (arith, r.machines)));
          };
          rest = ap (drop j.n) places ∙ drop-set-lt j.n p.places k (t + 1) u;
        }

-- what the code reads for the job that moves next
pub due_range : {j : Jobs} {p : Placement} {k : ℕ} → Due j p (suc k) → InRange j p k
due_range {j} {p} {k} d = in-range d.known k (due_in j p d.known.said.reads d.known.placing k d.next)
