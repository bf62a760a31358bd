-- The instance of a sound book is small: at most 24 machines and 224 jobs, each of at most 1440 minutes.
use Prim.Native.Nat.{ℕ, zero, suc, ◌≤◌, ◌<◌}
use mathlib.Core.Path.{◌≡◌, ap}
use mathlib.Core.Bool.{true}
use mathlib.Core.List.{List}
use native.Mathlib.Omega.{arith}
use lib.ListN.{length, get_or, get_or-map, get_or-eq_default}
use lib.Dec.{leb, ltb}
use borrow.Author.Tests.{leb-true, ltb-true, ltb-false}
use Rattle.rules.specs.Sheet.{Book, no_batch_here, good_instruments, good_minutes, good_list, sound}
use Rattle.rules.specs.Instance.{Job, no_job, n, job_of, items, instance, minutes_of, list_of}
use Rattle.theory.proofs.Logic.{by_test, and_left, and_right}
use Rattle.theory.proofs.Fold.{sum_to-bound}
use Rattle.theory.proofs.Small.{Small}
use Rattle.theory.proofs.Items.{qualified-few}
use Rattle.theory.proofs.Sound.{Good, good-at, sound-is}
use Rattle.theory.proofs.Jobs.{items-good, items-few, jobs-count}

good-minutes : (t : ℕ) → good_minutes t ≡ true → t ≤ 1440
unfolding good_minutes
good-minutes t e = leb-true _ _ (and_right (leb 1 t) _ e)

good-long : (m : ℕ) (l : List ℕ) → good_list m l ≡ true → length l ≤ m
unfolding good_list
good-long m l e = leb-true _ _ (and_left _ _ (and_right (leb 1 (length l)) _ e))

module _ (k : Book) (v : sound k ≡ true) where
  few-instruments : k.m ≤ 24
  unfolding good_instruments
  few-instruments = leb-true _ _ (and_right (leb 1 k.m) _ (sound-is k v).instruments)

  good : (b : ℕ) → b < n (instance k) → Good k.m (get_or (items k) b no_batch_here)
  good b h = good-at k.m (items k) b (items-good k (sound-is k v)) (omega (arith, jobs-count k))

  job-of : (b : ℕ) → get_or (instance k).jobs b no_job ≡ job_of (get_or (items k) b no_batch_here)
  job-of b = get_or-map job_of (items k) b no_batch_here

  short : (b : ℕ) → minutes_of (instance k) b ≤ 1440
  short zero = omega arith
  short (suc b) =
      by_test (ltb b (n (instance k)))
      (λ t. omega (arith, ap (λ (j : Job). j.minutes) (job-of b), good-minutes _ (good b (ltb-true b _ t)).minutes))
      (λ t. let e = get_or-eq_default (instance k).jobs no_job {n = b} (ltb-false b (n (instance k)) t) in
      omega (arith, ap (λ (j : Job). j.minutes) e))

  listed : (b : ℕ) → 0 < b → b ≤ n (instance k) → length (list_of (instance k) b) ≤ 24
  listed zero p q = absurd (omega arith)
  listed (suc b) p q =
      omega (
        arith,
        qualified-few (get_or (items k) b no_batch_here) 24 (omega arith) (omega (arith, good-long k.m _ (good b q).list, few-instruments)),
        ap (λ (j : Job). length j.list) (job-of b),
      )

  pub sound-small : Small (instance k)
  sound-small =
      let few : n (instance k) ≤ 224 = omega (arith, jobs-count k, items-few k (sound-is k v)) in
      record {
        machines = few-instruments;
        jobs = few;
        short = short;
        lists = omega (arith, sum_to-bound (n (instance k)) (λ b. length (list_of (instance k) b)) 24 listed);
      }
