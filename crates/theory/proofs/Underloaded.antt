-- Two more invariants of a trial: a machine that was ever lifted is not underloaded, and, where it starts from a permitted assignment, at
-- most one job is without a place, while some machine is underloaded. So at such a trial's end every job has its place.
use Prim.Native.Nat.{ℕ, suc, ◌+◌, ◌*◌, ◌≤◌, ◌<◌}
use mathlib.Core.Path.{◌≡◌, refl, sym, ◌∙◌}
use mathlib.Core.Bool.{Bool, true, false}
use mathlib.Core.Logic.{◌≢◌}
use native.Mathlib.Nat.{le_trans}
use native.Mathlib.Omega.{arith}
use native.Mathlib.Decide.{ℕ_discrete}
use lib.ListN.{length}
use lib.Dec.{leb, eqb}
use borrow.Author.Tests.{eqb-true, eq-eqb, ne_eqb, ltb-true, leb-true, leb-false, le-leb}
use Rattle.rules.specs.Fold.{pick, at, put, any_to}
use Rattle.rules.specs.Instance.{Instance, Assignment, n, eligible, minutes_of}
use Rattle.rules.specs.Load.{load}
use Rattle.rules.specs.Trial.{Limits, at_level, State, can, Act, act, after, pushed, overloaded, underloaded, some_underloaded, job_deed, machine_deed, start}
use Rattle.theory.proofs.Logic.{conflict, and-mk}
use Rattle.theory.proofs.Fold.{at-put-same, at-put-other}
use Rattle.theory.proofs.View.{Some, here, any_some, any_at, any_none, sum-some}
use Rattle.theory.proofs.Valid.{Valid, Permitted, eligible-job, on-machine}
use Rattle.theory.proofs.Load.{part, load-put}
use Rattle.theory.proofs.Makespan.{longest-ge}
use Rattle.theory.proofs.Step.{Step, step, deeds, can-if}
use Rattle.theory.proofs.Heights.{Shape, machine_arc-eq, machine_arc-mk, job_arc-eligible, job_arc-mk, unplaced-eq, unplaced-mk, put-cases, at-zeros}

-- ---- loads after one job is put elsewhere

part-on : (I : Instance) (x : Assignment) (i b : ℕ) → at x b ≡ i → part I x i b ≡ minutes_of I b
part-on I x i b e = rw (eq-eqb (at x b) i e)

part_off : (I : Instance) (x : Assignment) (i b : ℕ) → at x b ≢ i → part I x i b ≡ 0
part_off I x i b e = rw (ne_eqb (at x b) i e)

pick-off : (v i t : ℕ) → v ≢ i → pick (eqb v i) t 0 ≡ 0
pick-off v i t e = rw (ne_eqb v i e)

-- a job comes to a machine: no load falls
load-place : (I : Instance) (x : Assignment) (b v i : ℕ) → length x ≡ n I → 0 < b → b ≤ n I → 0 < i → at x b ≡ 0 → load I x i ≤ load I (put x b v) i
load-place I x b v i l p q i0 e = omega (arith, load-put I x b v i l p q, part_off I x i b (λ z. omega arith))

-- a job leaves: other loads stay, its machine's falls by at most its length, and none grows
load-other : (I : Instance) (x : Assignment) (b i : ℕ) → length x ≡ n I → 0 < b → b ≤ n I → 0 < i → at x b ≢ i → load I (put x b 0) i ≡ load I x i
load-other I x b i l p q i0 e =
    omega (arith, load-put I x b 0 i l p q, part_off I x i b e, pick-off 0 i (minutes_of I b) (λ z. omega arith))

load-leave : (I : Instance) (x : Assignment) (b i : ℕ) → length x ≡ n I → 0 < b → b ≤ n I → at x b ≡ i → load I x i ≤ load I (put x b 0) i + minutes_of I b
load-leave I x b i l p q e = omega (arith, load-put I x b 0 i l p q, part-on I x i b e)

load-fall : (I : Instance) (x : Assignment) (b i : ℕ) → length x ≡ n I → 0 < b → b ≤ n I → 0 < i → load I (put x b 0) i ≤ load I x i
load-fall I x b i l p q i0 = omega (arith, load-put I x b 0 i l p q, pick-off 0 i (minutes_of I b) (λ z. omega arith))

-- ---- tests, as facts

pub overloaded-gt : (I : Instance) (a : Limits) (s : State) (i : ℕ) → overloaded I a s i ≡ true → a.high i < load I s.assignment i
unfolding overloaded
overloaded-gt I a s i e = ltb-true _ _ e

pub underloaded-not : (I : Instance) (a : Limits) (s : State) (i : ℕ) → underloaded I a s i ≡ false → a.low i < load I s.assignment i
unfolding underloaded
underloaded-not I a s i e = leb-false _ _ e

-- no machine is underloaded: each load is above its lower limit
pub none-underloaded : (I : Instance) (a : Limits) (s : State) → some_underloaded I a s ≡ false
    → (i : ℕ) → 0 < i → i ≤ I.m → a.low i < load I s.assignment i
unfolding some_underloaded
none-underloaded I a s t i p q = underloaded-not I a s i (any_none I.m _ t i p q)

-- ---- a machine that was ever lifted is not underloaded

-- no job is longer than the distance between the limits of a machine that may run it
unfoldable pub Apart : Instance → Limits → Type 0
Apart I a = (b i : ℕ) → eligible I b i ≡ true → a.low i + minutes_of I b ≤ a.high i

pub level-apart : (I : Instance) (a : ℕ) → Apart I (at_level I a)
unfolding Apart at_level
level-apart I a b i e = let r = eligible-job I b i e in omega (arith, longest-ge I b r.0 r.1)

unfoldable pub Heavy : Instance → Limits → State → Type 0
Heavy I a s = (i : ℕ) → 0 < i → 0 < at s.machine_heights i → a.low i < load I s.assignment i

heavy : {I : Instance} {a : Limits} {s : State} {x : Act} → Apart I a → Step I a s x → Shape I s → Heavy I a s → Heavy I a (after s x)
unfolding Apart Heavy
heavy c (Step.no_underloaded t) v h = h
heavy c (Step.stuck _ y z) v h = h
heavy {I} {a} {s} c (Step.job_push b i lb li u e g) v h =
    λ j j0 r. omega (arith, h j j0 r, load-place I s.assignment (suc b) (suc i) j v.jobs (omega arith) lb j0 (unplaced-eq s (suc b) u))
heavy c (Step.job_lift b i lb li u e g y) v h = h
heavy {I} {a} {s} c (Step.machine_push t f i b li lb u o e g) v h = λ j j0 r.
    elim (ℕ_discrete (at s.assignment (suc b)) j) [
      | yes q ↦
          let w : overloaded I a s j ≡ true = rw (sym q ∙ machine_arc-eq s (suc i) (suc b) e) u in
          omega (
            arith,
            overloaded-gt I a s j w,
            load-leave I s.assignment (suc b) j v.jobs (omega arith) lb q,
            c (suc b) j (v.listed (suc b) j j0 q),
          )
      | no ne ↦ omega (arith, h j j0 r, load-other I s.assignment (suc b) j v.jobs (omega arith) lb j0 ne)
    ]
heavy {I} {a} {s} c (Step.machine_lift f i b li lb u o e g y) v h =
    λ j j0 r. put-cases s.machine_heights (suc i) (suc (at s.job_heights (suc b))) j (omega arith) (omega (arith, v.machines))
    (λ q w. let z = machine_arc-eq s (suc i) (suc b) e in
    rw q (omega (arith, overloaded-gt I a s (suc i) u, c (suc b) (suc i) (v.listed (suc b) (suc i) (omega arith) z))))
    (λ ne w. h j j0 (omega arith))

-- ---- at most one job is without a place, and then some machine is underloaded

pub data Hand (I : Instance) (a : Limits) (s : State) : Type 0 where
  whole : ((b : ℕ) → 0 < b → b ≤ n I → 0 < at s.assignment b) → Hand I a s
  one : (b : ℕ) → 0 < b → b ≤ n I → at s.assignment b ≡ 0
      → ((c : ℕ) → 0 < c → c ≤ n I → c ≢ b → 0 < at s.assignment c) → some_underloaded I a s ≡ true → Hand I a s

-- each job has a machine
unfoldable pub Runnable : Instance → Type 0
Runnable I = (b : ℕ) → 0 < b → b ≤ n I → Some I.m (λ i. eligible I b i)

-- a job without a place can act
pub unplaced-can : (I : Instance) (a : Limits) (s : State) (b : ℕ) → Shape I s → at s.assignment b ≡ 0 → Some I.m (λ i. eligible I b i)
    → can (job_deed I a s b) ≡ true
unfolding job_deed
unplaced-can I a s b v z (here i p q r) =
    rw (unplaced-mk s b z)
    (can-if (deeds I.m _ _ _) i p q (job_arc-mk I s b i r (λ w. omega arith))
    (λ j j0 jm w. v.job_low b j j0 jm (job_arc-eligible I s b j w)))

-- an overloaded machine of height at most 2m can act
pub overloaded-can : (I : Instance) (a : Limits) (s : State) (i : ℕ) → Shape I s → 0 < i → overloaded I a s i ≡ true
    → at s.machine_heights i ≤ 2 * I.m → can (machine_deed I a s i) ≡ true
unfolding machine_deed load
overloaded-can I a s i v i0 o h =
    let r = sum-some (n I) (λ b. pick (eqb (at s.assignment b) i) (minutes_of I b) 0) (omega (arith, overloaded-gt I a s i o)) in
    rw (and-mk (overloaded I a s i) (leb (at s.machine_heights i) (2 * I.m)) o (le-leb _ _ h))
    (can-if (deeds (n I) _ _ _) r.0 r.1 r.2
    (machine_arc-mk s i r.0 (on r.0 (eqb (at s.assignment r.0) i) refl r.3))
    (λ c c0 cn w. v.machine_low c i i0 (machine_arc-eq s i c w)))
  where
    on : (b : ℕ) (t : Bool) → eqb (at s.assignment b) i ≡ t → 0 < pick t (minutes_of I b) 0 → at s.assignment b ≡ i
    on b true e g = eqb-true _ _ e
    on b false e g = absurd (omega arith)

-- a job taken off leaves an underloaded machine underloaded
pub off-underloaded : (I : Instance) (a : Limits) (s : State) (b : ℕ) → length s.assignment ≡ n I → 0 < b → b ≤ n I
    → some_underloaded I a s ≡ true → some_underloaded I a (pushed s b 0) ≡ true
unfolding some_underloaded underloaded
off-underloaded I a s b l p q t = still (any_some I.m _ t)
  where
    still : Some I.m (λ i. leb (load I s.assignment i) (a.low i)) → any_to I.m (λ i. leb (load I (put s.assignment b 0) i) (a.low i)) ≡ true
    still (here j j0 jm r) =
        any_at I.m _ j j0 jm (le-leb _ _ (le_trans (load-fall I s.assignment b j l p q j0) (leb-true _ _ r)))

hand : {I : Instance} {a : Limits} {s : State} {x : Act} → Runnable I → Step I a s x → Shape I s → Hand I a s → Hand I a (after s x)
unfolding Runnable some_underloaded underloaded
hand z (Step.no_underloaded t) v h = h
hand z (Step.stuck _ _ _) v h = h
hand {I} {a} {s} z (Step.job_push b i lb li u e g) v (whole h) =
    absurd (omega (arith, h (suc b) (omega arith) lb, unplaced-eq s (suc b) u))
hand {I} {a} {s} z (Step.job_push b i lb li u e g) v (one c c0 cn p w t) =
    elim (ℕ_discrete (suc b) c) [
      | yes q ↦ whole (λ d d0 dn. put-cases s.assignment (suc b) (suc i) d (omega arith) (omega (arith, v.jobs))
          (λ r y. omega arith)
          (λ ne y. omega (arith, y, w d d0 dn (λ r. ne (r ∙ sym q)))))
      | no ne ↦ absurd (omega (arith, w (suc b) (omega arith) lb ne, unplaced-eq s (suc b) u))
    ]
hand z (Step.job_lift b i lb li u e g y) v (whole h) = whole h
hand z (Step.job_lift b i lb li u e g y) v (one c c0 cn p w t) = one c c0 cn p w t
hand {I} {a} {s} z (Step.machine_push t f i b li lb u o e g) v (whole h) =
    one (suc b) (omega arith) lb (at-put-same s.assignment (suc b) 0 (omega arith) (omega (arith, v.jobs)))
    (λ c c0 cn ne. rw (at-put-other s.assignment (suc b) c 0 ne) (h c c0 cn))
    (off-underloaded I a s (suc b) v.jobs (omega arith) lb t)
hand {I} {a} {s} z (Step.machine_push t f i b li lb u o e g) v (one c c0 cn p w r) =
    conflict (unplaced-can I a s c v p (z c c0 cn)) (f c c0 cn)
hand z (Step.machine_lift f i b li lb u o e g y) v (whole h) = whole h
hand z (Step.machine_lift f i b li lb u o e g y) v (one c c0 cn p w t) = one c c0 cn p w t

-- ---- both, along a trial

pub heavy-step : (I : Instance) (a : Limits) → Apart I a → (s : State) → Shape I s → Heavy I a s → Heavy I a (after s (act I a s))
heavy-step I a c s v h = heavy c (step I a s) v h

pub heavy-start : (I : Instance) (x : Assignment) (a : Limits) → Heavy I a (start I x)
unfolding Heavy
heavy-start I x a i p h = absurd (omega (arith, at-zeros I.m i))

module _ (I : Instance) (x : Assignment) (v : Valid I) (w : Permitted I x) where
  pub runnable : Runnable I
  unfolding Runnable
  runnable b p q =
      let r = on-machine v w b p q in
      here (at x b) r.0 r.1 (w.listed b p q)

  pub hand-step : (a : Limits) (s : State) → Shape I s → Hand I a s → Hand I a (after s (act I a s))
  hand-step a s y h = hand runnable (step I a s) y h

  pub hand-start : (a : Limits) → Hand I a (start I x)
  hand-start a = whole (λ b p q. (on-machine v w b p q).0)
