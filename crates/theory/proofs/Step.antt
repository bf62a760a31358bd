-- What a step of a trial can be, as data to match on.
use Prim.Native.Nat.{ℕ, suc, ◌*◌, ◌≤◌, ◌<◌}
use mathlib.Core.Path.{◌≡◌, refl}
use mathlib.Core.Bool.{Bool, true, false}
use native.Mathlib.Omega.{arith}
use lib.Dec.{leb, eqb}
use borrow.Author.Tests.{leb-true, leb-false, eqb-true, eq-eqb}
use Rattle.rules.specs.Fold.{◌and◌, at}
use Rattle.rules.specs.Instance.{Instance, n}
use Rattle.rules.specs.Trial.{Limits, State, Deed, nothing, push, lift, can, lift_over, push_or, deed, job_deed, machine_deed, Act, rest, by_job, by_machine, act_machine, act_job, act, some_underloaded, unplaced, overloaded, job_arc, machine_arc}
use Rattle.theory.proofs.Logic.{by_test, conflict, and_left, and_right, and-mk}
use Rattle.theory.proofs.View.{None, First, first, Least, least}

-- what a deed can be
pub data Deeds (c : ℕ) (arc : ℕ → Bool) (high : ℕ → ℕ) (h : ℕ) : Deed → Type 0 where
  alone : None c arc → Deeds c arc high h nothing
  too_high : None c (λ j. arc j and eqb h (suc (high j))) → (j : ℕ) → j < c → arc (suc j) ≡ true → high (suc j) < h → Deeds c arc high h nothing
  pushes : (j : ℕ) → j < c → arc (suc j) ≡ true → h ≡ suc (high (suc j)) → Deeds c arc high h (push (suc j))
  lifts : (j : ℕ) → j < c → arc (suc j) ≡ true → h ≤ high (suc j)
      → ((i : ℕ) → 0 < i → i ≤ c → arc i ≡ true → high (suc j) ≤ high i)
      → Deeds c arc high h (lift (suc (high (suc j))))

deeds-of : {c : ℕ} {arc : ℕ → Bool} {high : ℕ → ℕ} {h r q : ℕ}
    → First c (λ j. arc j and eqb h (suc (high j))) r → Least c arc high q
    → Deeds c arc high h (push_or r (lift_over q h (high q)))
unfolding push_or lift_over
deeds-of (First.found j l e z) v =
    pushes j l (and_left _ _ e) (eqb-true _ _ (and_right _ _ e))
deeds-of (First.nowhere z) (Least.nowhere y) = alone y
deeds-of {high = high} {h = h} (First.nowhere z) (Least.found j l e y d) =
    by_test (leb h (high (suc j))) (λ t. rw t (lifts j l e (leb-true _ _ t) y)) (λ t. rw t (too_high z j l e (leb-false _ _ t)))

pub deeds : (c : ℕ) (arc : ℕ → Bool) (high : ℕ → ℕ) (h : ℕ) → Deeds c arc high h (deed c arc high h)
unfolding deed
deeds c arc high h = deeds-of (first c _) (least c arc high)

-- ---- what acts

pub data Acts (I : Instance) (a : Limits) (s : State) : Act → Type 0 where
  no_underloaded : some_underloaded I a s ≡ false → Acts I a s rest
  stuck : some_underloaded I a s ≡ true → None (n I) (λ b. can (job_deed I a s b)) → None I.m (λ i. can (machine_deed I a s i)) → Acts I a s rest
  job : (b : ℕ) → b < n I → None b (λ c. can (job_deed I a s c)) → can (job_deed I a s (suc b)) ≡ true
      → Acts I a s (by_job (suc b) (job_deed I a s (suc b)))
  machine : some_underloaded I a s ≡ true → (i : ℕ) → i < I.m → None (n I) (λ b. can (job_deed I a s b)) → can (machine_deed I a s (suc i)) ≡ true
      → Acts I a s (by_machine (suc i) (machine_deed I a s (suc i)))

acts_i : {I : Instance} {a : Limits} {s : State} {q : ℕ} → some_underloaded I a s ≡ true → None (n I) (λ b. can (job_deed I a s b)) → First I.m (λ i. can (machine_deed I a s i)) q
    → Acts I a s (act_machine I a s q)
unfolding act_machine
acts_i t z (First.found i l e y) = machine t i l z e
acts_i t z (First.nowhere y) = stuck t z y

acts_b : {I : Instance} {a : Limits} {s : State} {r : ℕ} → some_underloaded I a s ≡ true → First (n I) (λ b. can (job_deed I a s b)) r → Acts I a s (act_job I a s r)
unfolding act_job
acts_b t (First.found b l e z) = job b l z e
acts_b {I} t (First.nowhere z) = acts_i t z (first I.m _)

pub acts : (I : Instance) (a : Limits) (s : State) → Acts I a s (act I a s)
unfolding act
acts I a s = by_test (some_underloaded I a s) (λ t. rw t (acts_b t (first (n I) _))) (λ t. rw t (no_underloaded t))

-- ---- a step, by cases: each with all that holds of it

pub data Step (I : Instance) (a : Limits) (s : State) : Act → Type 0 where
  no_underloaded : some_underloaded I a s ≡ false → Step I a s rest
  stuck : some_underloaded I a s ≡ true → None (n I) (λ b. can (job_deed I a s b)) → None I.m (λ i. can (machine_deed I a s i)) → Step I a s rest
  job_push : (b i : ℕ) → b < n I → i < I.m → unplaced s (suc b) ≡ true → job_arc I s (suc b) (suc i) ≡ true
      → at s.job_heights (suc b) ≡ suc (at s.machine_heights (suc i)) → Step I a s (by_job (suc b) (push (suc i)))
  job_lift : (b i : ℕ) → b < n I → i < I.m → unplaced s (suc b) ≡ true → job_arc I s (suc b) (suc i) ≡ true
      → at s.job_heights (suc b) ≤ at s.machine_heights (suc i)
      → ((j : ℕ) → 0 < j → j ≤ I.m → job_arc I s (suc b) j ≡ true → at s.machine_heights (suc i) ≤ at s.machine_heights j)
      → Step I a s (by_job (suc b) (lift (suc (at s.machine_heights (suc i)))))
  machine_push : some_underloaded I a s ≡ true → None (n I) (λ b. can (job_deed I a s b)) → (i b : ℕ) → i < I.m → b < n I → overloaded I a s (suc i) ≡ true → at s.machine_heights (suc i) ≤ 2 * I.m → machine_arc s (suc i) (suc b) ≡ true
      → at s.machine_heights (suc i) ≡ suc (at s.job_heights (suc b)) → Step I a s (by_machine (suc i) (push (suc b)))
  machine_lift : None (n I) (λ b. can (job_deed I a s b)) → (i b : ℕ) → i < I.m → b < n I → overloaded I a s (suc i) ≡ true → at s.machine_heights (suc i) ≤ 2 * I.m → machine_arc s (suc i) (suc b) ≡ true
      → at s.machine_heights (suc i) ≤ at s.job_heights (suc b)
      → ((j : ℕ) → 0 < j → j ≤ n I → machine_arc s (suc i) j ≡ true → at s.job_heights (suc b) ≤ at s.job_heights j)
      → Step I a s (by_machine (suc i) (lift (suc (at s.job_heights (suc b)))))

step_b : {I : Instance} {a : Limits} {s : State} (b : ℕ) {d : Deed} → b < n I → unplaced s (suc b) ≡ true
    → Deeds I.m (λ i. job_arc I s (suc b) i) (λ i. at s.machine_heights i) (at s.job_heights (suc b)) d → can d ≡ true → Step I a s (by_job (suc b) d)
step_b b l u (alone z) c = conflict c refl
step_b b l u (too_high _ _ _ _ _) c = conflict c refl
step_b b l u (pushes j q e h) c = job_push b j l q u e h
step_b b l u (lifts j q e h y) c = job_lift b j l q u e h y

step_i : {I : Instance} {a : Limits} {s : State} (i : ℕ) {d : Deed} → some_underloaded I a s ≡ true → None (n I) (λ b. can (job_deed I a s b)) → i < I.m → overloaded I a s (suc i) ≡ true → at s.machine_heights (suc i) ≤ 2 * I.m
    → Deeds (n I) (λ b. machine_arc s (suc i) b) (λ b. at s.job_heights b) (at s.machine_heights (suc i)) d → can d ≡ true → Step I a s (by_machine (suc i) d)
step_i i t f l u v (alone z) c = conflict c refl
step_i i t f l u v (too_high _ _ _ _ _) c = conflict c refl
step_i i t f l u v (pushes j q e h) c = machine_push t f i j l q u v e h
step_i i t f l u v (lifts j q e h y) c = machine_lift f i j l q u v e h y

step_of : {I : Instance} {a : Limits} {s : State} {x : Act} → Acts I a s x → Step I a s x
unfolding job_deed machine_deed
step_of (Acts.no_underloaded t) = no_underloaded t
step_of (Acts.stuck t y z) = stuck t y z
step_of {I} {a} {s} (job b l z c) =
    by_test (unplaced s (suc b))
    (λ t. rw t (step_b b l t (deeds I.m _ _ _) (rw t at c)))
    (λ t. conflict (rw t at c) refl)
step_of {I} {a} {s} (machine g i l z c) =
    by_test (overloaded I a s (suc i) and leb (at s.machine_heights (suc i)) (2 * I.m))
    (λ t. rw t (step_i i g z l (and_left _ _ t) (leb-true _ _ (and_right _ _ t)) (deeds (n I) _ _ _) (rw t at c)))
    (λ t. conflict (rw t at c) refl)

pub step : (I : Instance) (a : Limits) (s : State) → Step I a s (act I a s)
step I a s = step_of (acts I a s)

-- an item with an arc's end just below it can act
can-of : {c : ℕ} {arc : ℕ → Bool} {high : ℕ → ℕ} {h : ℕ} {d : Deed} → Deeds c arc high h d
    → (j : ℕ) → 0 < j → j ≤ c → arc j ≡ true → h ≡ suc (high j) → can d ≡ true
can-of (alone z) j p q e g = conflict e (z j p q)
can-of (too_high z _ _ _ _) j p q e g = conflict (and-mk _ _ e (eq-eqb _ _ g)) (z j p q)
can-of (pushes _ _ _ _) j p q e g = refl
can-of (lifts _ _ _ _ _) j p q e g = refl

pub job-can : (I : Instance) (a : Limits) (s : State) (b j : ℕ) → unplaced s b ≡ true → 0 < j → j ≤ I.m → job_arc I s b j ≡ true
    → at s.job_heights b ≡ suc (at s.machine_heights j) → can (job_deed I a s b) ≡ true
unfolding job_deed
job-can I a s b j u p q e g = rw u (can-of (deeds I.m _ _ _) j p q e g)

-- an item with an arc, and no arc's end more than 1 below it, can act
pub can-if : {c : ℕ} {arc : ℕ → Bool} {high : ℕ → ℕ} {h : ℕ} {d : Deed} → Deeds c arc high h d
    → (j : ℕ) → 0 < j → j ≤ c → arc j ≡ true → ((i : ℕ) → 0 < i → i ≤ c → arc i ≡ true → h ≤ suc (high i)) → can d ≡ true
can-if (alone z) j p q e g = conflict e (z j p q)
can-if {high = high} {h = h} (too_high z i l r w) j p q e g =
    let t : h ≡ suc (high (suc i)) = omega (arith, g (suc i) (omega arith) l r) in
    conflict (and-mk _ _ r (eq-eqb _ _ t)) (z (suc i) (omega arith) l)
can-if (pushes _ _ _ _) j p q e g = refl
can-if (lifts _ _ _ _ _) j p q e g = refl
