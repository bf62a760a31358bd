-- The pushes of a trial: at most (2m+3) times the summed lengths of the lists, so at most document 01's (4m+4) times that
-- (source document 000, Lemma 3.1). Each turns one arc, whose end gets one higher.
use Prim.Native.Nat.{ℕ, zero, suc, ◌+◌, ◌*◌, ◌≤◌, ◌<◌}
use mathlib.Core.Path.{◌≡◌, refl}
use mathlib.Core.Bool.{Bool, true, false}
use mathlib.Core.Logic.{◌≢◌}
use mathlib.Core.List.{List, [], ◌∷◌}
use native.Mathlib.Nat.{le_refl, le_trans, le_step, le_of_eq, mul-le-mul_left, mul-le-mul_right}
use native.Mathlib.Omega.{arith}
use native.Mathlib.Decide.{ℕ_discrete}
use lib.ListN.{length}
use lib.Dec.{eqb}
use borrow.Author.Tests.{eqb-true, eq-eqb, ne_eqb}
use Rattle.rules.specs.Fold.{◌or◌, pick, at, put, mem, sum_to}
use Rattle.rules.specs.Instance.{Instance, n, list_of, eligible}
use Rattle.rules.specs.Trial.{Limits, State, Act, act, after, push_bound}
use Rattle.theory.proofs.Logic.{by_test}
use Rattle.theory.proofs.Fold.{at-put-same, at-put-other, sum_to-mono, sum_to-gain, sum_to-bound, sum_to-scale, sum_to-add}
use Rattle.theory.proofs.Step.{Step, step}
use Rattle.theory.proofs.Heights.{Shape, machine_arc-eq, job_arc-eligible, unplaced-eq, at-put-up}
use Rattle.theory.proofs.Caps.{Caps}

-- a job and a machine of its list: the height of the end of the arc between them
pub edge : Instance → List ℕ → List ℕ → List ℕ → ℕ → ℕ → ℕ
edge I ps hi bh b i = pick (eligible I b i) (pick (eqb (at ps b) i) (at bh b) (at hi i)) 0

edge_on : (I : Instance) (ps hi bh : List ℕ) (b i : ℕ) → eligible I b i ≡ true → at ps b ≡ i → edge I ps hi bh b i ≡ at bh b
unfolding edge
edge_on I ps hi bh b i q e = rw (q, eq-eqb (at ps b) i e)

edge-off : (I : Instance) (ps hi bh : List ℕ) (b i : ℕ) → eligible I b i ≡ true → at ps b ≢ i → edge I ps hi bh b i ≡ at hi i
unfolding edge
edge-off I ps hi bh b i q e = rw (q, ne_eqb (at ps b) i e)

edge-not : (I : Instance) (ps hi bh : List ℕ) (b i : ℕ) → eligible I b i ≡ false → edge I ps hi bh b i ≡ 0
unfolding edge
edge-not I ps hi bh b i q = rw q

pub turned : Instance → List ℕ → List ℕ → List ℕ → ℕ
turned I ps hi bh = sum_to (n I) (λ b. sum_to I.m (λ i. edge I ps hi bh b i))

pick_up : (q t : Bool) (a b a' b' : ℕ) → a ≤ a' → b ≤ b' → pick q (pick t a b) 0 ≤ pick q (pick t a' b') 0
pick_up true true a b a' b' h g = h
pick_up true false a b a' b' h g = g
pick_up false t a b a' b' h g = le_refl 0

turned_up : (I : Instance) (ps hi bh hi' bh' : List ℕ) → ((i : ℕ) → at hi i ≤ at hi' i) → ((b : ℕ) → at bh b ≤ at bh' b) → turned I ps hi bh ≤ turned I ps hi' bh'
unfolding turned edge
turned_up I ps hi bh hi' bh' h g =
    sum_to-mono (n I) _ _ (λ b p q. sum_to-mono I.m _ _ (λ i p q. pick_up (eligible I b i) (eqb (at ps b) i) (at bh b) (at hi i) (at bh' b) (at hi' i) (g b) (h i)))

edge_other : (I : Instance) (ps hi bh : List ℕ) (b v c j : ℕ) → c ≢ b → edge I ps hi bh c j ≤ edge I (put ps b v) hi bh c j
unfolding edge
edge_other I ps hi bh b v c j ne = rw (at-put-other ps b c v ne) (le_refl _)

-- job b put anew, at v, turns one arc, that with i, whose end gets higher
turned-gain : (I : Instance) (ps hi bh : List ℕ) (b v i : ℕ) → length ps ≡ n I → 0 < b → b ≤ n I → 0 < i → i ≤ I.m
    → ((j : ℕ) → 0 < j → j ≤ I.m → edge I ps hi bh b j ≤ edge I (put ps b v) hi bh b j) → edge I ps hi bh b i < edge I (put ps b v) hi bh b i
    → turned I ps hi bh < turned I (put ps b v) hi bh
unfolding turned
turned-gain I ps hi bh b v i l p q p' q' h g =
    sum_to-gain (n I) _ _ b p q
    (λ c c0 cn. sum_to-mono I.m _ _ (λ j j0 jm. elim (ℕ_discrete c b) [
      | yes e ↦ rw e (h j j0 jm)
      | no ne ↦ edge_other I ps hi bh b v c j ne
    ]))
    (sum_to-gain I.m _ _ i p' q' h g)

-- of two machines of b, neither is j
edge_same : (I : Instance) (ps ps' hi bh : List ℕ) (b j : ℕ) → at ps b ≢ j → at ps' b ≢ j → edge I ps hi bh b j ≡ edge I ps' hi bh b j
unfolding edge
edge_same I ps ps' hi bh b j e e' = rw (ne_eqb (at ps b) j e, ne_eqb (at ps' b) j e')

turns : {I : Instance} {a : Limits} {s : State} {x : Act} → Step I a s x → Shape I s → s.pushes ≤ turned I s.assignment s.machine_heights s.job_heights
    → (after s x).pushes ≤ turned I (after s x).assignment (after s x).machine_heights (after s x).job_heights
turns (Step.no_underloaded t) v r = r
turns (Step.stuck _ y z) v r = r
turns {I} {a} {s} (Step.job_push b i lb li u e h) v r =
    let z = unplaced-eq s (suc b) u in
    let q = job_arc-eligible I s (suc b) (suc i) e in
    let w = at-put-same s.assignment (suc b) (suc i) (omega arith) (omega (arith, v.jobs)) in
    let on = edge_on I (put s.assignment (suc b) (suc i)) s.machine_heights s.job_heights (suc b) (suc i) q w in
    let off = edge-off I s.assignment s.machine_heights s.job_heights (suc b) (suc i) q (λ t. omega arith) in
    let g = turned-gain I s.assignment s.machine_heights s.job_heights (suc b) (suc i) (suc i) v.jobs (omega arith) lb (omega arith) li
    (λ j j0 jm. elim (ℕ_discrete j (suc i)) [
      | yes t ↦ rw t (omega arith)
      | no ne ↦ omega (arith, edge_same I s.assignment (put s.assignment (suc b) (suc i)) s.machine_heights s.job_heights (suc b) j (λ t. omega arith) (λ t. omega arith))
    ])
    (omega arith) in
    omega arith
turns {I} {a} {s} (Step.job_lift b i lb li u e h y) v r =
    le_trans r (turned_up I s.assignment _ _ _ _ (λ i. le_refl _) (λ c. at-put-up s.job_heights (suc b) (suc (at s.machine_heights (suc i))) c (le_step h)))
turns {I} {a} {s} (Step.machine_push _ f i b li lb u o e h) v r =
    let z = machine_arc-eq s (suc i) (suc b) e in
    let q = v.listed (suc b) (suc i) (omega arith) z in
    let w = at-put-same s.assignment (suc b) 0 (omega arith) (omega (arith, v.jobs)) in
    let off = edge-off I (put s.assignment (suc b) 0) s.machine_heights s.job_heights (suc b) (suc i) q (λ t. omega arith) in
    let on = edge_on I s.assignment s.machine_heights s.job_heights (suc b) (suc i) q z in
    let g = turned-gain I s.assignment s.machine_heights s.job_heights (suc b) 0 (suc i) v.jobs (omega arith) lb (omega arith) li
    (λ j j0 jm. elim (ℕ_discrete j (suc i)) [
      | yes t ↦ rw t (omega arith)
      | no ne ↦ omega (arith, edge_same I s.assignment (put s.assignment (suc b) 0) s.machine_heights s.job_heights (suc b) j (λ t. omega arith) (λ t. omega arith))
    ])
    (omega arith) in
    omega arith
turns {I} {a} {s} (Step.machine_lift f i b li lb u o e h y) v r =
    le_trans r (turned_up I s.assignment _ _ _ _ (λ j. at-put-up s.machine_heights (suc i) (suc (at s.job_heights (suc b))) j (le_step h)) (λ c. le_refl _))

-- ---- how far the heights of all arcs go

one_none : (x I : ℕ) → I < x → sum_to I (λ i. pick (eqb x i) 1 0) ≡ 0
unfolding sum_to
one_none x zero h = refl
one_none x (suc I) h = rw (ne_eqb x (suc I) (λ e. omega arith)) (omega (arith, one_none x I (omega arith)))

one-count : (x I : ℕ) → sum_to I (λ i. pick (eqb x i) 1 0) ≤ 1
unfolding sum_to
one-count x zero = omega arith
one-count x (suc I) =
    by_test (eqb x (suc I))
    (λ t. rw t (omega (arith, one_none x I (omega (arith, eqb-true x (suc I) t)))))
    (λ t. rw t (omega (arith, one-count x I)))

pick-or : (s t : Bool) → pick (s or t) 1 0 ≤ pick s 1 0 + pick t 1 0
unfolding ◌or◌
pick-or true t = omega arith
pick-or false t = omega arith

mem-count : (l : List ℕ) (I : ℕ) → sum_to I (λ i. pick (mem i l) 1 0) ≤ length l
unfolding mem
mem-count [] I = omega (arith, sum_to-bound I (λ i. 0) 0 (λ i p q. le_refl 0))
mem-count (x ∷ xs) I =
    omega (
      arith,
      sum_to-mono I (λ i. pick (eqb x i or mem i xs) 1 0) (λ i. pick (eqb x i) 1 0 + pick (mem i xs) 1 0) (λ i p q. pick-or (eqb x i) (mem i xs)),
      sum_to-add I (λ i. pick (eqb x i) 1 0) (λ i. pick (mem i xs) 1 0),
      one-count x I,
      mem-count xs I,
    )

edge-le : (I : Instance) (s : State) → Caps I s → (b i : ℕ) → edge I s.assignment s.machine_heights s.job_heights b i ≤ (2 * I.m + 3) * pick (eligible I b i) 1 0
edge-le I s v b i =
    by_test (eligible I b i)
    (λ t. elim (ℕ_discrete (at s.assignment b) i) [
      | yes e ↦ rw t (omega (arith, edge_on I s.assignment s.machine_heights s.job_heights b i t e, v.job_cap b))
      | no ne ↦ rw t (omega (arith, edge-off I s.assignment s.machine_heights s.job_heights b i t ne, v.machine_cap i))
    ])
    (λ t. rw t (omega (arith, edge-not I s.assignment s.machine_heights s.job_heights b i t)))

turned_le : (I : Instance) (s : State) → Caps I s
    → turned I s.assignment s.machine_heights s.job_heights ≤ (2 * I.m + 3) * sum_to (n I) (λ b. length (list_of I b))
unfolding turned
turned_le I s v =
    le_trans
    (sum_to-mono (n I) _ (λ b. (2 * I.m + 3) * length (list_of I b))
    (λ b p q. le_trans (sum_to-mono I.m _ (λ i. (2 * I.m + 3) * pick (eligible I b i) 1 0) (λ i p q. edge-le I s v b i))
    (le_trans (le_of_eq (sum_to-scale I.m (λ i. pick (eligible I b i) 1 0) (2 * I.m + 3)))
    (mul-le-mul_left (2 * I.m + 3) (mem-count (list_of I b) I.m)))))
    (le_of_eq (sum_to-scale (n I) (λ b. length (list_of I b)) (2 * I.m + 3)))

pub pushes-step : (I : Instance) (a : Limits) (s : State) → Shape I s → s.pushes ≤ turned I s.assignment s.machine_heights s.job_heights
    → (after s (act I a s)).pushes ≤ turned I (after s (act I a s)).assignment (after s (act I a s)).machine_heights (after s (act I a s)).job_heights
pushes-step I a s v r = turns (step I a s) v r

-- the tighter bound
pub pushes-tight : (I : Instance) (s : State) → Caps I s → s.pushes ≤ turned I s.assignment s.machine_heights s.job_heights
    → s.pushes ≤ (2 * I.m + 3) * sum_to (n I) (λ b. length (list_of I b))
pushes-tight I s c r = le_trans r (turned_le I s c)

pub pushes-bound : (I : Instance) (s : State) → Caps I s → s.pushes ≤ turned I s.assignment s.machine_heights s.job_heights
    → s.pushes ≤ push_bound I
unfolding push_bound
pushes-bound I s c r =
    le_trans (pushes-tight I s c r) (mul-le-mul_right (sum_to (n I) (λ b. length (list_of I b))) (omega arith))
