-- Settling: a move lowers the sum of squared loads by 2 or more and never raises the makespan. So half of that sum is
-- enough moves, and the end is an equilibrium.
use Prim.Native.Nat.{ℕ, zero, suc, ◌+◌, ◌*◌, ◌/◌, ◌≤◌, ◌<◌}
use mathlib.Core.Path.{◌≡◌, refl, sym}
use mathlib.Core.Bool.{true}
use mathlib.Core.Logic.{◌≢◌}
use native.Mathlib.Nat.{le_refl, le_trans}
use native.Mathlib.Omega.{arith}
use native.Mathlib.Decide.{ℕ_discrete}
use Rattle.rules.specs.Fold.{at}
use Rattle.rules.specs.Instance.{Instance, Assignment, n, minutes_of}
use Rattle.rules.specs.Load.{load, makespan, elsewhere, improves, equilibrium}
use Rattle.rules.specs.Settle.{mover, target, moved, squares, Settled, settle_by, settle}
use Rattle.theory.proofs.Logic.{conflict}
use Rattle.theory.proofs.View.{Least, least, Greatest, greatest, nowhere, found}
use Rattle.theory.proofs.Valid.{Valid, Permitted, eligible-job, on-machine}
use Rattle.theory.proofs.Makespan.{makespan-ge, makespan-le}
use Rattle.theory.proofs.Review.{Better, Improves, elsewhere-is, is-elsewhere, improves-is, is-improves, improves-not, none-settled}
use Rattle.theory.proofs.Square.{move-drop, sum_to-two}
use Rattle.theory.proofs.Move.{load-left, load-joined, load-other, put-permitted}

-- ---- who moves, and where

-- where a job improves, the machine that it goes to is better
pub target-better : (I : Instance) (x : Assignment) (b : ℕ) → Improves I x b
    → (0 < target I x b) × (target I x b ≤ I.m) × Better I x b (target I x b)
unfolding target
target-better I x b r = from (least I.m (elsewhere I x b) (load I x))
  where
    off : elsewhere I x b r.machine ≡ true
    off = is-elsewhere I x b r.machine r.better.listed r.better.other

    from : {t : ℕ} → Least I.m (elsewhere I x b) (load I x) t → (0 < t) × (t ≤ I.m) × Better I x b t
    from (nowhere h) = conflict off (h r.machine r.low r.high)
    from (found j l t h d) =
        let e = elsewhere-is I x b (suc j) t in (
          omega arith,
          l,
          record {
            listed = e.0;
            other = e.1;
            sooner = omega (arith, h r.machine r.low r.high off, r.better.sooner);
          },
        )

-- where no job moves, the assignment is an equilibrium
pub mover-none : (I : Instance) (x : Assignment) → mover I x ≡ 0 → equilibrium I x ≡ true
unfolding mover
mover-none I x e = from (greatest (n I) (improves I x) (minutes_of I)) e
  where
    from : {r : ℕ} → Greatest (n I) (improves I x) (minutes_of I) r → r ≡ 0 → equilibrium I x ≡ true
    from (nowhere h) z = none-settled I x (λ b l u. improves-not I x b (h b l u))
    from (found j l t h) z = absurd (omega arith)

-- the mover improves, and is the longest that does
pub mover-some : (I : Instance) (x : Assignment) (b : ℕ) → mover I x ≡ suc b
    → (b < n I) × Improves I x (suc b) × ((c : ℕ) → 0 < c → c ≤ n I → Improves I x c → minutes_of I c ≤ minutes_of I (suc b))
unfolding mover
mover-some I x b e = from (greatest (n I) (improves I x) (minutes_of I)) e
  where
    from : {r : ℕ} → Greatest (n I) (improves I x) (minutes_of I) r → r ≡ suc b
        → (b < n I) × Improves I x (suc b) × ((c : ℕ) → 0 < c → c ≤ n I → Improves I x c → minutes_of I c ≤ minutes_of I (suc b))
    from (nowhere h) z = absurd (omega arith)
    from (found j l t h) z =
        let q : j ≡ b = omega arith in
        rw (← q) (l, improves-is I x (suc j) t, λ c v w i. h c v w (is-improves I x c i))

-- ---- one move

module _ {I : Instance} {x : Assignment} (w : Permitted I x) (b : ℕ) (r : Improves I x b) where
  ranged : (0 < b) × (b ≤ n I)
  ranged = eligible-job I b r.machine r.better.listed

  apart : at x b ≢ target I x b
  apart e = (target-better I x b r).2.other (sym e)

  pub moved-permitted : Permitted I (moved I x b)
  unfolding moved
  moved-permitted = put-permitted b (target I x b) w (target-better I x b r).2.listed

  pub moved-left : load I (moved I x b) (at x b) + minutes_of I b ≡ load I x (at x b)
  unfolding moved
  moved-left = load-left I x b (target I x b) w.size ranged.0 ranged.1 apart

  pub moved-joined : load I (moved I x b) (target I x b) ≡ load I x (target I x b) + minutes_of I b
  unfolding moved
  moved-joined = load-joined I x b (target I x b) w.size ranged.0 ranged.1 apart

  pub moved_other : (i : ℕ) → i ≢ at x b → i ≢ target I x b → load I (moved I x b) i ≡ load I x i
  unfolding moved
  moved_other = load-other I x b (target I x b) w.size ranged.0 ranged.1

abbrev squared : Instance → Assignment → ℕ → ℕ
squared I x i = load I x i * load I x i

module _ {I : Instance} {x : Assignment} (v : Valid I) (w : Permitted I x) (b : ℕ) (r : Improves I x b) where
  pub move-lowers : squares I (moved I x b) + 2 ≤ squares I x
  unfolding squares
  move-lowers =
      let y = moved I x b in
      let z = ranged w b r in
      let s = on-machine v w b z.0 z.1 in
      let t = target-better I x b r in
      let same : (i : ℕ) → i ≢ at x b → i ≢ target I x b → squared I y i ≡ squared I x i = λ i p q. rw (moved_other w b r i p q) in
      let two = sum_to-two I.m (squared I y) (squared I x) _ _ s.0 s.1 t.0 t.1 (apart w b r) same in
      let fall = move-drop _ _ _ _ _ (v.minutes b z.0 z.1) t.2.sooner (moved-left w b r) (moved-joined w b r) in
      omega (arith, two, fall)

  -- each load after the move is at most one before it
  pub moved-no-later : makespan I (moved I x b) ≤ makespan I x
  moved-no-later = makespan-le I (moved I x b) (makespan I x) each
    where
      top : load I x (at x b) ≤ makespan I x
      top = let z = ranged w b r in let s = on-machine v w b z.0 z.1 in makespan-ge I x (at x b) s.0 s.1

      each : (i : ℕ) → 0 < i → i ≤ I.m → load I (moved I x b) i ≤ makespan I x
      each i p q =
          elim (ℕ_discrete i (at x b)) [
            | yes e ↦ rw e (omega (arith, moved-left w b r, top))
            | no f ↦ elim (ℕ_discrete i (target I x b)) [
              | yes e ↦ rw e (omega (arith, moved-joined w b r, (target-better I x b r).2.sooner, top))
              | no g ↦ omega (arith, moved_other w b r i f g, makespan-ge I x i p q)
            ]
          ]

-- ---- the run

-- what holds at the end of a run from x, with some moves made before
pub record Ended (I : Instance) (x : Assignment) (made : ℕ) (r : Settled) : Type 0 where
  pub allowed : Permitted I r.assignment
  pub settled : equilibrium I r.assignment ≡ true
  pub paid : 2 * r.moves + squares I r.assignment ≤ 2 * made + squares I x
  pub no-later : makespan I r.assignment ≤ makespan I x

stopped : {I : Instance} {x : Assignment} (made : ℕ) → Permitted I x → mover I x ≡ 0
    → Ended I x made (record { assignment = x; moves = made })
stopped {I} {x} made w e = record {
  allowed = w;
  settled = mover-none I x e;
  paid = le_refl _;
  no-later = le_refl _;
}

-- with enough moves allowed, a run ends where no job improves
run-ended : {I : Instance} → Valid I → (f : ℕ) (x : Assignment) (made b : ℕ) → Permitted I x
    → squares I x ≤ 2 * f + 1 → mover I x ≡ b → Ended I x made (settle_by I f x made b)
unfolding settle_by
run-ended v zero x made zero w h e = stopped made w e
run-ended {I} v zero x made (suc b) w h e = absurd (omega (arith, move-lowers v w (suc b) (mover-some I x b e).1))
run-ended v (suc f) x made zero w h e = stopped made w e
run-ended {I} v (suc f) x made (suc b) w h e =
    let r = (mover-some I x b e).1 in
    let y = moved I x (suc b) in
    let less = move-lowers v w (suc b) r in
    let end = run-ended v f y (suc made) (mover I y) (moved-permitted w (suc b) r) (omega arith) refl in
    record {
      allowed = end.allowed;
      settled = end.settled;
      paid = omega (arith, end.paid);
      no-later = le_trans end.no-later (moved-no-later v w (suc b) r);
    }

-- a run that starts with no mover makes no move
pub run-still : (I : Instance) (f : ℕ) (x : Assignment) (made : ℕ) → settle_by I f x made 0 ≡ record { assignment = x; moves = made }
unfolding settle_by
run-still I zero x made = refl
run-still I (suc f) x made = refl

-- any two counts that are enough give the same run
run-same : {I : Instance} → Valid I → (f g : ℕ) (x : Assignment) (made b : ℕ) → Permitted I x
    → squares I x ≤ 2 * f + 1 → squares I x ≤ 2 * g + 1 → mover I x ≡ b → settle_by I f x made b ≡ settle_by I g x made b
unfolding settle_by
run-same {I} v zero g x made zero w h k e = sym (run-still I g x made)
run-same {I} v (suc f) g x made zero w h k e = sym (run-still I g x made)
run-same {I} v zero g x made (suc b) w h k e = absurd (omega (arith, move-lowers v w (suc b) (mover-some I x b e).1))
run-same {I} v (suc f) zero x made (suc b) w h k e = absurd (omega (arith, move-lowers v w (suc b) (mover-some I x b e).1))
run-same {I} v (suc f) (suc g) x made (suc b) w h k e =
    let r = (mover-some I x b e).1 in
    let y = moved I x (suc b) in
    let less = move-lowers v w (suc b) r in
    run-same v f g y (suc made) (mover I y) (moved-permitted w (suc b) r) (omega arith) (omega arith) refl

-- ---- settling

module _ {I : Instance} {x : Assignment} (v : Valid I) (w : Permitted I x) where
  settle-ended : Ended I x 0 (settle I x)
  unfolding settle
  settle-ended = run-ended v (squares I x / 2) x 0 (mover I x) w (omega arith) refl

  pub settle-permitted : Permitted I (settle I x).assignment
  settle-permitted = settle-ended.allowed

  pub settle-equilibrium : equilibrium I (settle I x).assignment ≡ true
  settle-equilibrium = settle-ended.settled

  -- each move is paid for by 2 of the sum of squared loads
  pub settle-paid : 2 * (settle I x).moves + squares I (settle I x).assignment ≤ squares I x
  settle-paid = omega (arith, settle-ended.paid)

  pub settle-moves : 2 * (settle I x).moves ≤ squares I x
  settle-moves = omega (arith, settle-paid)

  pub settle-no-later : makespan I (settle I x).assignment ≤ makespan I x
  settle-no-later = settle-ended.no-later

  -- the end does not hang on the count allowed, where that is enough
  pub settle-enough : (f : ℕ) → squares I x ≤ 2 * f + 1 → settle_by I f x 0 (mover I x) ≡ settle I x
  unfolding settle
  settle-enough f h = run-same v f (squares I x / 2) x 0 (mover I x) w h (omega arith) refl
