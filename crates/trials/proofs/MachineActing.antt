-- A machine that may acts: it takes a job off, or is lifted.
use Prim.Native.Nat.{ℕ, suc, ◌+◌, ◌≤◌, ◌<◌, ◌^◌}
use mathlib.Core.Path.{◌≡◌, sym, ap, ◌∙◌}
use mathlib.Core.Bool.{Bool, true}
use native.Mathlib.Numerals.{add-one}
use native.Mathlib.Omega.{arith}
use native.Mathlib.Decide.{ℕ_discrete}
use lib.ListN.{length, get_or}
use lib.Dec.{eqb}
use borrow.Author.Tests.{eqb-true, eq-eqb, lt-ltb}
use Rattle.std.proofs.Common.{Some, None}
use Rattle.std.specs.Option.{IsSome}
use Rattle.rules.specs.Fold.{◌and◌, at, put, first_to, least_to}
use Rattle.rules.specs.Instance.{Instance, n, minutes_of}
use Rattle.rules.specs.Trial as T
use Rattle.rules.specs.Trial.{Limits, Deed, push, lift, can, deed, by_machine, act, after, machine_deed, machine_arc}
use Rattle.theory.proofs.Logic.{conflict, and_left, and-mk}
use Rattle.theory.proofs.View as View
use Rattle.theory.proofs.View.{first-hit}
use Rattle.theory.proofs.Agree.{Found, first_found, first-none}
use Rattle.theory.proofs.Fold.{at-put-same, at-put-other}
use Rattle.theory.proofs.Heights.{Shape}
use Rattle.theory.proofs.Acting.{below, deed-ext, able, able-can, able-deed, act-machine}
use Rattle.arrays.specs.declared.Jobs.{Jobs}
use Rattle.arrays.specs.Found.{found}
use Rattle.arrays.proofs.Found.{found_some, found_none}
use Rattle.arrays.proofs.Kept.{left-enough, kept_off}
use Rattle.arrays.proofs.Take.{at_take, take_put}
use Rattle.arrays.proofs.Words.{set-zero}
use Rattle.scans.specs.Waits.{waits}
use Rattle.trials.specs.declared.State.{State}
use Rattle.trials.specs.Moves.{taken_off, machine_lifted}
use Rattle.trials.specs.Track.{state_of, idle, MachineActs, Moved}
use Rattle.trials.proofs.Deeds.{push-found, least-some, lift-least}
use Rattle.trials.proofs.Small.{few-steps, job-low}
use Rattle.trials.proofs.Waiting.{first-can}

module _ {I : Instance} {a : Limits} {j : Jobs} {t : State} {i : ℕ} (v : MachineActs I a j t i) where
  abbrev s : T.State
  s = state_of I t

  shape : Shape I s
  shape = v.tracks.counted.shape

  acting : Found I.m (λ k. able I a s k) i
  acting = first_found I.m _ i v.first

  pub machine-in : i < 24
  machine-in = omega (arith, acting.within, v.reads.machines, v.reads.few)

  pub few : t.lifts + t.pushes ≤ 549976
  few = few-steps j v.reads t v.tracks.counted

  none-waits : first_to (n I) (λ b. waits t.placement.places j.masks.now b) ≡ 0
  none-waits = found_none (sym v.tracks.beside.waiting ∙ v.none)

  -- what the machine does, by the arrays
  abbrev on : ℕ → Bool
  on b = eqb (at t.placement.places b) (i + 1)

  arc-is : (b : ℕ) → 0 < b → b ≤ n I → machine_arc s (suc i) b ≡ on b
  unfolding machine_arc
  arc-is b p q = rw (at_take (n I) t.placement.places b q, add-one i)

  deed-is : machine_deed I a s (suc i) ≡ deed j.n on (at t.jobs) (at t.machines (suc i))
  deed-is =
      able-deed I a s (suc i) acting.passes
      ∙ (rw (at_take I.m t.machines (suc i) acting.within))
      ∙ deed-ext (n I) (λ b. machine_arc s (suc i) b) on (λ b. at s.job_heights b) (at t.jobs) (at t.machines (suc i)) arc-is
      (λ b u. at_take (n I) t.jobs b u)
      ∙ ap (λ (k : ℕ). deed k on (at t.jobs) (at t.machines (suc i))) v.reads.jobs

  acts : can (deed j.n on (at t.jobs) (at t.machines (suc i))) ≡ true
  acts = ap can (sym deed-is) ∙ able-can I a s shape (suc i) (omega arith) ∙ acting.passes

  -- it does d
  act-is : (d : Deed) → deed j.n on (at t.jobs) (at t.machines (suc i)) ≡ d → act I a s ≡ by_machine (suc i) d
  act-is d e = act-machine I a s v.some shape (first-can v.reads v.tracks a ∙ none-waits) i v.first ∙ ap (by_machine (suc i)) (deed-is ∙ e)

  -- ---- it takes the job at index b off

  module _ (b : ℕ) (e : Some b ≡ found (below j.n on (at t.jobs) (at t.machines (suc i)))) where
    off : Found j.n (λ d. on d and eqb (at t.machines (suc i)) (suc (at t.jobs d))) b
    off = first_found j.n _ b (found_some (sym e))

    job-in : b < j.n
    job-in = off.within

    in_all : b < n I
    in_all = omega (arith, job-in, v.reads.jobs)

    on-it : at s.assignment (suc b) ≡ suc i
    on-it = at_take (n I) t.placement.places (suc b) in_all ∙ eqb-true _ _ (and_left _ _ off.passes) ∙ add-one i

    act-push : act I a s ≡ by_machine (suc i) (push (suc b))
    act-push = act-is _ (push-found j.n on t.jobs _ b e).1

    module _ (long : length t.placement.loads ≡ 24) where
      weight : get_or j.minutes.now b 0 ≡ minutes_of I (suc b)
      weight = v.reads.minutes (suc b) (omega arith) job-in

      in-bank : I.m ≤ length t.placement.loads
      in-bank = omega (arith, v.reads.machines, v.reads.few)

      enough : get_or j.minutes.now b 0 ≤ get_or t.placement.loads i 0
      enough =
          left-enough I s.assignment t.placement.loads (suc b) shape.jobs (omega arith) in_all in-bank v.tracks.beside.loads _ weight (suc i) on-it
          (omega arith) acting.within

      pub off-room : (b < j.n) × (i < 24) × (get_or j.minutes.now b 0 ≤ get_or t.placement.loads i 0) × (t.pushes + 1 < 2 ^ 32)
      off-room = (job-in, machine-in, enough, omega (arith, few))

      pub job-off : length t.placement.places ≡ 224 → Moved I a j t (taken_off t j b i)
      job-off wide = record {
        is = (rw (take_put (n I) t.placement.places (suc b) 0 in_all, add-one t.pushes)) ∙ sym (ap (after s) act-push);
        rests = sym (ap idle act-push);
        beside = record {
          loads = λ q q0 qm.
              rw (take_put (n I) t.placement.places (suc b) 0 in_all)
              (kept_off I s.assignment t.placement.loads (suc b) shape.jobs (omega arith) in_all in-bank v.tracks.beside.loads _ weight (suc i) on-it
              (omega arith) acting.within q q0 qm);
          waiting = ap found (sym (first-hit (n I) _ b in_all others self));
        };
      }
        where
          others : View.None b (λ d. waits (put t.placement.places (suc b) 0) j.masks.now d)
          others d p q =
              rw (at-put-other t.placement.places (suc b) d 0 (λ z. omega arith))
              (first-none (n I) _ none-waits d p (omega (arith, in_all)))

          set-some : 0 < at j.masks.now (suc b)
          set-some =
              let e = v.reads.masks (suc b) (suc i) (omega arith) job-in (omega arith) machine-in
              ∙ shape.listed (suc b) (suc i) (omega arith) on-it in
              elim (ℕ_discrete (at j.masks.now (suc b)) 0) [ yes z ↦ conflict e (set-zero (at j.masks.now (suc b)) z (suc i)) | no ne ↦ omega arith ]

          self : waits (put t.placement.places (suc b) 0) j.masks.now (suc b) ≡ true
          self =
              and-mk _ _ (eq-eqb _ _ (at-put-same t.placement.places (suc b) 0 (omega arith) (omega (arith, job-in, v.reads.most))))
              (lt-ltb _ _ set-some)

  -- ---- it is lifted

  module _ (e : None ≡ found (below j.n on (at t.jobs) (at t.machines (suc i)))) where
    pub some-job : IsSome (found (least_to j.n on (at t.jobs)))
    some-job = least-some j.n on t.jobs _ acts e

    module _ (k : ℕ) (f : Some k ≡ found (least_to j.n on (at t.jobs))) where
      pub least-low : (k < 224) × (get_or t.jobs k 0 ≤ 51)
      least-low =
          let h = (lift-least j.n on t.jobs _ acts e k f).0 in
          (omega (arith, v.reads.most), job-low j v.reads t v.tracks.counted (suc k) h)

      act-lift : act I a s ≡ by_machine (suc i) (lift (suc (get_or t.jobs k 0)))
      act-lift = act-is _ (lift-least j.n on t.jobs _ acts e k f).1

      pub machine-lifted : Moved I a j t (machine_lifted t i (get_or t.jobs k 0 + 1))
      machine-lifted = record {
        is =
            (rw (add-one (get_or t.jobs k 0), take_put I.m t.machines (suc i) (suc (get_or t.jobs k 0)) acting.within, add-one t.lifts))
            ∙ sym (ap (after s) act-lift);
        rests = sym (ap idle act-lift);
        beside = record { loads = v.tracks.beside.loads; waiting = v.tracks.beside.waiting };
      }
