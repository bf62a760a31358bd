-- A job without a place acts: it is put on a machine, or is lifted.
use Prim.Native.Nat.{ℕ, suc, ◌+◌, ◌≤◌, ◌<◌, ◌^◌}
use mathlib.Core.Path.{◌≡◌, refl, sym, ap, ◌∙◌}
use mathlib.Core.Bool.{Bool, true, false}
use native.Mathlib.Numerals.{add-one}
use native.Mathlib.Omega.{arith}
use lib.ListN.{length, get_or}
use lib.Dec.{eqb}
use borrow.Author.Tests.{eqb-true, ltb-true, ne_eqb}
use Rattle.std.proofs.Common.{Some, None}
use Rattle.std.specs.Option.{IsSome}
use Rattle.rules.specs.Fold.{◌and◌, at, first_to, least_to}
use Rattle.rules.specs.Instance.{Instance, n, eligible}
use Rattle.rules.specs.Load.{elsewhere}
use Rattle.rules.specs.Trial as T
use Rattle.rules.specs.Trial.{Limits, Deed, push, lift, can, deed, by_job, act, after, job_deed, job_arc}
use Rattle.theory.proofs.Logic.{and_left, and_right}
use Rattle.theory.proofs.View as View
use Rattle.theory.proofs.Agree.{Found, first_found}
use Rattle.theory.proofs.Heights.{Shape, unplaced-mk}
use Rattle.theory.proofs.Underloaded.{unplaced-can}
use Rattle.theory.proofs.Acting.{below, deed-ext, act-job}
use Rattle.arrays.specs.declared.Jobs.{Jobs}
use Rattle.arrays.specs.Found.{found}
use Rattle.arrays.specs.Sets.{has}
use Rattle.arrays.proofs.Found.{found_some}
use Rattle.arrays.proofs.Kept.{kept_on}
use Rattle.arrays.proofs.Take.{at_take, take_put}
use Rattle.scans.specs.Waits.{waits}
use Rattle.trials.specs.declared.State.{State}
use Rattle.trials.specs.Moves.{job_placed, job_lifted}
use Rattle.trials.specs.Track.{state_of, idle, JobActs, Moved}
use Rattle.trials.proofs.Deeds.{push-found, least-some, lift-least}
use Rattle.trials.proofs.Small.{few-steps, loads-small, machine-low}
use Rattle.trials.proofs.Waiting.{some-machine, first-can}

module _ {I : Instance} {a : Limits} {j : Jobs} {t : State} {b : ℕ} (v : JobActs I a j t b) where
  abbrev s : T.State
  s = state_of I t

  shape : Shape I s
  shape = v.tracks.counted.shape

  waits-first : first_to (n I) (λ b. waits t.placement.places j.masks.now b) ≡ suc b
  waits-first = found_some (sym v.tracks.beside.waiting ∙ v.first)

  stands : Found (n I) (λ b. waits t.placement.places j.masks.now b) b
  stands = first_found (n I) _ b waits-first

  in_all : b < n I
  in_all = stands.within

  pub job-in : b < j.n
  job-in = omega (arith, in_all, v.reads.jobs)

  -- no lower job waits
  pub lowest : View.None b (λ d. waits t.placement.places j.masks.now d)
  lowest = stands.lowest

  pub few : t.lifts + t.pushes ≤ 549976
  few = few-steps j v.reads t v.tracks.counted

  no_place : at s.assignment (suc b) ≡ 0
  no_place = at_take (n I) t.placement.places (suc b) in_all ∙ eqb-true _ _ (and_left _ _ stands.passes)

  arc-is : (i : ℕ) → 0 < i → i ≤ I.m → job_arc I s (suc b) i ≡ has (at j.masks.now (suc b)) i
  unfolding job_arc elsewhere ◌and◌
  arc-is i l u =
      (rw (no_place, ne_eqb i 0 (λ e. omega arith)) (and-true (eligible I (suc b) i)))
      ∙ sym (v.reads.masks (suc b) i (omega arith) job-in l (omega (arith, v.reads.machines, v.reads.few)))
    where
      and-true : (t : Bool) → t and true ≡ t
      and-true true = refl
      and-true false = refl

  -- what the job does, by the arrays
  abbrev mask : ℕ → Bool
  mask i = has (at j.masks.now (suc b)) i

  deed-is : job_deed I a s (suc b) ≡ deed j.m mask (at t.machines) (at t.jobs (suc b))
  unfolding job_deed
  deed-is =
      (rw (unplaced-mk s (suc b) no_place, at_take (n I) t.jobs (suc b) in_all))
      ∙ deed-ext I.m (λ i. job_arc I s (suc b) i) mask (λ i. at s.machine_heights i) (at t.machines) (at t.jobs (suc b)) arc-is
      (λ i u. at_take I.m t.machines i u)
      ∙ ap (λ (k : ℕ). deed k mask (at t.machines) (at t.jobs (suc b))) v.reads.machines

  acts : can (deed j.m mask (at t.machines) (at t.jobs (suc b))) ≡ true
  acts =
      ap can (sym deed-is)
      ∙ unplaced-can I a s (suc b) shape no_place
      (some-machine v.reads v.tracks a (suc b) (omega arith) in_all
      (ltb-true _ _ (and_right (eqb (at t.placement.places (suc b)) 0) _ stands.passes)))

  -- it does d
  act-is : (d : Deed) → deed j.m mask (at t.machines) (at t.jobs (suc b)) ≡ d → act I a s ≡ by_job (suc b) d
  act-is d e = act-job I a s v.some b (first-can v.reads v.tracks a ∙ waits-first) ∙ ap (by_job (suc b)) (deed-is ∙ e)

  -- ---- it is put on the machine at index i

  module _ (i : ℕ) (e : Some i ≡ found (below j.m mask (at t.machines) (at t.jobs (suc b)))) where
    goal-in : i < j.m
    goal-in = (push-found j.m mask t.machines _ i e).0

    pub goal-within : i < 24
    goal-within = omega (arith, goal-in, v.reads.few)

    pub room : (get_or t.placement.loads i 0 + get_or j.minutes.now b 0 < 2 ^ 32) × (t.pushes + 1 < 2 ^ 32)
    room = (
      omega (arith, loads-small j v.reads _ _ v.tracks.beside.loads (suc i) (omega arith) goal-in, v.reads.minutes (suc b) (omega arith) job-in, v.reads.small.short (suc b)),
      omega (arith, few),
    )

    act-push : act I a s ≡ by_job (suc b) (push (suc i))
    act-push = act-is _ (push-found j.m mask t.machines _ i e).1

    pub job-placed : length t.placement.loads ≡ 24 → Moved I a j t (job_placed t j b i)
    job-placed long = record {
      is = (rw (add-one i, take_put (n I) t.placement.places (suc b) (suc i) in_all, add-one t.pushes)) ∙ sym (ap (after s) act-push);
      rests = sym (ap idle act-push);
      beside = record {
        loads = λ k k0 km.
            rw (add-one i, take_put (n I) t.placement.places (suc b) (suc i) in_all)
            (kept_on I s.assignment t.placement.loads (suc b) shape.jobs (omega arith) in_all (omega (arith, v.reads.machines, v.reads.few))
            v.tracks.beside.loads _ (v.reads.minutes (suc b) (omega arith) job-in) (suc i) no_place (omega arith)
            (omega (arith, goal-in, v.reads.machines)) k k0 km);
        waiting = rw v.reads.jobs;
      };
    }

  -- ---- it is lifted

  module _ (e : None ≡ found (below j.m mask (at t.machines) (at t.jobs (suc b)))) where
    pub some-goal : IsSome (found (least_to j.m mask (at t.machines)))
    some-goal = least-some j.m mask t.machines _ acts e

    module _ (k : ℕ) (f : Some k ≡ found (least_to j.m mask (at t.machines))) where
      pub least-low : (k < 24) × (get_or t.machines k 0 ≤ 50)
      least-low =
          let h = (lift-least j.m mask t.machines _ acts e k f).0 in
          (omega (arith, v.reads.few), machine-low j v.reads t v.tracks.counted (suc k) h)

      act-lift : act I a s ≡ by_job (suc b) (lift (suc (get_or t.machines k 0)))
      act-lift = act-is _ (lift-least j.m mask t.machines _ acts e k f).1

      pub job-lifted : Moved I a j t (job_lifted t b (get_or t.machines k 0 + 1))
      job-lifted = record {
        is =
            (rw (add-one (get_or t.machines k 0), take_put (n I) t.jobs (suc b) (suc (get_or t.machines k 0)) in_all, add-one t.lifts))
            ∙ sym (ap (after s) act-lift);
        rests = sym (ap idle act-lift);
        beside = record { loads = v.tracks.beside.loads; waiting = v.tracks.beside.waiting };
      }
