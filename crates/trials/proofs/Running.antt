-- A trial's steps one after the other, and its counts as what ends them.
use Prim.Native.Nat.{ℕ, ◌+◌, ◌-◌, ◌<◌}
use mathlib.Core.Path.{◌≡◌, refl, sym, ap, subst, ◌∙◌}
use mathlib.Core.Bool.{true, false}
use native.Mathlib.Omega.{arith}
use lib.ListN.{take, replicate}
use Rattle.std.proofs.Common.{Option}
use Rattle.std.proofs.lemmas.List.{take-replicate}
use Rattle.rules.specs.Fold.{first_to}
use Rattle.rules.specs.Instance.{Instance, Assignment, n}
use Rattle.rules.specs.Load.{load}
use Rattle.rules.specs.Trial as T
use Rattle.rules.specs.Trial.{Limits, rest, act, after}
use Rattle.theory.proofs.Logic.{conflict}
use Rattle.theory.proofs.Steps.{made, Acting, adds_one}
use Rattle.theory.proofs.Ending.{Counted, counted_step, counted_start}
use Rattle.theory.proofs.Iterate.{Leads, here, step, leads-trans, leads-end}
use Rattle.arrays.specs.declared.Jobs.{Jobs}
use Rattle.arrays.specs.declared.Placement.{Placement}
use Rattle.arrays.specs.Found.{found}
use Rattle.scans.specs.Waits.{waits}
use Rattle.trials.specs.declared.Bounds.{Bounds}
use Rattle.trials.specs.declared.State.{State}
use Rattle.trials.specs.Track.{state_of, idle, Setup, Tracks, Trying, After, Moved, Starts, Ends}
use Rattle.trials.proofs.Small.{few-steps}

-- how many steps are left at the most
abbrev pub left : State → ℕ
left t = 549977 - (t.lifts + t.pushes)

-- the steps of the rules lead from x to t
pub record Underway (I : Instance) (a : Limits) (j : Jobs) (x : Assignment) (t : State) : Type 0 where
  pub leads : Leads I a (T.start I x) (state_of I t)
  pub tracks : Tracks I j t

module _ {I : Instance} {a : Limits} {j : Jobs} {x : Assignment} {t : State} (g : Underway I a j x t) where
  pub trying : {l : Bounds} → Setup I a j l → Trying I a j l t
  trying u = record { setup = u; tracks = g.tracks }

  pub one_more : {u : State} → Moved I a j t u → Underway I a j x u
  one_more {u} k = record {
    leads = leads-trans g.leads (step {s = state_of I t} {t = state_of I u} (subst (λ (z : T.State). Leads I a z (state_of I u)) k.is here));
    tracks = record {
      counted = subst (λ (z : T.State). Counted I z) (sym k.is) (counted_step I a (state_of I t) g.tracks.counted);
      beside = k.beside;
    };
  }

  -- fewer steps are left at the most
  pub nearer : {l : Bounds} {u : State} → Setup I a j l → Moved I a j t u → left u < left t
  nearer {u = u} w k =
      let s = state_of I t in
      let z = adds_one I a s (act I a s) refl (acting-of (act I a s) (sym k.rests)) in
      let y : u.lifts + u.pushes ≡ made (after s (act I a s)) = ap made k.is in
      omega (arith, few-steps j w.reads t g.tracks.counted)
    where
      acting-of : (y : T.Act) → idle y ≡ false → Acting y
      acting-of T.rest e = conflict refl e
      acting-of (T.by_job b d) e = tt
      acting-of (T.by_machine i d) e = tt

pub at-end : {I : Instance} {a : Limits} {j : Jobs} {l : Bounds} {p : Placement} {t u : State}
    → Starts I a j l p → Underway I a j (take j.n p.places) t → After I a j t u true → Ends I a (take j.n p.places) u
at-end {I} {a} {j} {p = p} {t} {u} w g k =
    let e = rests-of (act I a (state_of I t)) (sym k.rests) in
    let same : state_of I u ≡ state_of I t = k.is ∙ ap (after (state_of I t)) e in
    record {
      is = same ∙ leads-end I (take j.n p.places) w.partial a g.leads e;
      loads = k.beside.loads;
    }
  where
    rests-of : (y : T.Act) → idle y ≡ true → y ≡ rest
    rests-of T.rest e = refl
    rests-of (T.by_job b d) e = conflict e refl
    rests-of (T.by_machine i d) e = conflict e refl

-- ---- the start

abbrev pub fresh : Placement → Option ℕ → State
fresh p waiting = record {
  machines = replicate 24 0;
  jobs = replicate 224 0;
  placement = p;
  lifts = 0;
  pushes = 0;
  waiting = waiting;
}

module _ {I : Instance} {a : Limits} {j : Jobs} {l : Bounds} {p : Placement} (w : Starts I a j l p) (waiting : Option ℕ)
    (f : waiting ≡ found (first_to j.n (λ b. waits p.places j.masks.now b))) where
  fresh-is : state_of I (fresh p waiting) ≡ T.start I (take j.n p.places)
  fresh-is =
      let r = w.setup.reads in
      rw (
        take-replicate {X = ℕ} I.m 24 0 (omega (arith, r.machines, r.few)),
        take-replicate {X = ℕ} (n I) 224 0 (omega (arith, r.jobs, r.most)),
        r.jobs,
      )

  pub begun : Underway I a j (take j.n p.places) (fresh p waiting)
  begun = record {
    leads = subst (λ (z : T.State). Leads I a (T.start I (take j.n p.places)) z) (sym fresh-is) here;
    tracks = record {
      counted = subst (λ (z : T.State). Counted I z) (sym fresh-is) (counted_start I (take j.n p.places) w.partial a);
      beside = record {
        loads = λ i q h. w.kept i q h ∙ ap (λ (k : ℕ). load I (take k p.places) i) (sym w.setup.reads.jobs);
        waiting = f ∙ ap (λ (k : ℕ). found (first_to k (λ b. waits p.places j.masks.now b))) (sym w.setup.reads.jobs);
      };
    };
  }
