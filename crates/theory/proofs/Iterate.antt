-- A trial as its steps made one after the other: wherever they come to rest is where the trial ends.
use Prim.Native.Nat.{ℕ, zero, suc, ◌+◌}
use mathlib.Core.Path.{◌≡◌, refl, sym, ap, ◌∙◌}
use Rattle.rules.specs.Instance.{Instance, Assignment}
use Rattle.rules.specs.Trial.{Limits, State, Act, rest, by_job, by_machine, act, after, start, ended_by, steps_by, lift_bound, push_bound}
use Rattle.theory.proofs.Valid.{Partial}
use Rattle.theory.proofs.Ending.{trial-rests}

-- t comes from s by steps
pub data Leads (I : Instance) (a : Limits) : State → State → Type 0 where
  here : {s : State} → Leads I a s s
  step : {s t : State} → Leads I a (after s (act I a s)) t → Leads I a s t

pub leads-trans : {I : Instance} {a : Limits} {s t u : State} → Leads I a s t → Leads I a t u → Leads I a s u
leads-trans here q = q
leads-trans (step p) q = step (leads-trans p q)

-- one step, by what acts
pub leads-by : (I : Instance) (a : Limits) {s t : State} (x : Act) → act I a s ≡ x → Leads I a (after s x) t → Leads I a s t
leads-by I a {s} {t} x e p = step {s = s} {t = t} (rw e p)

module _ {I : Instance} {a : Limits} where
  stay : {s t : State} → act I a s ≡ rest → Leads I a s t → t ≡ s
  stay e here = refl
  stay {s} e (step p) =
      let q : after s (act I a s) ≡ s = ap (after s) e in
      stay (ap (act I a) q ∙ e) p ∙ q

  -- there is one place to come to rest
  pub leads_one : {s t u : State} → Leads I a s t → act I a t ≡ rest → Leads I a s u → act I a u ≡ rest → t ≡ u
  leads_one here e q f = sym (stay e q)
  leads_one (step p) e here f = stay f (step p)
  leads_one (step p) e (step q) f = leads_one p e q f

pub steps-lead : (I : Instance) (a : Limits) (f : ℕ) (s : State) (x : Act) → act I a s ≡ x → Leads I a s (steps_by I a f s x)
unfolding steps_by
steps-lead I a zero s x e = here
steps-lead I a (suc f) s rest e = here
steps-lead I a (suc f) s (by_job b d) e = leads-by I a _ e (steps-lead I a f _ _ refl)
steps-lead I a (suc f) s (by_machine i d) e = leads-by I a _ e (steps-lead I a f _ _ refl)

-- steps from the start that come to rest have come to the trial's end
pub leads-end : (I : Instance) (x : Assignment) → Partial I x → (a : Limits) {t : State} → Leads I a (start I x) t → act I a t ≡ rest
    → t ≡ ended_by I x a
unfolding ended_by
leads-end I x w a p e =
    leads_one p e (steps-lead I a (lift_bound I + push_bound I) (start I x) _ refl) (trial-rests I x w a)
