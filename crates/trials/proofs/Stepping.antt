-- Who acts, by the arrays; and where nothing does.
use Prim.Native.Nat.{◌*◌}
use mathlib.Core.Path.{◌≡◌, sym, ap, ◌∙◌}
use mathlib.Core.Bool.{true, false}
use lib.Dec.{leb, ltb}
use Rattle.std.proofs.Common.{ℕ, Some, None}
use Rattle.rules.specs.Fold.{◌and◌, at, first_to, any_to}
use Rattle.rules.specs.Instance.{Instance}
use Rattle.rules.specs.Trial as T
use Rattle.rules.specs.Trial.{Limits, rest, act, after}
use Rattle.theory.proofs.Acting.{act-dark, act-nobody}
use Rattle.arrays.specs.declared.Jobs.{Jobs}
use Rattle.arrays.specs.Found.{found}
use Rattle.arrays.proofs.Found.{found_some, found_none}
use Rattle.trials.specs.declared.Bounds.{Bounds}
use Rattle.trials.specs.declared.State.{State}
use Rattle.trials.specs.Track.{state_of, idle, Trying, JobActs, MachineActs, After}
use Rattle.trials.proofs.Scanned.{some_is, first-able}
use Rattle.trials.proofs.Waiting.{first-can}

module _ {I : Instance} {a : Limits} {j : Jobs} {l : Bounds} {t : State} (v : Trying I a j l t) where
  abbrev s : T.State
  s = state_of I t

  -- nothing acts
  at_rest : act I a s ≡ rest → After I a j t t true
  at_rest e = record { is = sym (ap (after s) e); rests = sym (ap idle e); beside = v.tracks.beside }

  some-by : any_to j.m (λ i. leb (at t.placement.loads i) (at l.low.now i)) ≡ T.some_underloaded I a s
  some-by = some_is j v.setup.reads l.low.now l.high.now v.setup.low v.setup.high t v.tracks.beside.loads

  pub none-light : false ≡ any_to j.m (λ i. leb (at t.placement.loads i) (at l.low.now i)) → After I a j t t true
  none-light e = at_rest (act-dark I a s (sym some-by ∙ sym e))

  module _ (e : true ≡ any_to j.m (λ i. leb (at t.placement.loads i) (at l.low.now i))) where
    pub job-acts : (b : ℕ) → t.waiting ≡ Some b → JobActs I a j t b
    job-acts b f = record { reads = v.setup.reads; tracks = v.tracks; some = sym some-by ∙ sym e; first = f }

    module _ (z : t.waiting ≡ None) where
      pub none-able : None ≡ found (first_to j.m (λ i. ltb (at l.high.now i) (at t.placement.loads i) and leb (at t.machines i) (2 * j.m))) → After I a j t t true
      none-able f =
          at_rest
          (act-nobody I a s (sym some-by ∙ sym e) v.tracks.counted.shape (first-can v.setup.reads v.tracks a ∙ found_none (sym v.tracks.beside.waiting ∙ z))
          (sym (first-able j v.setup.reads l.low.now l.high.now v.setup.low v.setup.high t v.tracks.beside.loads) ∙ found_none (sym f)))

      pub machine-acts : (i : ℕ) → Some i ≡ found (first_to j.m (λ i. ltb (at l.high.now i) (at t.placement.loads i) and leb (at t.machines i) (2 * j.m))) → MachineActs I a j t i
      machine-acts i f = record {
        reads = v.setup.reads;
        tracks = v.tracks;
        some = sym some-by ∙ sym e;
        none = z;
        first = sym (first-able j v.setup.reads l.low.now l.high.now v.setup.low v.setup.high t v.tracks.beside.loads) ∙ found_some (sym f);
      }
