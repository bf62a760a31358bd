-- The jobs that can act are those that wait: they have no place, and some machine may run them.
use Prim.Native.Nat.{ℕ, suc, ◌+◌, ◌≤◌, ◌<◌}
use mathlib.Core.Path.{◌≡◌, refl, sym, ◌∙◌}
use mathlib.Core.Bool.{Bool, true, false}
use mathlib.Core.List.{List}
use native.Mathlib.Numerals.{add-one}
use native.Mathlib.Omega.{arith}
use lib.ListN.{length, set}
use lib.Dec.{eqb}
use borrow.Author.Tests.{eqb-true, ne_eqb, ltb-true, ltb-false}
use Rattle.rules.specs.Fold.{◌and◌, at, first_to, any_to}
use Rattle.rules.specs.Instance.{Instance, n, eligible}
use Rattle.rules.specs.Load.{elsewhere}
use Rattle.rules.specs.Trial as T
use Rattle.rules.specs.Trial.{Limits, can, job_deed, job_arc, unplaced}
use Rattle.theory.proofs.Logic.{by_test, conflict, and_left, and_right, and-no-left}
use Rattle.theory.proofs.View.{None, none_more, Some, here, any_some, any_none}
use Rattle.theory.proofs.Agree.{first-ext}
use Rattle.theory.proofs.Fold.{at-put-same, at-put-other}
use Rattle.theory.proofs.Underloaded.{unplaced-can}
use Rattle.theory.proofs.Acting.{placed-cannot, lone-cannot}
use Rattle.arrays.specs.declared.Jobs.{Jobs}
use Rattle.arrays.specs.Jobs.{Says}
use Rattle.arrays.specs.Sets.{has}
use Rattle.arrays.proofs.Take.{at_take}
use Rattle.arrays.proofs.Words.{set-zero, empty-zero}
use Rattle.scans.specs.Waits.{waits}
use Rattle.trials.specs.declared.State.{State}
use Rattle.trials.specs.Track.{state_of, Tracks}

and-rest : (x y : Bool) → x and y ≡ false → x ≡ true → y ≡ false
unfolding ◌and◌
and-rest true y e f = e
and-rest false y e f = conflict f refl

arc-none : (I : Instance) (s : T.State) (b i : ℕ) → eligible I b i ≡ false → job_arc I s b i ≡ false
unfolding job_arc elsewhere
arc-none I s b i e = and-no-left _ _ e

unplaced-is : (I : Instance) (t : State) (b : ℕ) → b ≤ n I → unplaced (state_of I t) b ≡ eqb (at t.placement.places b) 0
unfolding unplaced
unplaced-is I t b h = rw (at_take (n I) t.placement.places b h)

module _ {I : Instance} {j : Jobs} (r : Says I j) {t : State} (k : Tracks I j t) (a : Limits) where
  abbrev s : T.State
  s = state_of I t

  pub some-machine : (d : ℕ) → 0 < d → d ≤ n I → 0 < at j.masks.now d → Some I.m (λ i. eligible I d i)
  some-machine d p q h =
      by_test (any_to 24 (λ i. has (at j.masks.now d) i))
      (λ e. from (any_some 24 _ e))
      (λ e. absurd (omega (arith, empty-zero (at j.masks.now d) (r.words d) (any_none 24 _ e))))
    where
      from : Some 24 (λ i. has (at j.masks.now d) i) → Some I.m (λ i. eligible I d i)
      from (here i l u e) =
          let y = sym (r.masks d i p (omega (arith, r.jobs)) l u) ∙ e in
          here i l (r.valid.ranged d i y).1 y

  can-waits : (d : ℕ) → 0 < d → d ≤ n I → can (job_deed I a s d) ≡ waits t.placement.places j.masks.now d
  can-waits d p q =
      by_test (waits t.placement.places j.masks.now d)
      (λ e.
      unplaced-can I a s d k.counted.shape (at_take (n I) t.placement.places d q ∙ eqb-true _ _ (and_left _ _ e))
      (some-machine d p q (ltb-true _ _ (and_right (eqb (at t.placement.places d) 0) _ e))) ∙ sym e)
      (λ e. by_test (unplaced s d)
      (λ u.
      let z = ltb-false 0 (at j.masks.now d) (and-rest (eqb (at t.placement.places d) 0) _ e (sym (unplaced-is I t d q) ∙ u)) in
      lone-cannot I a s d (λ i l h.
      arc-none I s d i
      (sym (r.masks d i p (omega (arith, r.jobs)) l (omega (arith, r.machines, r.few))) ∙ set-zero (at j.masks.now d) (omega arith) i)))
      (λ u. placed-cannot I a s d u) ∙ sym e)

  pub first-can : first_to (n I) (λ d. can (job_deed I a s d)) ≡ first_to (n I) (λ d. waits t.placement.places j.masks.now d)
  first-can = first-ext (n I) (λ d. can (job_deed I a s d)) (λ d. waits t.placement.places j.masks.now d) can-waits

-- the job at index b gets a place, and no lower one waits: up to it, none does
pub none-placed : (places sets : List ℕ) (b i : ℕ) → b < length places → None b (λ d. waits places sets d)
    → None (b + 1) (λ d. waits (set places b (i + 1)) sets d)
none-placed places sets b i h z =
    rw (add-one b) (none_more b _
    (λ d p q. rw (at-put-other places (suc b) d (i + 1) (λ e. omega arith)) (z d p q))
    (and-no-left (eqb (at (set places b (i + 1)) (suc b)) 0) _
    (ne_eqb (at (set places b (i + 1)) (suc b)) 0 (λ e. omega (arith, at-put-same places (suc b) (i + 1) (omega arith) h)))))
