-- Who acts in a trial and what it does, by the searches that find it.
use Prim.Native.Nat.{ℕ, zero, suc, ◌*◌, ◌≤◌, ◌<◌}
use mathlib.Core.Path.{◌≡◌, refl, sym, ap, ◌∙◌}
use mathlib.Core.Bool.{Bool, true, false}
use native.Mathlib.Omega.{arith}
use lib.Dec.{leb, eqb}
use borrow.Author.Tests.{leb-true}
use Rattle.rules.specs.Fold.{◌and◌, at, first_to, least_to}
use Rattle.rules.specs.Instance.{Instance, n}
use Rattle.rules.specs.Trial.{Limits, State, Deed, push, lift, can, lift_over, push_or, deed, rest, by_job, by_machine, act, act_job, act_machine, job_deed, machine_deed, job_arc, machine_arc, overloaded, unplaced, some_underloaded}
use Rattle.theory.proofs.Logic.{by_test, conflict, and_left, and_right}
use Rattle.theory.proofs.View.{None}
use Rattle.theory.proofs.Agree.{first-ext, least-le, least-ext}
use Rattle.theory.proofs.Step.{Deeds, deeds}
use Rattle.theory.proofs.Heights.{Shape}
use Rattle.theory.proofs.Underloaded.{overloaded-can}

-- ---- what an item does: with arcs from 1 to c, by the lowest end just below it and the lowest end of all

-- the lowest of c that an arc names and that stands just below height h
abbrev pub below : ℕ → (ℕ → Bool) → (ℕ → ℕ) → ℕ → ℕ
below c arc high h = first_to c (λ j. arc j and eqb h (suc (high j)))

pub deed-pushes : (c : ℕ) (arc : ℕ → Bool) (high : ℕ → ℕ) (h j : ℕ) → below c arc high h ≡ suc j → deed c arc high h ≡ push (suc j)
unfolding deed push_or
deed-pushes c arc high h j e = rw e

over : (q h l : ℕ) → can (lift_over q h l) ≡ true → (lift_over q h l ≡ lift (suc l)) × (0 < q)
unfolding lift_over
over zero h l e = conflict e refl
over (suc q) h l e = (by_test (leb h l) (λ t. rw t) (λ t. conflict e (rw t)), omega arith)

pub deed-lifts : (c : ℕ) (arc : ℕ → Bool) (high : ℕ → ℕ) (h : ℕ) → below c arc high h ≡ 0 → can (deed c arc high h) ≡ true
    → (deed c arc high h ≡ lift (suc (high (least_to c arc high)))) × (0 < least_to c arc high)
unfolding deed push_or
deed-lifts c arc high h e k =
    let d : deed c arc high h ≡ lift_over (least_to c arc high) h (high (least_to c arc high)) = rw e in
    let r = over (least_to c arc high) h (high (least_to c arc high)) (ap can (sym d) ∙ k) in
    (d ∙ r.0, r.1)

-- arcs and heights that agree
pub deed-ext : (c : ℕ) (p q : ℕ → Bool) (f g : ℕ → ℕ) (h : ℕ) → ((i : ℕ) → 0 < i → i ≤ c → p i ≡ q i) → ((i : ℕ) → i ≤ c → f i ≡ g i)
    → deed c p f h ≡ deed c q g h
unfolding deed
deed-ext c p q f g h e d =
    rw (
      first-ext c (λ j. p j and eqb h (suc (f j))) (λ j. q j and eqb h (suc (g j))) (λ i l u. rw (e i l u, d i u)),
      least-ext c p q f g e (λ i l u. d i u),
      d (least_to c q g) (least-le c q g),
    )

-- without an arc it does nothing
deed-none : (c : ℕ) (arc : ℕ → Bool) (high : ℕ → ℕ) (h : ℕ) → None c arc → can (deed c arc high h) ≡ false
deed-none c arc high h z = from (deeds c arc high h)
  where
    from : {d : Deed} → Deeds c arc high h d → can d ≡ false
    from (Deeds.alone y) = refl
    from (Deeds.too_high y j l e w) = refl
    from (Deeds.pushes j l e w) = conflict e (z (suc j) (omega arith) l)
    from (Deeds.lifts j l e w y) = conflict e (z (suc j) (omega arith) l)

-- ---- who acts

-- a machine may act: it is overloaded, and not above 2m
unfoldable pub able : Instance → Limits → State → ℕ → Bool
able I a s i = overloaded I a s i and leb (at s.machine_heights i) (2 * I.m)

module _ (I : Instance) (a : Limits) (s : State) where
  -- a job that has its place, or that has no arc, cannot act
  pub placed-cannot : (b : ℕ) → unplaced s b ≡ false → can (job_deed I a s b) ≡ false
  unfolding job_deed
  placed-cannot b e = rw e

  pub lone-cannot : (b : ℕ) → None I.m (λ i. job_arc I s b i) → can (job_deed I a s b) ≡ false
  unfolding job_deed
  lone-cannot b z =
      by_test (unplaced s b) (λ e. rw e (deed-none I.m (λ i. job_arc I s b i) (λ i. at s.machine_heights i) (at s.job_heights b) z)) (λ e. rw e)

  -- no machine is underloaded: nobody acts
  pub act-dark : some_underloaded I a s ≡ false → act I a s ≡ rest
  unfolding act
  act-dark t = rw t

  idle : (i : ℕ) → able I a s i ≡ false → can (machine_deed I a s i) ≡ false
  unfolding able machine_deed
  idle i t = rw t

  pub able-can : Shape I s → (i : ℕ) → 0 < i → can (machine_deed I a s i) ≡ able I a s i
  unfolding able
  able-can v i i0 =
      by_test (able I a s i)
      (λ t. overloaded-can I a s i v i0 (and_left _ _ t) (leb-true _ _ (and_right (overloaded I a s i) _ t)) ∙ sym t)
      (λ t. idle i t ∙ sym t)

  pub able-deed : (i : ℕ) → able I a s i ≡ true
      → machine_deed I a s i ≡ deed (n I) (λ b. machine_arc s i b) (λ b. at s.job_heights b) (at s.machine_heights i)
  unfolding able machine_deed
  able-deed i t = rw t

  module _ (t : some_underloaded I a s ≡ true) where
    -- the lowest job that can
    pub act-job : (b : ℕ) → first_to (n I) (λ b. can (job_deed I a s b)) ≡ suc b → act I a s ≡ by_job (suc b) (job_deed I a s (suc b))
    unfolding act act_job
    act-job b e = rw (t, e)

    module _ (v : Shape I s) (z : first_to (n I) (λ b. can (job_deed I a s b)) ≡ 0) where
      able-first : act I a s ≡ act_machine I a s (first_to I.m (λ i. able I a s i))
      unfolding act act_job
      able-first = rw (t, z, first-ext I.m (λ i. can (machine_deed I a s i)) (λ i. able I a s i) (λ i l u. able-can v i l))

      -- no job can: the lowest machine that may, or nobody
      pub act-machine : (i : ℕ) → first_to I.m (λ i. able I a s i) ≡ suc i → act I a s ≡ by_machine (suc i) (machine_deed I a s (suc i))
      unfolding act_machine
      act-machine i e = able-first ∙ (rw e)

      pub act-nobody : first_to I.m (λ i. able I a s i) ≡ 0 → act I a s ≡ rest
      unfolding act_machine
      act-nobody e = able-first ∙ (rw e)
