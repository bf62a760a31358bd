-- A trial's end on the arrays, from a permitted assignment, and what the rules make of it.
use Prim.Native.Nat.{ℕ, zero, suc, ◌+◌, ◌≤◌, ◌<◌}
use mathlib.Core.Path.{◌≡◌, refl, sym, ap, subst, ◌∙◌}
use mathlib.Core.Bool.{Bool, true, false}
use mathlib.Core.List.{List}
use native.Mathlib.Omega.{arith}
use lib.ListN.{take, replicate, get_or-replicate}
use lib.Dec.{ltb, leb}
use borrow.Author.Tests.{ne_eqb}
use Rattle.std.proofs.Common.{Some, None}
use Rattle.rules.specs.Fold.{at, mem, first_to, any_to}
use Rattle.rules.specs.Instance.{Instance, Assignment, n}
use Rattle.rules.specs.Load.{load, longest}
use Rattle.rules.specs.Trial as T
use Rattle.rules.specs.Trial.{at_level, overloaded, unplaced}
use Rattle.rules.specs.Group.{overflows, group, passed, failed, trial}
use Rattle.theory.proofs.Logic.{or-skip}
use Rattle.theory.proofs.Agree.{any-miss, first-none, first_any, first-le}
use Rattle.theory.proofs.Valid.{Permitted}
use Rattle.theory.proofs.Heights.{permitted-partial}
use Rattle.theory.proofs.Closure.{IsGroup, those, closure-group}
use Rattle.theory.proofs.Trial.{trial-placed, trial-permitted}
use Rattle.arrays.specs.declared.Jobs.{Jobs}
use Rattle.arrays.specs.declared.Placement.{Placement}
use Rattle.arrays.specs.Found.{found}
use Rattle.arrays.specs.Reads.{Kept}
use Rattle.arrays.specs.Sets.{SetOf}
use Rattle.arrays.proofs.Found.{found_some, found_none}
use Rattle.scans.specs.Grouping.{group_by}
use Rattle.trials.specs.declared.Bounds.{Bounds}
use Rattle.trials.specs.declared.State.{State}
use Rattle.trials.specs.Track.{state_of, Starts, Ends}
use Rattle.trials.specs.Attempt.{Standing, Failure, Tries}
use Rattle.trials.proofs.Scanned.{some_is, first-overloaded}

-- 24 times the same limit
same-limit : (v i : ℕ) → 0 < i → i ≤ 24 → at (replicate 24 v) i ≡ v
same-limit v zero p q = absurd (omega arith)
same-limit v (suc i) p q = get_or-replicate 24 i v 0 q

module _ {I : Instance} {j : Jobs} {p : Placement} (w : Standing I j p) (a limit : ℕ) (e : limit ≡ a + longest I) where
  abbrev x : Assignment
  x = take j.n p.places

  low-as : (i : ℕ) → 0 < i → i ≤ j.m → at (replicate 24 a) i ≡ (at_level I a).low i
  unfolding at_level
  low-as i p q = same-limit a i p (omega (arith, w.reads.few))

  high-as : (i : ℕ) → 0 < i → i ≤ j.m → at (replicate 24 limit) i ≡ (at_level I a).high i
  unfolding at_level
  high-as i p q = same-limit limit i p (omega (arith, w.reads.few)) ∙ e

  -- the limits of the level, in arrays
  pub starts : (l : Bounds) → l.low.now ≡ replicate 24 a → l.high.now ≡ replicate 24 limit → Starts I (at_level I a) j l p
  starts l f g = record {
    setup = record { reads = w.reads; low = λ i p q. rw f (low-as i p q); high = λ i p q. rw g (high-as i p q) };
    partial = permitted-partial w.permitted;
    kept = w.kept;
  }

  module _ {t : State} (d : Ends I (at_level I a) x t) where
    abbrev s : T.State
    s = state_of I t

    abbrev end : Placement
    end = t.placement

    same : take (n I) end.places ≡ take j.n end.places
    same = ap (λ (q : ℕ). take q end.places) w.reads.jobs

    end-permitted : Permitted I (take j.n end.places)
    end-permitted =
        subst (Permitted I) same
        (subst (λ (s : T.State). Permitted I s.assignment) (sym d.is) (trial-permitted I x w.reads.valid w.permitted (at_level I a)))

    end-loads : Kept I (take j.n end.places) end.loads
    end-loads i p q = d.loads i p q ∙ ap (λ (y : Assignment). load I y i) same

    all_placed : any_to (n I) (λ b. unplaced s b) ≡ false
    unfolding unplaced
    all_placed = any-miss (n I) _ (λ b p q.
        let z : 0 < at (take (n I) end.places) b =
        subst (λ (s : T.State). 0 < at s.assignment b) (sym d.is) (trial-placed I x w.reads.valid w.permitted (at_level I a) b p q) in
        ne_eqb (at (take (n I) end.places) b) 0 (λ y. omega arith))

    -- something overflows exactly where a machine is overloaded
    overflow-by : overflows I (at_level I a) s ≡ any_to I.m (λ i. overloaded I (at_level I a) s i)
    unfolding overflows
    overflow-by = or-skip _ all_placed

    -- the lowest overloaded machine, as the code finds it
    abbrev over : ℕ
    over = first_to j.m (λ i. ltb (at (replicate 24 limit) i) (at end.loads i))

    over_by : over ≡ first_to I.m (λ i. overloaded I (at_level I a) s i)
    over_by = first-overloaded j w.reads (replicate 24 a) (replicate 24 limit) low-as high-as t d.loads

    passes-by : over ≡ 0 → trial I x a ≡ passed (take j.n end.places) t.lifts t.pushes
    unfolding trial
    passes-by z = rw (← d.is, overflow-by ∙ any-miss I.m _ (first-none I.m _ (sym over_by ∙ z)), same)

    pub tries-pass : None ≡ found over → Tries I x a j.n (record { end = end; failed = None; lifts = t.lifts; pushes = t.pushes })
    tries-pass z = record {
      passes = λ y. passes-by (found_none (sym z));
      fails = λ g y. absurd (cc);
      permitted = end-permitted;
      kept = end-loads;
    }

    -- some machine is underloaded, as the code finds it
    abbrev some : Bool
    some = any_to j.m (λ i. leb (at end.loads i) (at (replicate 24 a) i))

    group-by : group I (at_level I a) s ≡ group_by I (take j.n end.places) over some
    unfolding group
    group-by = rw (some_is j w.reads (replicate 24 a) (replicate 24 limit) low-as high-as t d.loads, over_by, same)

    fails_by : (i : ℕ) → over ≡ suc i → trial I x a ≡ failed (group_by I (take j.n end.places) (suc i) some) t.lifts t.pushes
    unfolding trial
    fails_by i z =
        (rw (← d.is, overflow-by ∙ first_any I.m _ i (sym over_by ∙ z)))
        ∙ ap (λ (g : List ℕ). failed g t.lifts t.pushes) (group-by ∙ (rw z))

    is-group : (q : Bool) (i : ℕ) → 0 < i → i ≤ j.m → IsGroup I (group_by I (take j.n end.places) i q)
    is-group true i p h = closure-group I (take j.n end.places) i p (omega (arith, w.reads.machines))
    is-group false i p h = those _

    module _ (i : ℕ) (z : Some i ≡ found over) where
      pub over-in : i < j.m
      over-in = omega (arith, found_some (sym z), first-le _ _ over refl)

      pub tries-fail : (g : ℕ) → SetOf (λ k. mem k (group_by I (take j.n end.places) (suc i) some)) g
          → Tries I x a j.n (record { end = end; failed = Some g; lifts = t.lifts; pushes = t.pushes })
      tries-fail g k = record {
        passes = λ y. absurd (cc);
        fails = λ h y. let same : h ≡ g = cc in rw same failure;
        permitted = end-permitted;
        kept = end-loads;
      }
        where
          failure : Failure I x a g t.lifts t.pushes
          failure = record {
            machines = group_by I (take j.n end.places) (suc i) some;
            is_group = is-group some (suc i) (omega arith) over-in;
            is_set = k;
            fails = fails_by i (found_some (sym z));
          }
