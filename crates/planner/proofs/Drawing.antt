-- Balance and settle over arrays: what they start from, and their figures as the rules give them.
use Prim.Native.Nat.{ℕ, ◌-◌, ◌≤◌, ◌<◌}
use mathlib.Core.Path.{◌≡◌, refl, sym, ap, ◌∙◌}
use mathlib.Core.List.{List}
use native.Mathlib.Omega.{arith}
use lib.ListN.{length, take, replicate, length-take}
use lib.Seq.{take_at, take-take, length-take-le}
use Rattle.rules.specs.Fold.{at, max_to, mem, those_to}
use Rattle.rules.specs.Instance.{Instance, Assignment, instance}
use Rattle.rules.specs.Instance as In
use Rattle.rules.specs.Load.{load, makespan}
use Rattle.rules.specs.LowerBound.{lower_bound}
use Rattle.rules.specs.Balance as B
use Rattle.rules.specs.Plan as P
use Rattle.rules.specs.Sheet.{Book, size}
use Rattle.rules.specs.Run.{with_places}
use Rattle.theory.proofs.Fold.{max_to-ext}
use Rattle.theory.proofs.Valid.{Permitted}
use Rattle.theory.proofs.Planning.{balanced-permitted, rested-permitted}
use Rattle.theory.proofs.Jobs.{batches-first}
use Rattle.sheet.specs.declared.Sheet.{Sheet}
use Rattle.sheet.specs.Represent.{Sound, padded, sheet_of, book_of}
use Rattle.sheet.specs.View.{kept_places}
use Rattle.sheet.proofs.Placed.{kept-taken}
use Rattle.sheet.proofs.SoundViews.{view-valid, view-permitted, view-placed}
use Rattle.arrays.specs.Sets.{has, SetOf}
use Rattle.arrays.specs.declared.Jobs.{Jobs}
use Rattle.arrays.specs.declared.Placement.{Placement}
use Rattle.arrays.specs.Jobs.{Says}
use Rattle.trials.specs.Attempt.{Standing}
use Rattle.scans.specs.Grouping.{HoldsList}
use Rattle.scans.specs.declared.group.Members.{Members}
use Rattle.planner.specs.declared.balance.Search.{Search}
use Rattle.planner.specs.declared.drawn.Drawn.{Drawn}
use Rattle.planner.specs.declared.drawn.Rested.{Rested}
use Rattle.settling.specs.declared.settle.Settled.{Settled}
use Rattle.settling.specs.Settling.{SettledTo}
use Rattle.planner.specs.Search.{failed_set, Sought}
use Rattle.planner.specs.Drawing.{Draws, Rests}
use Rattle.planner.specs.Calls.{balance_of, settle_of}
use Rattle.planner.proofs.TrialAnswers.{members-held}

-- the greatest load of a placement
greatest-is : {I : Instance} (j : Jobs) (p : Placement) → Says I j → ((i : ℕ) → 0 < i → i ≤ j.m → at p.loads i ≡ load I (take j.n p.places) i)
    → max_to j.m (λ i. at p.loads i) ≡ makespan I (take j.n p.places)
unfolding makespan
greatest-is {I} j p r h =
    max_to-ext j.m _ _ h ∙ ap (λ (k : ℕ). max_to k (λ i. load I (take j.n p.places) i)) (sym r.machines)

module _ {I : Instance} {j : Jobs} {p : Placement} (st : Standing I j p) where
  pub makespan-is : max_to j.m (λ i. at p.loads i) ≡ makespan I (take j.n p.places)
  makespan-is = greatest-is j p st.reads (λ i l u. st.kept i l (omega (arith, st.reads.machines)))

  pub drawn-permitted : {d : Drawn} → Draws I j.n (take j.n p.places) d → Permitted I (take j.n d.places)
  drawn-permitted e = rw e.places (balanced-permitted I (take j.n p.places) st.reads.valid st.permitted)

  pub rest-permitted : {z : Rested} → Rests I j.n (take j.n p.places) z → Permitted I (take j.n z.places)
  rest-permitted e = rw e.places (rested-permitted st.reads.valid st.permitted)

  -- its group
  pub sought-set : {s : Search} {set : ℕ} → Sought I j (take j.n p.places) s → set ≡ failed_set s.failed
      → SetOf (λ i. mem i (those_to j.m (λ k. has set k))) set
  sought-set found q = rw q found.is_set

  -- the figures of balance, from what the parts answer
  pub drawn : {s : Search} {set : ℕ} {group : Members} {bound makespan : ℕ}
      → Sought I j (take j.n p.places) s
      → set ≡ failed_set s.failed
      → HoldsList (those_to j.m (λ i. has set i)) group.list group.size
      → bound ≡ lower_bound I (those_to j.m (λ i. has set i))
      → makespan ≡ max_to j.m (λ i. at s.kept.loads i)
      → Draws I j.n (take j.n p.places) (record {
        makespan = makespan;
        bound = bound;
        level = s.level;
        lifts = s.lifts;
        pushes = s.pushes;
        group = group;
        places = s.kept.places;
      })
  unfolding P.balanced
  drawn {s} found q g b k =
      let f = found.found in
      let same : take j.n s.kept.places ≡ (B.balance I (take j.n p.places)).assignment = ap (λ (w : B.Search). w.assignment) f in
      let those = ap (λ x. those_to j.m (λ i. has x i)) q ∙ ap (λ (w : B.Search). w.group) f in
      record {
        makespan =
            k
            ∙ greatest-is j s.kept st.reads (λ i l u. found.kept i l (omega (arith, st.reads.machines)))
            ∙ ap (λ (x : Assignment). makespan I x) same;
        bound = b ∙ ap (lower_bound I) those;
        level = ap (λ (w : B.Search). w.level) f;
        lifts = ap (λ (w : B.Search). w.lifts) f;
        pushes = ap (λ (w : B.Search). w.pushes) f;
        group = rw (← those) g;
        places = same;
      }

  -- the figures of settle
  pub rested-at : {z : Settled} {makespan : ℕ}
      → SettledTo I j p z.end z.moves
      → makespan ≡ max_to j.m (λ i. at z.end.loads i)
      → Rests I j.n (take j.n p.places) (record { makespan = makespan; moves = z.moves; places = z.end.places })
  unfolding P.rested
  rested-at {z} t k = record {
    makespan = k ∙ greatest-is j z.end st.reads t.placing.each ∙ ap (λ (x : Assignment). makespan I x) t.assignment;
    moves = t.count;
    places = t.assignment;
  }

-- ---- what is shown

-- the places of the batches are entered as they are
pub front-entered : (k : Book) (b c : ℕ) (x out : List ℕ) → Permitted (instance k) (take c x) → In.n (instance k) ≡ c → b ≡ size k
    → out ≡ padded 200 (take b x) → sheet_of (with_places k (kept_places k out)) ≡ sheet_of (with_places k (take c x))
front-entered k b c x out w e f g =
    let h : size k ≤ c = omega (arith, batches-first k) in
    let long : size k ≤ length x = omega (arith, w.size, length-take c x) in
    let front : take (size k) out ≡ take (size k) (take c x) =
    ap (take (size k)) (g ∙ ap (λ (j : ℕ). padded 200 (take j x)) f)
    ∙ take_at (take (size k) x) (replicate (200 - length (take (size k) x)) 0) (size k) (length-take-le (size k) x long)
    ∙ sym (take-take (size k) c x h) in
    ap sheet_of (kept-taken k out (take c x) w front)

draws-at : {I : Instance} {c : ℕ} {x y : Assignment} {d : Drawn} → x ≡ y → Draws I c x d → Draws I c y d
draws-at e h = rw (← e) h

pub balance-shown : (k : Book) {c : ℕ} {x : Assignment} (d : Drawn) (s : Sheet) → x ≡ In.places k → Draws (instance k) c x d
    → s ≡ sheet_of (with_places k (take c d.places))
    → record {
      makespan = d.makespan;
      bound = d.bound;
      level = d.level;
      lifts = d.lifts;
      pushes = d.pushes;
      group = d.group;
      sheet = s;
    } ≡ balance_of k
unfolding balance_of
balance-shown k {c} {x} d s e w f =
    let h = draws-at e w in
    rw (f, members-held h.group, h.makespan, h.bound, h.level, h.lifts, h.pushes, h.places) refl

rests-at : {I : Instance} {c : ℕ} {x y : Assignment} {z : Rested} → x ≡ y → Rests I c x z → Rests I c y z
rests-at e h = rw (← e) h

pub settle-shown : (k : Book) {c : ℕ} {x : Assignment} (z : Rested) (s : Sheet) → x ≡ In.places k → Rests (instance k) c x z
    → s ≡ sheet_of (with_places k (take c z.places))
    → record { makespan = z.makespan; moves = z.moves; sheet = s } ≡ settle_of k
unfolding settle_of
settle-shown k {c} {x} z s e w f = let h = rests-at e w in rw (f, h.makespan, h.moves, h.places) refl

-- the sheets that they leave are sound
pub balance-keeps : (s : Sheet) → Sound s → Sound (balance_of (book_of s)).sheet
unfolding balance_of
balance-keeps s v =
    view-placed s v _ (balanced-permitted (instance (book_of s)) (In.places (book_of s)) (view-valid s v) (view-permitted s v))

pub settle-keeps : (s : Sheet) → Sound s → Sound (settle_of (book_of s)).sheet
unfolding settle_of
settle-keeps s v = view-placed s v _ (rested-permitted (view-valid s v) (view-permitted s v))
