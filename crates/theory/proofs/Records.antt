-- The records of the jobs whose places differ between two assignments.
use Prim.Native.Nat.{ℕ, zero, suc, ◌≤◌, ◌<◌}
use mathlib.Core.Path.{◌≡◌, refl, ap, ◌∙◌}
use mathlib.Core.Bool.{Bool, true, false}
use mathlib.Core.Logic.{◌≢◌}
use mathlib.Core.List.{List, [], ◌∷◌, ◌++◌, map, map-append, append-nil}
use native.Mathlib.Nat.{le_refl}
use native.Mathlib.Omega.{arith}
use native.Mathlib.Decide.{dec_le}
use lib.Dec.{eqb}
use lib.ListN.{length, length-append}
use lib.Seq.{ext_get_or}
use borrow.Author.Tests.{eq-eqb, ne_eqb, eqb-true, eqb-false}
use Rattle.rules.specs.Fold.{at, put, pick, those_to}
use Rattle.rules.specs.Instance.{Assignment}
use Rattle.rules.specs.Moves.{Move, differs, move_of, records, follow}
use Rattle.theory.proofs.Logic.{by_test}
use Rattle.theory.proofs.View.{upto as up_to_lem}
use Rattle.theory.proofs.Fold.{length-put, at-put-same, at-put-other}

map-pick : (f : ℕ → Move) (t : Bool) (b : ℕ) → map f (pick t (b ∷ []) []) ≡ pick t (f b ∷ []) []
map-pick f true b = refl
map-pick f false b = refl

at_most_one : (t : Bool) (v : Move) → length (pick t (v ∷ []) []) ≤ 1
at_most_one true v = omega arith
at_most_one false v = omega arith

-- one more job
pub records-suc : (c : ℕ) (x y : Assignment)
    → records (suc c) x y ≡ records c x y ++ pick (differs x y (suc c)) (move_of x y (suc c) ∷ []) []
unfolding records those_to
records-suc c x y =
    map-append (move_of x y) (those_to c (λ b. differs x y b)) (pick (differs x y (suc c)) (suc c ∷ []) [])
    ∙ ap (λ (l : List Move). records c x y ++ l) (map-pick (move_of x y) (differs x y (suc c)) (suc c))

-- a job that keeps its place has no record
pub records-same : (c : ℕ) (x y : Assignment) → at x (suc c) ≡ at y (suc c) → records (suc c) x y ≡ records c x y
records-same c x y e = records-suc c x y ∙ (rw (eq-eqb (at x (suc c)) (at y (suc c)) e) (append-nil (records c x y)))

-- one at another place has one
pub records-other : (c : ℕ) (x y : Assignment) → at x (suc c) ≢ at y (suc c)
    → records (suc c) x y ≡ records c x y ++ (move_of x y (suc c) ∷ [])
records-other c x y ne = records-suc c x y ∙ (rw (ne_eqb (at x (suc c)) (at y (suc c)) ne) refl)

-- no more records than jobs
pub records-few : (c : ℕ) (x y : Assignment) → length (records c x y) ≤ c
unfolding records those_to
records-few zero x y = omega arith
records-few (suc c) x y =
    let last = pick (differs x y (suc c)) (move_of x y (suc c) ∷ []) [] in
    let one = at_most_one (differs x y (suc c)) (move_of x y (suc c)) in
    rw (records-suc c x y) (omega (arith, records-few c x y, one, length-append (records c x y) last))

-- assignments that agree on the jobs 1 to c
pub records-ext : (c : ℕ) (x y z w : Assignment)
    → ((b : ℕ) → 0 < b → b ≤ c → at x b ≡ at z b)
    → ((b : ℕ) → 0 < b → b ≤ c → at y b ≡ at w b)
    → records c x y ≡ records c z w
unfolding records those_to
records-ext zero x y z w p q = refl
records-ext (suc c) x y z w p q =
    let from = p (suc c) (omega arith) (le_refl (suc c)) in
    let to = q (suc c) (omega arith) (le_refl (suc c)) in
    let before = records-ext c x y z w (λ b l u. p b l (omega arith)) (λ b l u. q b l (omega arith)) in
    rw (records-suc c x y, records-suc c z w, before, from, to) refl

-- ---- making the moves of all records leads from the one assignment to the other

follow-last : (l : List Move) (v : Move) (x : Assignment) → follow (l ++ (v ∷ [])) x ≡ put (follow l x) v.batch v.to
unfolding follow
follow-last [] v x = refl
follow-last (u ∷ l) v x = follow-last l v (put x u.batch u.to)

follow-length : (l : List Move) (x : Assignment) → length (follow l x) ≡ length x
unfolding follow
follow-length [] x = refl
follow-length (v ∷ l) x = follow-length l (put x v.batch v.to) ∙ length-put x v.batch v.to

-- z has the places of y up to job c, and those of x past it
record Between (c : ℕ) (x y z : Assignment) : Type 0 where
  upto : (b : ℕ) → 0 < b → b ≤ c → at z b ≡ at y b
  past : (b : ℕ) → c < b → at z b ≡ at x b

follow-none : (x y : Assignment) → follow (records 0 x y) x ≡ x
unfolding records those_to follow
follow-none x y = refl

leads : (c : ℕ) (x y : Assignment) → c ≤ length x → Between c x y (follow (records c x y) x)
leads zero x y h = rw (follow-none x y) (record { upto = λ b p q. absurd (omega arith); past = λ b p. refl })
leads (suc c) x y h =
    let w = leads c x y (omega arith) in
    let made = follow (records c x y) x in
    let long : suc c ≤ length made = omega (arith, follow-length (records c x y) x) in
    by_test (eqb (at x (suc c)) (at y (suc c)))
    (λ t. let e = eqb-true _ _ t in
    rw (records-same c x y e) (record {
      upto = up_to_lem (λ i. at made i ≡ at y i) w.upto (w.past (suc c) (le_refl (suc c)) ∙ e);
      past = λ b p. w.past b (omega arith);
    }))
    (λ t. rw (records-other c x y (eqb-false _ _ t), follow-last (records c x y) (move_of x y (suc c)) x) (record {
      upto = up_to_lem (λ i. at (put made (suc c) (at y (suc c))) i ≡ at y i)
          (λ i l u. at-put-other made (suc c) i (at y (suc c)) (λ z. absurd (omega arith)) ∙ w.upto i l u)
          (at-put-same made (suc c) (at y (suc c)) (omega arith) long);
      past = λ b p. at-put-other made (suc c) b (at y (suc c)) (λ z. absurd (omega arith)) ∙ w.past b (omega arith);
    }))

-- where they differ in none past c
pub records-lead : (c : ℕ) (x y : Assignment) → c ≤ length x → length y ≡ length x → ((b : ℕ) → c < b → at x b ≡ at y b)
    → follow (records c x y) x ≡ y
records-lead c x y h e f =
    let w = leads c x y h in
    let l = follow-length (records c x y) x in
    ext_get_or 0 (follow (records c x y) x) y (omega arith)
    (λ i u. elim (dec_le (suc i) c) [ yes q ↦ w.upto (suc i) (omega arith) q | no ne ↦ w.past (suc i) (omega arith) ∙ f (suc i) (omega arith) ])
