-- A row of marks made from a list, one store for each instrument that it names.
use Prim.Native.Nat.{ℕ, suc, ◌+◌, ◌-◌, ◌≤◌, ◌<◌}
use mathlib.Core.Path.{◌≡◌, refl, sym, ap, ◌∙◌}
use mathlib.Core.Bool.{Bool, true}
use mathlib.Core.List.{List, [], ◌∷◌, ◌++◌}
use native.Mathlib.Omega.{arith}
use native.Mathlib.Numerals.{add-one}
use lib.ListN.{length, get_or, set, take, drop, replicate, length-append, length-drop, length-set}
use lib.Seq.{paste, take-suc, get_or-drop, get_or-set_same, get_or-set_other, set-append_left, take-set-lt, length-take-le, ext_get_or}
use lib.Dec.{eqb}
use borrow.Author.Tests.{eqb-true, eqb-false}
use Rattle.rules.specs.Fold.{pick, ◌or◌, mem, list_to}
use Rattle.rules.specs.Marks.{marks_of}
use Rattle.theory.proofs.Logic.{by_test, or_right, or-false}
use Rattle.theory.proofs.Member.{mem-append, mem-one, mem-head}
use Rattle.theory.proofs.Marks.{length-marks, mark-at}

-- ---- a list's marks

pub marks-none : marks_of [] ≡ replicate 24 0
unfolding marks_of list_to mem
marks-none = refl

mem-last : (l : List ℕ) (x i : ℕ) → (i ≡ x → ⊥) → mem i (l ++ (x ∷ [])) ≡ mem i l
mem-last l x i h =
    mem-append l (x ∷ []) i
    ∙ ap (λ (t : Bool). mem i l or t) (by_test (mem i (x ∷ [])) (λ t. absurd (h (mem-one x i t))) (λ t. t))
    ∙ or-false (mem i l)

mem-new : (l : List ℕ) (x : ℕ) → mem x (l ++ (x ∷ [])) ≡ true
mem-new l x = mem-append l (x ∷ []) x ∙ or_right (mem x l) _ (mem-head x [])

mark-last : (l : List ℕ) (x k : ℕ) → 0 < x → x ≤ 24 → k < 24 →
    get_or (marks_of (l ++ (x ∷ []))) k 0 ≡ get_or (set (marks_of l) (x - 1) 1) k 0
mark-last l x k p q h =
    by_test (eqb k (x - 1))
    (λ t. let e : k ≡ x - 1 = eqb-true k (x - 1) t in
    let g : suc k ≡ x = omega arith in
    let u : mem (suc k) (l ++ (x ∷ [])) ≡ true = ap (λ (i : ℕ). mem i (l ++ (x ∷ []))) g ∙ mem-new l x in
    mark-at (l ++ (x ∷ [])) k h
    ∙ ap (λ (b : Bool). pick b 1 0) u
    ∙ sym (ap (λ (i : ℕ). get_or (set (marks_of l) (x - 1) 1) i 0) e
    ∙ get_or-set_same (marks_of l) (x - 1) 1 0 (omega (arith, length-marks l))))
    (λ t. let e = eqb-false k (x - 1) t in
    let u : mem (suc k) (l ++ (x ∷ [])) ≡ mem (suc k) l =
    mem-last l x (suc k) (λ (y : suc k ≡ x). e (omega arith)) in
    mark-at (l ++ (x ∷ [])) k h
    ∙ ap (λ (b : Bool). pick b 1 0) u
    ∙ sym (get_or-set_other (marks_of l) (x - 1) k 1 0 e ∙ mark-at l k h))

-- one instrument more is one entry more
pub marks-more : (l : List ℕ) (x : ℕ) → 0 < x → x ≤ 24 → marks_of (l ++ (x ∷ [])) ≡ set (marks_of l) (x - 1) 1
marks-more l x p q =
    let n = length-marks (l ++ (x ∷ [])) in
    ext_get_or 0 _ _ (n ∙ sym (length-set (marks_of l) (x - 1) 1 ∙ length-marks l))
    (λ k h. mark-last l x k p q (omega arith))

-- ---- a store in a row

pub set-behind : (p q : List ℕ) (k v : ℕ) → set (p ++ q) (length p + k) v ≡ p ++ set q k v
set-behind [] q k v = let e : 0 + k ≡ k = omega arith in rw e
set-behind (x ∷ p) q k v =
    let e : length (x ∷ p) + k ≡ suc (length p + k) = omega arith in
    rw e (ap (λ (r : List ℕ). x ∷ r) (set-behind p q k v))

set-paste : (d : List ℕ) (at : ℕ) (s : List ℕ) (n k v : ℕ) → at ≤ length d → length s ≡ n → k < n →
    set (paste d at s n) (at + k) v ≡ paste d at (set s k v) n
set-paste d at s n k v f g h =
    let n₁ = length-take-le at d f in
    let n₂ = length-take-le n s (omega arith) in
    let p = take at d in
    let q = take n s in
    let e : length p + k ≡ at + k = omega arith in
    set-append_left (p ++ q) (drop (at + n) d) (at + k) v (omega (arith, length-append p q))
    ∙ ap (λ (r : List ℕ). r ++ drop (at + n) d)
    (ap (λ (j : ℕ). set (p ++ q) j v) (sym e)
    ∙ set-behind p q k v
    ∙ ap (λ (r : List ℕ). p ++ r) (sym (take-set-lt n s k v h)))

-- ---- the loop

-- a is d with the marks from at on of the first j that l names from from on
pub record Marked (d : List ℕ) (at : ℕ) (l : List ℕ) (from n : ℕ) (a : List ℕ) (j : ℕ) : Type 0 where
  pub few : j ≤ n
  pub long : length a ≡ length d
  pub same : a ≡ paste d at (marks_of (take j (drop from l))) 24

pub marked_start : {d : List ℕ} {at : ℕ} {l : List ℕ} {from n : ℕ} → paste d at (replicate 24 0) 24 ≡ d → Marked d at l from n d 0
marked_start {d} {at} z = record {
  few = omega arith;
  long = refl;
  same = sym (ap (λ (r : List ℕ). paste d at r 24) marks-none ∙ z);
}

pub marked_step : {d : List ℕ} {at : ℕ} {l : List ℕ} {from n : ℕ} {a : List ℕ} {j : ℕ} → Marked d at l from n a j →
    at + 24 ≤ length d → from + n ≤ length l → j < n →
    (0 < get_or l (from + j) 0) × (get_or l (from + j) 0 ≤ 24) →
    Marked d at l from n (set a (at + (get_or l (from + j) 0 - 1)) 1) (j + 1)
marked_step {d} {at} {l} {from} {n} {a} {j} e f g h r =
    let x = get_or l (from + j) 0 in
    let t = take j (drop from l) in
    let k : j < length (drop from l) = omega (arith, length-drop from l) in
    let u : take (j + 1) (drop from l) ≡ t ++ (x ∷ []) =
    ap (λ (i : ℕ). take i (drop from l)) (add-one j)
    ∙ take-suc (drop from l) j 0 k
    ∙ ap (λ (y : ℕ). t ++ (y ∷ [])) (get_or-drop from l j 0) in
    record {
      few = omega arith;
      long = length-set a (at + (x - 1)) 1 ∙ e.long;
      same =
          ap (λ (b : List ℕ). set b (at + (x - 1)) 1) e.same
          ∙ set-paste d at (marks_of t) 24 (x - 1) 1 (omega arith) (length-marks t) (omega arith)
          ∙ ap (λ (s : List ℕ). paste d at s 24) (sym (ap marks_of u ∙ marks-more t x r.0 r.1));
    }

pub marked-end : {d : List ℕ} {at : ℕ} {l : List ℕ} {from n : ℕ} {a : List ℕ} {j : ℕ} → Marked d at l from n a j → n ≤ j →
    a ≡ paste d at (marks_of (take n (drop from l))) 24
marked-end {d} {at} {l} {from} {n} {a} {j} e h =
    let t : j ≡ n = omega (arith, e.few) in
    e.same ∙ ap (λ (i : ℕ). paste d at (marks_of (take i (drop from l))) 24) t

-- the mark of one instrument alone
pub marked-one : (d : List ℕ) (at : ℕ) (l : List ℕ) (from : ℕ) → paste d at (replicate 24 0) 24 ≡ d → at + 24 ≤ length d → from < length l
    → (0 < get_or l from 0) × (get_or l from 0 ≤ 24)
    → set d (at + (get_or l from 0 - 1)) 1 ≡ paste d at (marks_of (take 1 (drop from l))) 24
marked-one d at l from z f g r =
    let e : from + 0 ≡ from = omega arith in
    rw e at (marked-end {n = 1} (marked_step {l = l} {from = from} {j = 0} (marked_start z) f (omega arith) (omega arith) (rw e r)) (omega arith))
