-- A journal line by line: the lines from a place on are the line there, and then those from its end on.
use Prim.Native.Nat.{ℕ, zero, suc, ◌-◌, ◌≤◌, ◌<◌}
use mathlib.Core.Path.{◌≡◌, refl, ap, ◌∙◌}
use mathlib.Core.List.{List, [], ◌∷◌}
use native.Mathlib.Omega.{arith}
use lib.Dec.{eqb}
use lib.ListN.{length, drop, length-drop}
use borrow.Author.Tests.{eq-eqb, ne_eqb}
use Rattle.rules.specs.Fold.{pick}
use Rattle.rules.specs.Refusal.{Refusal}
use Rattle.rules.specs.Read.{Part, gives, refuses}
use Rattle.rules.specs.Run.{Call}
use Rattle.rules.specs.Journal.{call_line, Journal, calls, faulty, with_call, on_call, lines_by, journal}
use Rattle.std.proofs.Common.{Some, None}
use Rattle.journal.specs.declared.entry.Call as C
use Rattle.journal.specs.Entry.{entry_as, lines_from, fault_of}
use Rattle.journal.proofs.Calls.{Leaves, refuse, give, line-leaves, CallRead, given, refused}

-- ---- as many turns as there are bytes are enough

same_rest : (j : ℕ) (r : List ℕ) (f g : List ℕ → Journal) (p : Part Call) → Leaves 7 r p
    → ((k : ℕ) → 7 ≤ k → f (drop k r) ≡ g (drop k r)) → on_call j p f ≡ on_call j p g
same_rest j r f g p (refuse e) h = refl
same_rest j r f g p (give c k i v) h = ap (with_call c) (h k i)

pub lines-enough : (f g j : ℕ) (r : List ℕ) → length r ≤ f → length r ≤ g → lines_by f j r ≡ lines_by g j r
unfolding lines_by
lines-enough zero zero j r h l = refl
lines-enough zero (suc g) j r h l = rw (eq-eqb (length r) 0 (omega arith))
lines-enough (suc f) zero j r h l = rw (eq-eqb (length r) 0 (omega arith))
lines-enough (suc f) (suc g) j r h l =
    ap (λ (y : Journal). pick (eqb (length r) 0) (calls []) y)
    (same_rest j r (λ u. lines_by f (suc j) u) (λ u. lines_by g (suc j) u) (call_line r) (line-leaves r) (λ k i.
    lines-enough f g (suc j) (drop k r) (omega (arith, length-drop k r)) (omega (arith, length-drop k r))))

-- ---- the lines of some bytes, the first of which is line j

pub lines_none : (j : ℕ) (r : List ℕ) → length r ≡ 0 → lines_from j r ≡ calls []
unfolding lines_from lines_by
lines_none j [] h = refl
lines_none j (x ∷ r) h = absurd (omega arith)

turn : (j : ℕ) (r : List ℕ) → 0 < length r → lines_from j r ≡ on_call j (call_line r) (λ u. lines_by (length r - 1) (suc j) u)
unfolding lines_from lines_by
turn j r h =
    let e : length r ≡ suc (length r - 1) = omega arith in
    ap (λ (f : ℕ). lines_by f j r) e ∙ rw (ne_eqb (length r) 0 (λ z. omega arith))

pub lines_more : (j : ℕ) (r u : List ℕ) (c : Call) → call_line r ≡ gives c u → length u < length r
    → lines_from j r ≡ with_call c (lines_from (suc j) u)
unfolding lines_from
lines_more j r u c e h =
    turn j r (omega arith)
    ∙ ap (λ (p : Part Call). on_call j p (λ v. lines_by (length r - 1) (suc j) v)) e
    ∙ ap (with_call c) (lines-enough (length r - 1) (length u) (suc j) u (omega arith) (omega arith))

pub lines-faulty : (j : ℕ) (r : List ℕ) (g : Refusal) → call_line r ≡ refuses g → 0 < length r → lines_from j r ≡ faulty j
lines-faulty j r g e h = turn j r h ∙ ap (λ (p : Part Call). on_call j p (λ v. lines_by (length r - 1) (suc j) v)) e

pub journal-is : (s : List ℕ) → journal s ≡ lines_from 1 s
unfolding journal lines_from
journal-is s = refl

-- ---- from a place of s on, as the reader of a line gives it

module _ (s : List ℕ) (at : ℕ) where
  -- the line at at, with its call and its end
  pub line-read : (e : C.Call) (n : ℕ) → Some (e, n) ≡ entry_as (length s) (call_line (drop at s)) → at ≤ length s → CallRead s at 7
      (call_line (drop at s)) e n
  line-read e n q h = given s at 7 (call_line (drop at s)) e n h (line-leaves (drop at s)) q

  -- the lines from there on are it and the lines from its end on
  pub lines-first : (j n : ℕ) (c : Call) → call_line (drop at s) ≡ gives c (drop n s) → at < n → n ≤ length s
      → lines_from j (drop at s) ≡ with_call c (lines_from (suc j) (drop n s))
  lines-first j n c p h l = lines_more j (drop at s) (drop n s) c p (omega (arith, length-drop at s, length-drop n s))

  -- it is not of the form
  pub lines-fault : (j : ℕ) → None ≡ entry_as (length s) (call_line (drop at s)) → at < length s → lines_from j (drop at s) ≡ faulty j
  lines-fault j q h =
      let f = refused (length s) (call_line (drop at s)) q in
      lines-faulty j (drop at s) f.0 f.1 (omega (arith, length-drop at s))

-- no line is left
pub lines_end : (s : List ℕ) (at j : ℕ) → length s ≤ at → lines_from j (drop at s) ≡ calls []
lines_end s at j h = lines_none j (drop at s) (omega (arith, length-drop at s))

-- ---- the first fault is that of the lines that follow

pub fault-first : (c : Call) (l : Journal) → fault_of (with_call c l) ≡ fault_of l
fault-first c (calls cs) = refl
fault-first c (faulty j) = refl
