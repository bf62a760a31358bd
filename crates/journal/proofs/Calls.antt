-- A call's parts: what each leaves of the bytes, and how an entry goes on from what was read.
use Prim.Native.Nat.{ℕ, zero, suc, ◌+◌, ◌-◌, ◌≤◌}
use mathlib.Core.Path.{◌≡◌, refl, sym, ap, ◌∙◌}
use mathlib.Core.Bool.{Bool, true, false}
use mathlib.Core.List.{List, [], ◌∷◌}
use native.Mathlib.Omega.{arith}
use lib.Dec.{eqb}
use lib.ListN.{length, drop, length-drop}
use lib.Seq.{drop-drop}
use Rattle.rules.specs.Fold.{pick}
use Rattle.rules.specs.Refusal.{Refusal, malformed}
use Rattle.rules.specs.Field.{Field, value, blank, fault, field}
use Rattle.rules.specs.Read.{Part, gives, refuses, and_then, or_refuse, field_part, number_at, end_of_line}
use Rattle.rules.specs.Edit.{add, withdraw, requalify, move, start}
use Rattle.rules.specs.Run.{Call, editing, reviewing, trying, balancing, settling}
use Rattle.rules.specs.Journal.{numbers_at, list_at, add_at, withdraw_at, requalify_at, move_at, trial_at, balance_at, settle_at, start_at, call_at, call_line}
use Rattle.theory.proofs.Field.{six}
use Rattle.fields.proofs.Reading.{next-at}
use Rattle.std.proofs.Common.{Option, Some, None}
use Rattle.journal.specs.declared.entry.Instruments.{Instruments}
use Rattle.journal.specs.declared.entry.Call as C
use Rattle.journal.specs.Entry.{kept, call_of, entry_as, list_as}

-- ---- a part read from r is refused, or leaves what follows k bytes, at least b

pub data Leaves {X : Type 0} (b : ℕ) (r : List ℕ) : Part X → Type 0 where
  refuse : (e : Refusal) → Leaves b r (refuses e)
  give : (x : X) (k : ℕ) → b ≤ k → k ≤ length r → Leaves b r (gives x (drop k r))

module _ {X : Type 0} where
  fewer : {b : ℕ} {r : List ℕ} {p : Part X} (d : ℕ) → d ≤ b → Leaves b r p → Leaves d r p
  fewer d h (refuse e) = refuse e
  fewer d h (give x k i j) = give x k (omega arith) j

  -- after k bytes
  shift : {b d : ℕ} {r : List ℕ} {p : Part X} (k : ℕ) → b ≤ k → k ≤ length r → Leaves d (drop k r) p → Leaves (b + d) r p
  shift k h l (refuse e) = refuse e
  shift {r = r} k h l (give x i u v) =
      let d : drop i (drop k r) ≡ drop (k + i) r = drop-drop i k r in
      rw d (give x (k + i) (omega arith) (omega (arith, length-drop k r)))

  pick-leaves : {b : ℕ} {r : List ℕ} {p q : Part X} (t : Bool) → Leaves b r p → Leaves b r q → Leaves b r (pick t p q)
  pick-leaves true f g = f
  pick-leaves false f g = g

then-leaves : {X Y : Type 0} {b : ℕ} {r : List ℕ} {p : Part X} (d : ℕ) (f : X → List ℕ → Part Y) → Leaves b r p
    → ((x : X) (k : ℕ) → Leaves d (drop k r) (f x (drop k r))) → Leaves (b + d) r (and_then p f)
then-leaves d f (refuse e) n = refuse e
then-leaves d f (give x k i j) n = shift k i j (n x k)

number-leaves : (r : List ℕ) → Leaves 6 r (number_at r)
unfolding number_at
number-leaves r = from (field r) refl
  where
    from : (f : Field) → field r ≡ f → Leaves 6 r (field_part f (drop 6 r))
    from (value v) e = give v 6 (omega arith) (six r v e)
    from blank e = refuse malformed
    from fault e = refuse malformed

-- a part that takes nothing
here : {X : Type 0} (x : X) (r : List ℕ) → Leaves 0 r (gives x r)
here x r = give x 0 (omega arith) (omega arith)

numbers-leaves : (c : ℕ) (r : List ℕ) → Leaves 0 r (numbers_at c r)
unfolding numbers_at
numbers-leaves zero r = here [] r
numbers-leaves (suc c) r =
    fewer 0 (omega arith) (then-leaves 0 _ (number-leaves r) (λ x k.
    then-leaves 0 _ (numbers-leaves c (drop k r)) (λ l i. here (x ∷ l) (drop i (drop k r)))))

list-leaves : (r : List ℕ) → Leaves 0 r (list_at r)
unfolding list_at
list-leaves r = fewer 0 (omega arith) (then-leaves 0 _ (number-leaves r) (λ c k. numbers-leaves c (drop k r)))

-- one number; a number and a list
one-leaves : (f : ℕ → Call) (r : List ℕ) → Leaves 0 r (and_then (number_at r) (λ a u. gives (f a) u))
one-leaves f r = fewer 0 (omega arith) (then-leaves 0 _ (number-leaves r) (λ a k. here (f a) (drop k r)))

listed-leaves : (f : ℕ → List ℕ → Call) (r : List ℕ) →
    Leaves 0 r (and_then (number_at r) (λ a u. and_then (list_at u) (λ l v. gives (f a l) v)))
listed-leaves f r =
    fewer 0 (omega arith) (then-leaves 0 _ (number-leaves r) (λ a k.
    then-leaves 0 _ (list-leaves (drop k r)) (λ l i. here (f a l) (drop i (drop k r)))))

move-leaves : (r : List ℕ) → Leaves 0 r (move_at r)
unfolding move_at
move-leaves r = fewer 0 (omega arith) (then-leaves 0 _ (number-leaves r) (λ b k. one-leaves (λ i. editing (move b i)) (drop k r)))

pub call-leaves : (kind : ℕ) (r : List ℕ) → Leaves 0 r (call_at kind r)
unfolding call_at add_at withdraw_at requalify_at trial_at balance_at settle_at start_at
call-leaves kind r =
    pick-leaves (eqb kind 1) (listed-leaves (λ t l. editing (add t l)) r)
    (pick-leaves (eqb kind 2) (one-leaves (λ b. editing (withdraw b)) r)
    (pick-leaves (eqb kind 3) (listed-leaves (λ b l. editing (requalify b l)) r)
    (pick-leaves (eqb kind 4) (move-leaves r)
    (pick-leaves (eqb kind 5) (here reviewing r)
    (pick-leaves (eqb kind 6) (one-leaves (λ a. trying a) r)
    (pick-leaves (eqb kind 7) (one-leaves (λ c. balancing c) r)
    (pick-leaves (eqb kind 8) (one-leaves (λ c. settling c) r)
    (pick-leaves (eqb kind 9) (one-leaves (λ b. editing (start b)) r)
    (refuse malformed)))))))))

end_leaves : (c : Call) (r : List ℕ) → Leaves 1 r (end_of_line r (λ u. gives c u))
unfolding end_of_line
end_leaves c [] = refuse malformed
end_leaves c (x ∷ r) = from (eqb x 10)
  where
    from : (t : Bool) → Leaves 1 (x ∷ r) (or_refuse t malformed (gives c r))
    from true = give c 1 (omega arith) (omega arith)
    from false = refuse malformed

-- a line takes seven bytes at least
pub line-leaves : (r : List ℕ) → Leaves 7 r (call_line r)
unfolding call_line
line-leaves r =
    then-leaves 1 _ (number-leaves r) (λ kind k.
    then-leaves 1 _ (call-leaves kind (drop k r)) (λ c i. end_leaves c (drop i (drop k r))))

-- ---- a call that is read from at on, and where it ends

pub record CallRead (s : List ℕ) (at b : ℕ) (p : Part Call) (e : C.Call) (n : ℕ) : Type 0 where
  pub call : Call
  pub part : p ≡ gives call (drop n s)
  pub same : e ≡ call_of call
  pub past : at + b ≤ n
  pub room : n ≤ length s

pub given : (s : List ℕ) (at b : ℕ) (p : Part Call) (e : C.Call) (n : ℕ) → at ≤ length s → Leaves b (drop at s) p
    → Some (e, n) ≡ entry_as (length s) p → CallRead s at b p e n
given s at b p e n h (refuse g) q = cc
given s at b p e n h (give c k i j) q =
    let d : drop k (drop at s) ≡ drop (at + k) s = drop-drop k at s in
    let w : ◌≡◌ {A = C.Call × ℕ} (e, n) (call_of c, length s - length (drop k (drop at s))) = cc in
    let m : n ≡ at + k = omega (arith, ap (λ (x : C.Call × ℕ). x.1) w, length-drop at s, length-drop k (drop at s)) in
    record {
      call = c;
      part = ap (gives c) (d ∙ ap (λ (z : ℕ). drop z s) (sym m));
      same = ap (λ (x : C.Call × ℕ). x.0) w;
      past = omega arith;
      room = omega (arith, length-drop at s);
    }

-- none is read where the rules refuse
pub refused : (size : ℕ) (p : Part Call) → None ≡ entry_as size p → (e : Refusal) × (p ≡ refuses e)
refused size (gives c r) q = cc
refused size (refuses e) q = (e, refl)

pub then-none : (size : ℕ) (p : Part Call) (f : Call → List ℕ → Part Call) → None ≡ entry_as size p → None ≡ entry_as size (and_then p f)
then-none size (gives c r) f q = cc
then-none size (refuses e) f q = refl

-- ---- the numbers of each kind of call

-- a number from at on, and then a call of it
pub one-number : (s : List ℕ) (at v : ℕ) (f : ℕ → Call) → (number_at (drop at s) ≡ gives v (drop (at + 6) s)) × (at + 6 ≤ length s)
    → Some (call_of (f v), at + 6) ≡ entry_as (length s) (and_then (number_at (drop at s)) (λ a u. gives (f a) u))
one-number s at v f h = rw (h.0, ← next-at s (at + 6) h.1) refl

pub none-there : (s : List ℕ) (at : ℕ) (f : ℕ → List ℕ → Part Call) → number_at (drop at s) ≡ refuses malformed
    → None ≡ entry_as (length s) (and_then (number_at (drop at s)) f)
none-there s at f h = rw h refl

-- a list, and then a call of it
abbrev with_list : (Instruments → C.Call) → Option (Instruments × ℕ) → Option (C.Call × ℕ)
with_list g None = None
with_list g (Some k) = Some (g k.0, k.1)

pub then-list : (size : ℕ) (o : Option (Instruments × ℕ)) (p : Part (List ℕ)) (g : Instruments → C.Call) (f : List ℕ → Call) → o ≡ list_as size p
    → ((l : List ℕ) → g (kept l) ≡ call_of (f l)) → with_list g o ≡ entry_as size (and_then p (λ l r. gives (f l) r))
then-list size o (gives l r) g f q h = ap (with_list g) q ∙ ap (λ (x : C.Call). Some (x, size - length r)) (h l)
then-list size o (refuses e) g f q h = ap (with_list g) q
