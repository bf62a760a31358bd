-- What an answer of the readers says of the bytes: of a byte, of a part of a row, and of its end.
use Prim.Native.Nat.{ℕ, zero, suc, ◌+◌, ◌-◌, ◌*◌, ◌<◌}
use mathlib.Core.Path.{◌≡◌, refl, sym, ap, ◌∙◌}
use mathlib.Core.Bool.{Bool, true, false}
use mathlib.Core.List.{List, [], ◌∷◌}
use native.Mathlib.Omega.{arith}
use denote.Ref.{Bor}
use lib.Dec.{eqb}
use lib.ListN.{length}
use Rattle.std.specs.Prelude.{Option, Some, None}
use Rattle.std.specs.Option.{option_or}
use Rattle.std.specs.Bool.{then_some}
use Rattle.rules.specs.Fold.{◌and◌}
use Rattle.rules.specs.Field.{is_digit}
use Rattle.rules.specs.Csv.{record_end}
use Rattle.theory.proofs.Logic.{by_test}
use Rattle.worklist.specs.Rows.{Front, gives, fails, byte_at, quoted_or, room, digits_at, number_at, number_or_nothing_at}
use Rattle.worklist.specs.Read.{front_of, behind, plain_at, end_as, then_byte}

no-fails : {X : Type 0} {x : X} {r : List ℕ} → gives x r ≡ fails → ⊥
no-fails e = let z : ◌≡◌ {A = ℕ} 0 1 = cc in omega arith

-- ---- a byte in front

pub byte-none : {X : Type 0} (b : ℕ) (s : List ℕ) (next : List ℕ → Front X) → None ≡ behind b s → byte_at b s next ≡ fails
byte-none b [] next e = refl
byte-none b (x ∷ s) next e = by_test (eqb x b) (λ t. absurd (let z : None ≡ Some s = e ∙ rw t in cc)) (λ t. rw t)

pub byte-some : {X : Type 0} (b : ℕ) (s r : List ℕ) (next : List ℕ → Front X) → Some r ≡ behind b s → byte_at b s next ≡ next r
byte-some b [] r next e = absurd (let z : Some r ≡ None = e in cc)
byte-some b (x ∷ s) r next e =
    by_test (eqb x b)
    (λ t. let z : Some r ≡ Some s = e ∙ rw t in let q : s ≡ r = cc in rw (t, q))
    (λ t. absurd (let z : Some r ≡ None = e ∙ rw t in cc))

pub behind-shorter : (b : ℕ) (s r : List ℕ) → Some r ≡ behind b s → length r < length s
behind-shorter b [] r e = absurd (let z : Some r ≡ None = e in cc)
behind-shorter b (x ∷ s) r e =
    by_test (eqb x b)
    (λ t. let z : Some r ≡ Some s = e ∙ rw t in let q : r ≡ s = cc in omega (arith, ap length q))
    (λ t. absurd (let z : Some r ≡ None = e ∙ rw t in cc))

-- a quote in front
pub unquoted : {X : Type 0} (p : List ℕ → Front X) (s : List ℕ) → None ≡ behind 34 s → p s ≡ quoted_or p s
unquoted p [] e = refl
unquoted p (x ∷ s) e = by_test (eqb x 34) (λ t. absurd (let z : None ≡ Some s = e ∙ rw t in cc)) (λ t. rw t)

pub quoted : (p : List ℕ → Front ℕ) (s r : List ℕ) → Some r ≡ behind 34 s → then_byte 34 (p r) ≡ quoted_or p s
quoted p [] r e = absurd (let z : Some r ≡ None = e in cc)
quoted p (x ∷ s) r e =
    by_test (eqb x 34)
    (λ t. let z : Some r ≡ Some s = e ∙ rw t in let q : r ≡ s = cc in rw (t, q))
    (λ t. absurd (let z : Some r ≡ None = e ∙ rw t in cc))

-- ---- a number, or nothing

digits-give : (j v : ℕ) (t : List ℕ) → digits_at j v t ≡ fails → ⊥
unfolding digits_at
digits-give j v [] e = no-fails e
digits-give zero v (x ∷ t) e = no-fails e
digits-give (suc j) v (x ∷ t) e =
    by_test (is_digit x) (λ i. digits-give j (10 * v + (x - 48)) t (rw i at e)) (λ i. no-fails {x = v} {r = x ∷ t} (rw i at e))

plain-number : (empty : Bool) (t : List ℕ) (v : ℕ) (r : List ℕ) → gives v r ≡ number_at t → gives v r ≡ plain_at empty t
unfolding number_at number_or_nothing_at
plain-number false t v r e = e
plain-number true [] v r e = absurd (no-fails e)
plain-number true (x ∷ t) v r e = by_test (is_digit x) (λ i. (rw i at e) ∙ rw i) (λ i. absurd (no-fails {x = v} {r = r} (rw i at e)))

plain-nothing : (t : List ℕ) → fails ≡ number_at t → gives 0 t ≡ number_or_nothing_at t
unfolding number_at number_or_nothing_at
plain-nothing [] e = refl
plain-nothing (x ∷ t) e = by_test (is_digit x) (λ i. absurd (digits-give (room x) (x - 48) t (sym (rw i at e)))) (λ i. rw i)

-- what is read, or else nothing
pub plain-is : (empty : Bool) (s : Bor (List ℕ)) (o : Option (ℕ × Bor (List ℕ))) → front_of o ≡ number_at s.now
    → front_of (option_or o (then_some empty (0, s))) ≡ plain_at empty s.now
plain-is empty s (Some p) e = plain-number empty s.now p.0 p.1.now e
plain-is true s None e = plain-nothing s.now e
plain-is false s None e = e

-- ---- a row's end

pub end-here : (s : List ℕ) → length s ≡ 0 → Some s ≡ end_as (record_end s)
unfolding record_end
end-here [] h = refl
end-here (x ∷ s) h = absurd (omega arith)

pub no-cr : (s : List ℕ) → (length s ≡ 0 → ⊥) → None ≡ behind 13 s → None ≡ end_as (record_end s)
unfolding record_end ◌and◌
no-cr [] h e = absurd (h refl)
no-cr (x ∷ []) h e = refl
no-cr (x ∷ y ∷ s) h e = by_test (eqb x 13) (λ t. absurd (let z : None ≡ Some (y ∷ s) = e ∙ rw t in cc)) (λ t. rw t)

pub then-lf : (s r : List ℕ) → Some r ≡ behind 13 s → behind 10 r ≡ end_as (record_end s)
unfolding record_end ◌and◌
then-lf [] r e = absurd (let z : Some r ≡ None = e in cc)
then-lf (x ∷ s) r e =
    by_test (eqb x 13)
    (λ t. let z : Some r ≡ Some s = e ∙ rw t in let q : r ≡ s = cc in rw q (lf s t))
    (λ t. absurd (let z : Some r ≡ None = e ∙ rw t in cc))
  where
    lf : (u : List ℕ) → eqb x 13 ≡ true → behind 10 u ≡ end_as (record_end (x ∷ u))
    lf [] t = refl
    lf (y ∷ u) t = rw t (by_test (eqb y 10) (λ l. rw l) (λ l. rw l))
