-- A number's field judged digit by digit, as it is read.
use Prim.Native.Nat.{ℕ, zero, suc, ◌+◌, ◌-◌, ◌*◌}
use mathlib.Core.Path.{◌≡◌, refl, sym, ap, ◌∙◌}
use mathlib.Core.Bool.{Bool, true, false, not}
use mathlib.Core.List.{List, [], ◌∷◌}
use mathlib.Core.Option.{Option, some, none}
use native.Mathlib.Omega.{arith}
use lib.ListN.{length}
use lib.Dec.{leb, eqb, leb-suc-suc}
use borrow.Author.Tests.{le-leb, lt-leb, ne_eqb}
use Rattle.rules.specs.Fold.{pick, ◌and◌, ◌or◌, every}
use Rattle.rules.specs.Field.{is_digit}
use Rattle.rules.specs.Worklist.{well_formed, value_from, number, number_or_empty}
use Rattle.worklist.specs.Rows.{room}

-- at most j more digits, after digits of value v
unfoldable pub digits_of : ℕ → ℕ → List ℕ → Option ℕ
digits_of j v [] = some v
digits_of zero v (x ∷ f) = none
digits_of (suc j) v (x ∷ f) = pick (is_digit x) (digits_of j (10 * v + (x - 48)) f) none

-- a field, where an empty one says e
unfoldable pub field_of : Option ℕ → List ℕ → Option ℕ
field_of e [] = e
field_of e (x ∷ f) = pick (is_digit x) (digits_of (room x) (x - 48) f) none

-- ---- tests

and-true : (a : Bool) → a and true ≡ a
unfolding ◌and◌
and-true true = refl
and-true false = refl

and-false : (a : Bool) → a and false ≡ false
unfolding ◌and◌
and-false true = refl
and-false false = refl

and-swap : (a b c : Bool) → a and (b and c) ≡ b and (a and c)
unfolding ◌and◌
and-swap true b c = refl
and-swap false true c = refl
and-swap false false c = refl

or-true : (a : Bool) → a or true ≡ true
unfolding ◌or◌
or-true true = refl
or-true false = refl

-- ---- digits

-- a digit before digits
digit-more : (d b e : Bool) (o : Option ℕ) (w : ℕ) → o ≡ pick (b and e) (some w) none
    → pick d o none ≡ pick (b and (d and e)) (some w) none
unfolding ◌and◌
digit-more true b e o w q = q
digit-more false true e o w q = refl
digit-more false false e o w q = refl

digit-first : (d b : Bool) (o : Option ℕ) (w : ℕ) → o ≡ pick b (some w) none → pick (d and b) (some w) none ≡ pick d o none
unfolding ◌and◌
digit-first true b o w q = sym q
digit-first false b o w q = refl

digits_are : (j v : ℕ) (f : List ℕ) → digits_of j v f ≡ pick (leb (length f) j and every is_digit f) (some (value_from v f)) none
unfolding digits_of every value_from ◌and◌
digits_are j v [] = rw (le-leb 0 j (omega arith))
digits_are zero v (x ∷ f) = rw (lt-leb (suc (length f)) 0 (omega arith))
digits_are (suc j) v (x ∷ f) =
    let u : ℕ = 10 * v + (x - 48) in
    rw (leb-suc-suc (length f) j)
    (digit-more (is_digit x) (leb (length f) j) (every is_digit f) (digits_of j u f) (value_from u f) (digits_are j u f))

-- ---- the first digit

formed : (d e z : Bool) (n : ℕ)
    → leb 1 (suc n) and leb (suc n) 6 and (d and e) and (eqb (suc n) 1 or not z) ≡ d and (leb n (pick z 0 5) and e)
unfolding ◌and◌ ◌or◌
formed d e false n =
    rw (le-leb 1 (suc n) (omega arith), leb-suc-suc n 5, or-true (eqb (suc n) 1), and-true (d and e)) (and-swap (leb n 5) d e)
formed d e true zero = and-true (d and e)
formed d e true (suc n) =
    rw (le-leb 1 (suc (suc n)) (omega arith), ne_eqb (suc (suc n)) 1 (λ q. omega arith), lt-leb (suc n) 0 (omega arith), and-false (d and e), and-false d)
    (and-false (leb (suc (suc n)) 6))

first-digit : (x : ℕ) (f : List ℕ) → number (x ∷ f) ≡ pick (is_digit x) (digits_of (room x) (x - 48) f) none
unfolding number well_formed value_from every
first-digit x f =
    let v : ℕ = x - 48 in
    ap (λ (b : Bool). pick b (some (value_from (10 * 0 + v) f)) none) (formed (is_digit x) (every is_digit f) (eqb x 48) (length f))
    ∙ ap (λ (u : ℕ). pick (is_digit x and (leb (length f) (room x) and every is_digit f)) (some (value_from u f)) none) (omega arith)
    ∙ digit-first (is_digit x) (leb (length f) (room x) and every is_digit f) (digits_of (room x) v f) (value_from v f) (digits_are (room x) v f)

pub number_is : (f : List ℕ) → number f ≡ field_of none f
unfolding field_of number well_formed ◌and◌
number_is [] = refl
number_is (x ∷ f) = first-digit x f

pub place_is : (f : List ℕ) → number_or_empty f ≡ field_of (some 0) f
unfolding field_of number_or_empty
place_is [] = refl
place_is (x ∷ f) = first-digit x f
