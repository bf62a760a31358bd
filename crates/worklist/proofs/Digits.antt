-- A number digit by digit, as a loop reads it from the front.
use Prim.Native.Nat.{ℕ, zero, suc, ◌+◌, ◌-◌, ◌*◌, ◌≤◌, ◌<◌, ◌^◌}
use mathlib.Core.Path.{◌≡◌, refl, sym, ap, ◌∙◌}
use mathlib.Core.Bool.{Bool, true}
use mathlib.Core.List.{List, [], ◌∷◌}
use native.Mathlib.Nat.{pow-suc, pow-le-pow_right}
use native.Mathlib.Numerals.{add-one}
use native.Mathlib.Omega.{arith}
use lib.Dec.{leb, lit<}
use lib.ListN.{length}
use borrow.Author.Tests.{leb-true, eq-eqb, ne_eqb}
use Rattle.std.specs.Char.{is_ascii_digit}
use Rattle.rules.specs.Fold.{pick, ◌and◌}
use Rattle.rules.specs.Field.{is_digit}
use Rattle.theory.proofs.Logic.{by_test, and_left, and_right}
use Rattle.worklist.specs.Rows.{gives, fails, room, digits_at, number_at}
use Rattle.worklist.specs.Read.{digit_at}

-- ---- the digit in front

same-test : (x : ℕ) → is_ascii_digit x ≡ is_digit x
unfolding ◌and◌
same-test x = by_test (leb 48 x) (λ t. rw t) (λ t. rw t)

-- the byte x in front, which the test t says to be a digit or none
pub digit-here : (s r : List ℕ) (x : ℕ) (t : Bool) → s ≡ x ∷ r → t ≡ is_ascii_digit x → pick t (gives (x - 48) r) fails ≡ digit_at s
digit-here s r x t e i = rw (e, i, same-test x)

record DigitRead (s r : List ℕ) (d : ℕ) : Type 0 where
  byte : ℕ
  all : s ≡ byte ∷ r
  digit : is_digit byte ≡ true
  low : 48 ≤ byte
  value : byte - 48 ≡ d
  few : d ≤ 9

digit-read : (s r : List ℕ) (d : ℕ) → gives d r ≡ digit_at s → DigitRead s r d
digit-read [] r d e = absurd (let z : gives d r ≡ fails = e in cc)
digit-read (x ∷ s) r d e =
    by_test (is_digit x)
    (λ t.
    let g : gives d r ≡ gives (x - 48) s = e ∙ rw t in
    let v : x - 48 ≡ d = cc in
    let a : s ≡ r = cc in record {
      byte = x;
      all = rw a;
      digit = t;
      low = leb-true 48 x (and_left _ _ t);
      value = v;
      few = omega (arith, leb-true x 57 (and_right (leb 48 x) _ t));
    })
    (λ t. absurd (let z : gives d r ≡ fails = e ∙ rw t in cc))

-- ---- none stands there

no_more : (j v : ℕ) (t : List ℕ) → fails ≡ digit_at t → gives v t ≡ digits_at j v t
unfolding digits_at
no_more j v [] h = refl
no_more zero v (x ∷ t) h = refl
no_more (suc j) v (x ∷ t) h = by_test (is_digit x) (λ i. absurd (let z : fails ≡ gives (x - 48) t = h ∙ rw i in cc)) (λ i. rw i)

digits-full : (v : ℕ) (t : List ℕ) → gives v t ≡ digits_at 0 v t
unfolding digits_at
digits-full v [] = refl
digits-full v (x ∷ t) = refl

pub no_number : (t : List ℕ) → fails ≡ digit_at t → fails ≡ number_at t
unfolding number_at
no_number [] h = refl
no_number (x ∷ t) h = by_test (is_digit x) (λ i. absurd (let z : fails ≡ gives (x - 48) t = h ∙ rw i in cc)) (λ i. rw i)

-- ---- the first digit

first-digit : {s r : List ℕ} {d : ℕ} (f : DigitRead s r d) → number_at s ≡ digits_at (room f.byte) d r
unfolding number_at
first-digit f = rw (f.all, f.digit, f.value)

module _ (s r : List ℕ) (d : ℕ) (e : gives d r ≡ digit_at s) where
  pub digit-few : d ≤ 9
  digit-few = (digit-read s r d e).few

  pub lone-zero : d ≡ 0 → gives 0 r ≡ number_at s
  lone-zero z =
      let f = digit-read s r d e in
      let q : room f.byte ≡ 0 = rw (eq-eqb f.byte 48 (omega (arith, f.low, f.value))) in
      digits-full 0 r ∙ ap (λ (v : ℕ). digits_at 0 v r) (sym z) ∙ ap (λ (j : ℕ). digits_at j d r) (sym q) ∙ sym (first-digit f)

  pub five-more : (d ≡ 0 → ⊥) → digits_at 5 d r ≡ number_at s
  five-more n =
      let f = digit-read s r d e in
      let q : room f.byte ≡ 5 = rw (ne_eqb f.byte 48 (λ z. n (sym f.value ∙ ap (λ (x : ℕ). x - 48) z))) in
      ap (λ (j : ℕ). digits_at j d r) (sym q) ∙ sym (first-digit f)

-- ---- i of the digits after the first are read

module _ (first : ℕ) (s : List ℕ) where
  pub record DigitsSofar (value : ℕ) (rest : List ℕ) (i : ℕ) : Type 0 where
    pub small : value < 10 ^ suc i
    pub same : digits_at (5 - i) value rest ≡ digits_at 5 first s

  pub none_yet : first ≤ 9 → DigitsSofar first s 0
  none_yet l = record { small = omega arith; same = refl }

  module _ (value : ℕ) (rest : List ℕ) (i : ℕ) (f : DigitsSofar value rest i) where
    value-small : i < 5 → value < 100000
    value-small h = omega (arith, f.small, pow-le-pow_right {n = 10} (lit< tt) {i = suc i} {j = 5} (omega arith))

    -- one more digit
    module _ (d : ℕ) (r : List ℕ) (h : i < 5) (e : gives d r ≡ digit_at rest) where
      pub value-fits : 10 * value + d < 1000000
      value-fits = omega (arith, value-small h, digit-few rest r d e)

      pub one_more : DigitsSofar (10 * value + d) r (i + 1)
      unfolding digits_at
      one_more =
          let g = digit-read rest r d e in
          let a : 5 - i ≡ suc (5 - (i + 1)) = omega arith in
          let q : digits_at (suc (5 - (i + 1))) value (g.byte ∷ r) ≡ digits_at 5 first s = rw (a, g.all) at f.same in
          record { small = rw (add-one, pow-suc 10 (suc i)) (omega (arith, f.small, g.few)); same = rw (g.digit, g.value) at q }

    -- what follows is no digit, or all five are read
    pub then-ended : fails ≡ digit_at rest → gives value rest ≡ digits_at 5 first s
    then-ended h = no_more (5 - i) value rest h ∙ f.same

    pub all_read : 5 ≤ i → gives value rest ≡ digits_at 5 first s
    all_read h =
        let e : 5 - i ≡ 0 = omega arith in
        digits-full value rest ∙ (rw e at f.same)

-- ---- a number leaves no more than there was

digits-left : (j v : ℕ) (s : List ℕ) (w : ℕ) (r : List ℕ) → gives w r ≡ digits_at j v s → length r ≤ length s
unfolding digits_at
digits-left j v [] w r e = let q : r ≡ [] = cc in omega (arith, ap length q)
digits-left zero v (x ∷ s) w r e = let q : r ≡ x ∷ s = cc in omega (arith, ap length q)
digits-left (suc j) v (x ∷ s) w r e =
    by_test (is_digit x)
    (λ t. omega (arith, digits-left j (10 * v + (x - 48)) s w r (rw t at e)))
    (λ t. let q : gives w r ≡ gives v (x ∷ s) = rw t at e in let z : r ≡ x ∷ s = cc in omega (arith, ap length z))

pub number-left : (s : List ℕ) (w : ℕ) (r : List ℕ) → gives w r ≡ number_at s → length r ≤ length s
unfolding number_at
number-left [] w r e = absurd (let z : gives w r ≡ fails = e in cc)
number-left (x ∷ s) w r e =
    by_test (is_digit x)
    (λ t. omega (arith, digits-left (room x) (x - 48) s w r (rw t at e)))
    (λ t. absurd (let z : gives w r ≡ fails = rw t at e in cc))
