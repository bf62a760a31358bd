-- One column of a field at a time, and the bound of a number's value.
use Prim.Native.Nat.{ℕ, zero, suc, ◌+◌, ◌-◌, ◌*◌, ◌≤◌, ◌<◌, ◌^◌}
use mathlib.Core.Path.{◌≡◌, refl, ◌∙◌}
use mathlib.Core.Bool.{true, false}
use mathlib.Core.List.{List, [], ◌∷◌}
use native.Mathlib.Nat.{pow-suc, pow-le-pow_right}
use native.Mathlib.Numerals.{add-one}
use native.Mathlib.Omega.{arith}
use lib.Dec.{leb, eqb, lit<}
use lib.ListN.{length, get_or, take, drop, drop_of_length-le}
use lib.Seq.{drop-cons}
use borrow.Author.Tests.{leb-true, eqb-true, eqb-false, le-leb, lt-leb, ne_eqb}
use Rattle.rules.specs.Fold.{◌and◌}
use Rattle.rules.specs.Field.{value, blank, fault, is_digit, digits, lone_zero, blanks}
use Rattle.rules.specs.Field as F
use Rattle.theory.proofs.Logic.{by_test, and_left, and_right, and-mk, and-no-left, and-no-right}
use Rattle.fields.specs.declared.Field.{Field}
use Rattle.fields.specs.declared.Field.TheVariants.{Value, Blank, Fault}
use Rattle.fields.specs.Columns.{coded_field, below, digit_after, column_after}

-- ---- a column that is a digit, or not

pub digit-is : (b : ℕ) → 48 ≤ b → b ≤ 57 → is_digit b ≡ true
digit-is b l u = and-mk _ _ (le-leb 48 b l) (le-leb b 57 u)

pub digit_low : (b : ℕ) → b < 48 → is_digit b ≡ false
digit_low b h = and-no-left _ _ (lt-leb 48 b h)

pub digit-high : (b : ℕ) → 57 < b → is_digit b ≡ false
digit-high b h = and-no-right (leb 48 b) _ (lt-leb b 57 h)

-- ---- the value of i digits is below 10 ^ i

below-digit : (i v b : ℕ) → v < 10 ^ i → below (10 ^ suc i) (digit_after v b)
below-digit i v b h =
    by_test (is_digit b)
    (λ t. rw (t, pow-suc 10 i) (omega (arith, leb-true b 57 (and_right (leb 48 b) _ t))))
    (λ t. rw t tt)

pub below_more : (i : ℕ) (f : Field) (b : ℕ) → below (10 ^ i) f → below (10 ^ suc i) (column_after f b)
below_more i (Value v) b h = by_test (eqb v 0) (λ t. rw t tt) (λ t. rw t (below-digit i v b h))
below_more i Blank b h =
    by_test (eqb b 32) (λ t. rw t tt) (λ t. rw t (below-digit i 0 b (omega (arith, pow-le-pow_right {n = 10} (lit< tt) {i = 0} {j = i} (omega arith)))))
below_more i Fault b h = tt

pub below-five : (i : ℕ) (f : Field) → i ≤ 5 → below (10 ^ i) f → below 100000 f
below-five i (Value v) h k = omega (arith, pow-le-pow_right {n = 10} (lit< tt) h)
below-five i Blank h k = tt
below-five i Fault h k = tt

-- ---- what columns l give, after those that give f

abbrev pub field_after : Field → List ℕ → F.Field
field_after (Value zero) l = lone_zero l
field_after (Value (suc v)) l = digits l (suc v)
field_after Blank l = blanks l
field_after Fault l = fault

-- nothing follows
pub field_end : (f : Field) → f ≡ coded_field (field_after f [])
unfolding lone_zero digits blanks
field_end (Value zero) = refl
field_end (Value (suc v)) = refl
field_end Blank = refl
field_end Fault = refl

after-some : (v : ℕ) (l : List ℕ) → (v ≡ 0 → ⊥) → digits l v ≡ field_after (Value v) l
after-some zero l h = absurd (h refl)
after-some (suc v) l h = refl

-- a digit that does not leave 0
after-digit : (v b : ℕ) (l : List ℕ) → (is_digit b ≡ true → 10 * v + (b - 48) ≡ 0 → ⊥) → digits (b ∷ l) v ≡ field_after (digit_after v b) l
unfolding digits
after-digit v b l h =
    by_test (is_digit b) (λ t. rw t (after-some (10 * v + (b - 48)) l (h t))) (λ t. rw t)

-- column b first
column-first : (f : Field) (b : ℕ) (l : List ℕ) → field_after f (b ∷ l) ≡ field_after (column_after f b) l
unfolding lone_zero blanks ◌and◌
column-first (Value zero) b l = refl
column-first (Value (suc v)) b l = rw (ne_eqb (suc v) 0 (λ e. omega arith)) (after-digit (suc v) b l (λ t e. omega arith))
column-first Blank b l =
    by_test (eqb b 32)
    (λ t. rw t)
    (λ t. by_test (eqb b 48)
    (λ u. rw (eqb-true b 48 u))
    (λ u. rw (t, u) (after-digit 0 b l (λ d e. eqb-false b 48 u (omega (arith, leb-true 48 b (and_left _ _ d)))))))
column-first Fault b l = refl

-- ---- the columns of the six at the front of s, from i on

module _ (s : List ℕ) (f : Field) (i : ℕ) where
  pub column-more : i < length (take 6 s) → field_after f (drop i (take 6 s)) ≡ field_after (column_after f (get_or (take 6 s) i 0)) (drop (i + 1) (take 6 s))
  column-more h = rw (drop-cons (take 6 s) i 0 h) (column-first f (get_or (take 6 s) i 0) (drop (suc i) (take 6 s)) ∙ rw add-one)

  pub columns-done : length (take 6 s) ≤ i → f ≡ coded_field (field_after f (drop i (take 6 s)))
  columns-done h = field_end f ∙ rw (drop_of_length-le (take 6 s) {i = i} h)
