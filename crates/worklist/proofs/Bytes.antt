-- Which bytes are which: digits are text, and neither is a quote, a comma or a CR.
use Prim.Native.Nat.{ℕ}
use mathlib.Core.Path.{◌≡◌, refl, ap, ◌∙◌}
use mathlib.Core.Bool.{Bool, true, false}
use mathlib.Core.List.{List, [], ◌∷◌}
use mathlib.Core.Option.{none}
use native.Mathlib.Omega.{arith}
use lib.Dec.{leb, eqb}
use borrow.Author.Tests.{leb-true, eqb-true, le-leb}
use Rattle.rules.specs.Fold.{◌and◌, ◌or◌}
use Rattle.rules.specs.Field.{is_digit}
use Rattle.theory.proofs.Logic.{by_test, conflict, and_left, and_right, and-mk, or_left, or_right}
use Rattle.rules.specs.Csv.{is_text, is_inside, record_end}

-- what passes a test is not a byte that fails it
pub apart : (p : ℕ → Bool) (x c : ℕ) → p x ≡ true → p c ≡ false → eqb x c ≡ false
apart p x c e f = by_test (eqb x c) (λ t. conflict e (ap p (eqb-true x c t) ∙ f)) (λ t. t)

pub digit-text : (x : ℕ) → is_digit x ≡ true → is_text x ≡ true
unfolding is_text
digit-text x e =
    let l = leb-true 48 x (and_left _ _ e) in
    let u = leb-true x 57 (and_right (leb 48 x) _ e) in
    or_right _ _ (or_right _ _ (and-mk _ _ (le-leb 45 x (omega arith)) (le-leb x 126 (omega arith))))

pub text-inside : (x : ℕ) → is_text x ≡ true → is_inside x ≡ true
unfolding is_inside
text-inside x e = or_left _ _ e

pub text-quote : (x : ℕ) → is_text x ≡ true → eqb x 34 ≡ false
unfolding is_text ◌and◌ ◌or◌
text-quote x e = apart is_text x 34 e refl

pub text-comma : (x : ℕ) → is_text x ≡ true → eqb x 44 ≡ false
unfolding is_text ◌and◌ ◌or◌
text-comma x e = apart is_text x 44 e refl

pub text-cr : (x : ℕ) → is_text x ≡ true → eqb x 13 ≡ false
unfolding is_text ◌and◌ ◌or◌
text-cr x e = apart is_text x 13 e refl

-- no record ends before a byte that is no CR
pub no_end : (x : ℕ) (s : List ℕ) → eqb x 13 ≡ false → record_end (x ∷ s) ≡ none
unfolding record_end ◌and◌
no_end x [] e = refl
no_end x (y ∷ s) e = rw e
