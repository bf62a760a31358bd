-- Laws of columns: the next column by what is left of the number.
use Prim.Native.Nat.{ℕ, suc, ◌+◌, ◌*◌, ◌/◌, ◌^◌, ◌≤◌, ◌<◌}
use mathlib.Core.Path.{◌≡◌, sym, ap, ◌∙◌}
use mathlib.Core.List.{◌∷◌}
use native.Mathlib.Nat.{pow-suc, one-le-pow, div-one, div-div-eq-div-mul, div-lt_iff_lt-mul, le-div_iff_mul-le, one-mul}
use native.Mathlib.Numerals.{add-one}
use native.Mathlib.Omega.{arith}
use lib.Dec.{ltb, eqb}
use borrow.Author.Tests.{ltb-true, ltb-false, ne_eqb, eq-eqb}
use Rattle.rules.specs.Render.{columns}
use Rattle.theory.proofs.Logic.{by_test}
use Rattle.text.specs.Columns.{column}

ten-some : (w : ℕ) → 0 < 10 ^ w
ten-some w = one-le-pow w 10 (omega arith)

-- a tenth of what stands before the last w columns stands before the last w + 1
tenth : (w v : ℕ) → v / 10 ^ suc w ≡ v / 10 ^ w / 10
tenth w v = ap (λ (p : ℕ). v / p) (pow-suc 10 w) ∙ sym (div-div-eq-div-mul v (10 ^ w) 10)

-- nothing stands before the last w columns exactly where the number is below 10 ^ w
spent : (w v : ℕ) → ltb v (10 ^ w) ≡ eqb (v / 10 ^ w) 0
spent w v =
    by_test (ltb v (10 ^ w))
    (λ t.
    let h : v < 1 * 10 ^ w = rw one-mul (ltb-true _ _ t) in
    let z : v / 10 ^ w < 1 = (div-lt_iff_lt-mul (ten-some w)).1 h in
    t ∙ sym (eq-eqb (v / 10 ^ w) 0 (omega arith)))
    (λ t.
    let h : 1 * 10 ^ w ≤ v = rw one-mul (ltb-false _ _ t) in
    let z : 1 ≤ v / 10 ^ w = (le-div_iff_mul-le (ten-some w)).1 h in
    t ∙ sym (ne_eqb (v / 10 ^ w) 0 (λ e. omega arith)))

columns-next : (w v : ℕ) → columns (suc w) v ≡ column w (v / 10 ^ w) ∷ columns w v
unfolding columns
columns-next w v = rw (spent w v)

-- one more column x, written by what is left of the number
pub columns-turn : (w v r x : ℕ) → r ≡ v / 10 ^ w → x ≡ column w r → x ∷ columns w v ≡ columns (w + 1) v
columns-turn w v r x e f =
    ap (λ (y : ℕ). y ∷ columns w v) (f ∙ ap (column w) e)
    ∙ sym (columns-next w v)
    ∙ ap (λ (k : ℕ). columns k v) (sym (add-one w))

pub rest-turn : (w v r : ℕ) → r ≡ v / 10 ^ w → r / 10 ≡ v / 10 ^ (w + 1)
rest-turn w v r e = ap (λ (x : ℕ). x / 10) e ∙ sym (tenth w v) ∙ ap (λ (k : ℕ). v / 10 ^ k) (sym (add-one w))

pub all_left : (v : ℕ) → v ≡ v / 10 ^ 0
all_left v = sym (div-one v)
