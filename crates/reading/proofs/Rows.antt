-- A row of 24 entries with k used.
use Prim.Native.Nat.{ℕ, suc, ◌+◌, ◌-◌, ◌≤◌, ◌<◌}
use mathlib.Core.Path.{◌≡◌, sym, ap, ◌∙◌}
use mathlib.Core.List.{List, [], ◌∷◌, ◌++◌}
use native.Mathlib.Numerals.{add-one}
use native.Mathlib.Omega.{arith}
use lib.ListN.{length, set, take, drop, replicate, length-set, take-append-drop}
use lib.Seq.{drop-drop, drop-set-lt, length-take-le, take-suc-set}
use Rattle.sheet.specs.Represent.{padded}

pub record Row (k : ℕ) (l : List ℕ) : Type 0 where
  pub size : length l ≡ 24
  pub rest : drop k l ≡ replicate (24 - k) 0

pub row-used : (k : ℕ) (l : List ℕ) → Row k l → k ≤ 24 → length (take k l) ≡ k
row-used k l r h = length-take-le k l (omega (arith, r.size))

pub row-padded : (k : ℕ) (l : List ℕ) → Row k l → k ≤ 24 → padded 24 (take k l) ≡ l
row-padded k l r h = rw (row-used k l r h, ← r.rest) (take-append-drop k l)

pub row_more : (k : ℕ) (l : List ℕ) (x : ℕ) → Row k l → k < 24 → Row (k + 1) (set l k x)
row_more k l x r h =
    let e : 24 - k ≡ suc (24 - (k + 1)) = omega arith in
    record {
      size = length-set l k x ∙ r.size;
      rest =
          drop-set-lt (k + 1) l k x (omega arith)
          ∙ sym (drop-drop 1 k l)
          ∙ ap (drop 1) (r.rest ∙ ap (λ (n : ℕ). replicate n 0) e);
    }

pub row-take : (k : ℕ) (l : List ℕ) (x : ℕ) → Row k l → k < 24 → take (k + 1) (set l k x) ≡ take k l ++ (x ∷ [])
row-take k l x r h = rw add-one (take-suc-set l k x (omega (arith, r.size)))
