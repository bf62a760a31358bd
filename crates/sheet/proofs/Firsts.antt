-- The first 25 of a list, in 25 entries.
use Prim.Native.Nat.{ℕ, ◌-◌, ◌≤◌, ◌<◌}
use mathlib.Core.Path.{◌≡◌, refl, sym, ap, ◌∙◌}
use mathlib.Core.List.{List, [], ◌∷◌, ◌++◌}
use native.Mathlib.Omega.{arith}
use lib.ListN.{length, set, take, replicate, length-append, length-take}
use lib.Seq.{take_all, take_at, take-append-le}
use Rattle.sheet.specs.Represent.{padded, firsts}
use Rattle.sheet.proofs.Padded.{set-append, length-padded}

-- one more, where there is room for it, and where there is none
pub firsts-fill : (l : List ℕ) (k x : ℕ) → length l ≡ k → k < 25 → set (firsts l) k x ≡ firsts (l ++ (x ∷ []))
firsts-fill l k x e h =
    let a : take 25 l ≡ l = take_all 25 l (omega arith) in
    let b : take 25 (l ++ (x ∷ [])) ≡ l ++ (x ∷ []) = take_all 25 (l ++ (x ∷ [])) (omega (arith, length-append l (x ∷ []))) in
    ap (λ (d : List ℕ). set (padded 25 d) k x) a ∙ set-append 25 l k x e h ∙ ap (padded 25) (sym b)

pub firsts-full : (l : List ℕ) (x : ℕ) → 25 ≤ length l → firsts l ≡ firsts (l ++ (x ∷ []))
firsts-full l x h = ap (padded 25) (sym (take-append-le 25 l (x ∷ []) (omega arith)))

-- they are the front of the entries
pub firsts-front : (l : List ℕ) → take (length (take 25 l)) (firsts l) ≡ take 25 l
firsts-front l = take_at (take 25 l) (replicate (25 - length (take 25 l)) 0) (length (take 25 l)) refl

pub firsts-few : (l : List ℕ) → length (take 25 l) ≤ 25
firsts-few l = omega (arith, length-take 25 l)

pub firsts-long : (l : List ℕ) → length (firsts l) ≡ 25
firsts-long l = length-padded 25 (take 25 l) (firsts-few l)
