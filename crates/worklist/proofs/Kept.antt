-- One more number of a list, of which the first 25 are kept: k so far.
use Prim.Native.Nat.{ℕ, ◌+◌, ◌≤◌, ◌<◌}
use mathlib.Core.Path.{◌≡◌, sym, ap, ◌∙◌}
use mathlib.Core.List.{List, [], ◌∷◌, ◌++◌}
use native.Mathlib.Omega.{arith}
use lib.ListN.{length, set, take, length-append, length-take}
use lib.Seq.{take_all, take-append-le}
use Rattle.sheet.specs.Represent.{firsts}
use Rattle.sheet.proofs.Firsts.{firsts-fill, firsts-full}

module _ (l : List ℕ) (k x : ℕ) (e : k ≡ length (take 25 l)) where
  -- there is room for it
  module _ (h : k < 25) where
    whole : length l ≡ k
    whole = omega (arith, length-take 25 l)

    pub kept_fills : set (firsts l) k x ≡ firsts (l ++ (x ∷ []))
    kept_fills = firsts-fill l k x whole h

    pub count-fills : k + 1 ≡ length (take 25 (l ++ (x ∷ [])))
    count-fills =
        let n : length (l ++ (x ∷ [])) ≡ k + 1 = omega (arith, length-append l (x ∷ []), whole) in
        sym (ap length (take_all 25 (l ++ (x ∷ [])) (omega arith)) ∙ n)

  -- there is none
  module _ (h : 25 ≤ k) where
    long : 25 ≤ length l
    long = omega (arith, length-take 25 l)

    pub kept_full : firsts l ≡ firsts (l ++ (x ∷ []))
    kept_full = firsts-full l x long

    pub count-full : k ≡ length (take 25 (l ++ (x ∷ [])))
    count-full = e ∙ ap length (sym (take-append-le 25 l (x ∷ []) long))
