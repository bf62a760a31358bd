-- A group of machines as a list and as a word.
use Prim.Native.Nat.{ℕ, ◌≤◌}
use mathlib.Core.Path.{◌≡◌, refl, sym, ap, ◌∙◌}
use mathlib.Core.List.{List, []}
use native.Mathlib.Omega.{arith}
use Rattle.rules.specs.Fold.{mem, those_to}
use Rattle.rules.specs.Instance.{Instance}
use Rattle.theory.proofs.Member.{mem-none}
use Rattle.theory.proofs.Those.{those-ext, those-mem}
use Rattle.theory.proofs.Closure.{IsGroup, those}
use Rattle.arrays.specs.Sets.{has, SetOf}
use Rattle.arrays.proofs.Masks.{set_same}
use Rattle.arrays.proofs.Words.{set-none}

-- a group is the list of its machines

group-own : {I : Instance} {g : List ℕ} → IsGroup I g → those_to I.m (λ i. mem i g) ≡ g
group-own {I} (those p) = those-ext I.m _ p (λ i l u. those-mem I.m p i l u)

-- and of those of the word that says it
pub members-group : {I : Instance} {g : List ℕ} (m x : ℕ) → I.m ≡ m → m ≤ 24 → IsGroup I g → SetOf (λ i. mem i g) x
    → those_to m (λ i. has x i) ≡ g
members-group {I} {g} m x e f r s =
    those-ext m _ (λ i. mem i g) (λ i l u. s.each i l (omega arith))
    ∙ ap (λ (k : ℕ). those_to k (λ i. mem i g)) (sym e)
    ∙ group-own r

-- two groups of one word
pub groups-same : {I : Instance} {g h : List ℕ} (x : ℕ) → I.m ≤ 24 → IsGroup I g → IsGroup I h
    → SetOf (λ i. mem i g) x → SetOf (λ i. mem i h) x → g ≡ h
groups-same {I} x f r q s t = sym (members-group I.m x refl f r s) ∙ members-group I.m x refl f q t

-- the empty group
pub none-group : SetOf (λ i. mem i []) 0
none-group = set_same (λ i. mem i []) (λ i l u. sym (mem-none i)) set-none
