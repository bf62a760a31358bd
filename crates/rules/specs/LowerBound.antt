-- Document 01, "Planning": minutes confined to a group, the lower bound (document 01: the floor) and its witness.
use Rattle.std.specs.Prelude.{ℕ, ◌+◌, ◌-◌, ◌/◌, Bool, false, List, [], ◌∷◌, length, eqb}
use Rattle.rules.specs.Fold.{◌or◌, pick, mem, every, most, sum_to, any_to}
use Rattle.rules.specs.Instance.{Instance, n, minutes_of, list_of}
use Rattle.rules.specs.Load.{longest}

-- the whole list lies in the group
unfoldable pub within : List ℕ → List ℕ → Bool
within l g = every (λ i. mem i g) l

-- the minutes of the jobs whose whole list lies in the group
unfoldable pub confined : Instance → List ℕ → ℕ
confined I g = sum_to (n I) (λ b. pick (within (list_of I b) g) (minutes_of I b) 0)

-- divided, rounded up
abbrev pub ceil_div : ℕ → ℕ → ℕ
ceil_div x d = (x + d - 1) / d

-- what a group shows: its confined minutes shared out over it
unfoldable pub share : Instance → List ℕ → ℕ
share I g = ceil_div (confined I g) (length g)

-- the longest length, or a failed trial's group where that shows more; the empty group is that of no failure
unfoldable pub lower_bound : Instance → List ℕ → ℕ
lower_bound I [] = longest I
lower_bound I (i ∷ g) = most (longest I) (share I (i ∷ g))

-- where the bound v comes from: a job of that length, or the group
abbrev pub is_share : Instance → List ℕ → ℕ → Bool
is_share I [] v = false
is_share I (i ∷ g) v = eqb (share I (i ∷ g)) v

unfoldable pub witnessed : Instance → List ℕ → ℕ → Bool
witnessed I g v = any_to (n I) (λ b. eqb (minutes_of I b) v) or is_share I g v
