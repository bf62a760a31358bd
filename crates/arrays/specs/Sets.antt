-- Sets of machines in a word: machine i is bit i − 1.
use Rattle.std.specs.Prelude.{ℕ, ◌+◌, ◌*◌, ◌-◌, ◌/◌, ◌%◌, ◌^◌, ◌<◌, ◌≤◌, ◌≡◌, Bool, List, length, get_or, eqb, leb}
use Rattle.rules.specs.Fold.{◌and◌}

-- the set x has machine i
unfoldable pub has : ℕ → ℕ → Bool
has x i = eqb (x / 2 ^ (i - 1) % 2) 1

-- x is the set of those of the machines 1 to 24 that pass
pub record SetOf (p : ℕ → Bool) (x : ℕ) : Type 0 where
  pub small : x < 2 ^ 24
  pub each : (i : ℕ) → 0 < i → i ≤ 24 → has x i ≡ p i

-- the first c entries of sets are the machines that flags name, 24 flags an entry; every entry is a set
pub record SetsOf (flags : List ℕ) (m c : ℕ) (sets : List ℕ) : Type 0 where
  pub long : length sets ≡ 224
  pub each : (b : ℕ) → b < c → SetOf (λ j. leb j m and eqb (get_or flags (b * 24 + (j - 1)) 0) 1) (get_or sets b 0)
  pub small : (b : ℕ) → get_or sets b 0 < 2 ^ 24
