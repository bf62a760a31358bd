-- Groups of machines, as words and as lists.
use Rattle.std.specs.Prelude.{ℕ, ◌-◌, ◌≤◌, ◌≡◌, Bool, true, List, ◌++◌, length, take, replicate, ltb, leb}
use Rattle.rules.specs.Fold.{◌and◌, pick, those_to}
use Rattle.rules.specs.Instance.{Instance, Assignment}
use Rattle.rules.specs.Group.{closure}
use Rattle.arrays.specs.Sets.{has}

-- p is one of the machines 1 to m, and in the set g
unfoldable pub among : ℕ → ℕ → ℕ → Bool
among g m p = (ltb 0 p and leb p m) and has g p

-- the closure of machine i where some machine is underloaded, all machines where none is
abbrev pub group_by : Instance → Assignment → ℕ → Bool → List ℕ
group_by I x i some = pick some (closure I x i) (those_to I.m (λ j. true))

-- an array of 24 and a size hold the list g, with zeros after it
pub record HoldsList (g array : List ℕ) (size : ℕ) : Type 0 where
  pub front : take size array ≡ g
  pub count : size ≡ length g
  pub few : size ≤ 24
  pub padded : array ≡ g ++ replicate (24 - size) 0
