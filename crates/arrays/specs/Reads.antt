-- The instance that arrays say: minutes of each job, and the machines that it may run on, as a set. And loads kept beside an assignment.
use Rattle.std.specs.Prelude.{ℕ, ◌≤◌, ◌<◌, ◌^◌, ◌≡◌, List}
use Rattle.rules.specs.Fold.{at}
use Rattle.rules.specs.Instance.{Instance, Assignment, n, minutes_of, eligible}
use Rattle.rules.specs.Load.{load}
use Rattle.theory.proofs.Valid.{Valid}
use Rattle.theory.proofs.Small.{Small}
use Rattle.arrays.specs.Sets.{has}

pub record Reads (I : Instance) (m c : ℕ) (lengths sets : List ℕ) : Type 0 where
  pub machines : I.m ≡ m
  pub jobs : n I ≡ c
  pub few : m ≤ 24
  pub most : c ≤ 224
  pub minutes : (b : ℕ) → 0 < b → b ≤ c → at lengths b ≡ minutes_of I b
  pub masks : (b i : ℕ) → 0 < b → b ≤ c → 0 < i → i ≤ 24 → has (at sets b) i ≡ eligible I b i
  pub words : (b : ℕ) → at sets b < 2 ^ 24
  -- so loads fit 32 bits, and their squares 64
  pub small : Small I
  pub valid : Valid I

-- these are the assignment's loads
abbrev pub Kept : Instance → Assignment → List ℕ → Type 0
Kept I x loads = (i : ℕ) → 0 < i → i ≤ I.m → at loads i ≡ load I x i
