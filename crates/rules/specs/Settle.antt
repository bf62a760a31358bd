-- Document 01, "Loads and settling": settling repeats one move until no job improves.
use Rattle.std.specs.Prelude.{ℕ, zero, suc, ◌*◌, ◌/◌}
use Rattle.rules.specs.Fold.{put, sum_to, least_to, greatest_to}
use Rattle.rules.specs.Instance.{Instance, Assignment, n, minutes_of}
use Rattle.rules.specs.Load.{load, elsewhere, improves}

-- the job that moves: the longest that improves, the lowest number on a tie; 0 where none improves
unfoldable pub mover : Instance → Assignment → ℕ
mover I x = greatest_to (n I) (λ b. improves I x b) (λ b. minutes_of I b)

-- where it goes: of its other machines the one of least load, the lowest number on a tie
unfoldable pub target : Instance → Assignment → ℕ → ℕ
target I x b = least_to I.m (λ i. elsewhere I x b i) (λ i. load I x i)

unfoldable pub moved : Instance → Assignment → ℕ → Assignment
moved I x b = put x b (target I x b)

unfoldable pub squares : Instance → Assignment → ℕ
squares I x = sum_to I.m (λ i. load I x i * load I x i)

pub record Settled : Type 0 where
  pub assignment : Assignment
  pub moves : ℕ

-- at most f more moves, after some that were made; b is the job that moves next, 0 for none
unfoldable pub settle_by : Instance → ℕ → Assignment → ℕ → ℕ → Settled
settle_by I zero x made b = record { assignment = x; moves = made }
settle_by I (suc f) x made zero = record { assignment = x; moves = made }
settle_by I (suc f) x made (suc b) = let y = moved I x (suc b) in settle_by I f y (suc made) (mover I y)

-- Each move lowers the sum of squared loads by 2 or more, so half of it is enough: the end is an equilibrium, and never
-- one that a count cut short (theory, Settling).
unfoldable pub settle : Instance → Assignment → Settled
settle I x = settle_by I (squares I x / 2) x 0 (mover I x)
