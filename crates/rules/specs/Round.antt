-- Document 02, C-12: lengths that are all multiples of one number, and how far above another finish a plan's may lie.
use Rattle.std.specs.Prelude.{ℕ, ◌+◌, ◌%◌, Bool, leb, eqb}
use Rattle.rules.specs.Fold.{all_to}
use Rattle.rules.specs.Instance.{Instance, n, minutes_of}
use Rattle.rules.specs.Load.{longest}

-- every length is a multiple of g; of 0 none is, as lengths are 1 or more
unfoldable pub multiples : Instance → ℕ → Bool
multiples I g = all_to (n I) (λ b. eqb (minutes_of I b % g) 0)

-- all lengths are equal
unfoldable pub equal_lengths : Instance → Bool
equal_lengths I = all_to (n I) (λ b. eqb (minutes_of I b) (longest I))

-- v is above w by at most longest − g
unfoldable pub close_to : Instance → ℕ → ℕ → ℕ → Bool
close_to I g v w = leb (v + g) (w + longest I)
