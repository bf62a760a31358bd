-- Jobs that wait for a place.
use Rattle.std.specs.Prelude.{ℕ, Bool, List, eqb, ltb}
use Rattle.rules.specs.Fold.{◌and◌, at}

-- the job with number b has no place, and some machine may run it
abbrev pub waits : List ℕ → List ℕ → ℕ → Bool
waits places sets b = eqb (at places b) 0 and ltb 0 (at sets b)
