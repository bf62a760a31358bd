-- A number's columns from the last to the first, as the code writes them.
use Rattle.std.specs.Prelude.{ℕ, ◌+◌, ◌%◌, leb, eqb}
use Rattle.rules.specs.Fold.{◌and◌, pick}

-- the column before the last w of a number, where rest is what stands before those
abbrev pub column : ℕ → ℕ → ℕ
column w rest = pick (leb 1 w and eqb rest 0) 32 (48 + rest % 10)
