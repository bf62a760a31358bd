-- What a search by number answers as an index: numbers start at 1, indices at 0, and the number 0 stands for none.
use Rattle.std.specs.Prelude.{ℕ, zero, suc, Option, None, Some}

-- the index of the number found; none for 0
abbrev pub found : ℕ → Option ℕ
found zero = None
found (suc i) = Some i
