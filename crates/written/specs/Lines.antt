-- The batch lines of a file.
use Rattle.std.specs.Prelude.{ℕ, ◌+◌, ◌*◌, List, map, eqb}
use Rattle.rules.specs.Sheet.{Book}
use Rattle.rules.specs.Render.{numbered, Described, render_batches, described_batch}

-- a batch with its place as a number, and the mark v
abbrev pub numbered_batch : ℕ → ℕ → ℕ → List ℕ → Described
numbered_batch t p v l = record { minutes = t; list = l; place = numbered p; started = eqb v 1 }

-- how many bytes a line has, by the length of its list
abbrev pub line_length : ℕ → ℕ
line_length count = 6 * count + 25

-- the lines of a book's batches
abbrev pub batch_lines : Book → List ℕ
batch_lines k = render_batches (map described_batch k.batches)
