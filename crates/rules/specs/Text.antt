-- A text's bytes, so that files and listings can be written as texts. All characters used are ASCII, a byte each.
use Rattle.std.specs.Prelude.{ℕ, List, [], ◌∷◌, ◌++◌}
use Prim.Native.Char.{code}
use Prim.Native.String.{String}

unfoldable pub bytes : String → List ℕ
bytes String.«[]» = []
bytes (String.◌∷◌ c s) = code c ∷ bytes s

-- lines, each with its LF
unfoldable pub lines : List String → List ℕ
lines [] = []
lines (s ∷ t) = bytes s ++ (10 ∷ lines t)
