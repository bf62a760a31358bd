-- What reading hands out is sound.
use Prim.Native.Nat.{ℕ}
use mathlib.Core.Path.{◌≡◌}
use mathlib.Core.List.{List}
use Rattle.std.specs.Prelude.{IsOkAnd}
use Rattle.rules.specs.Sheet.{Book}
use Rattle.rules.specs.Read.{accepted, read}
use Rattle.theory.proofs.Sound.{read-sound}
use Rattle.sheet.specs.Answers.{read_as}
use Rattle.sheet.specs.Represent.{Sound}
use Rattle.sheet.proofs.Represent.{sheet-sound}

pub read_keeps : (s : List ℕ) (k : Book) → read s ≡ accepted k → IsOkAnd (read_as (read s)) Sound
read_keeps s k e = rw e (sheet-sound k (read-sound s k e))
