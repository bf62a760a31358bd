-- What a writer of numbers of any type leaves: a text of what they convert to, pasted into the buffer.
use Rattle.std.specs.Prelude.{ℕ, ◌≡◌, List, length}
use Rattle.std.specs.List.{AllZip}
use Rattle.std.proofs.Math.Seq.{paste}

-- `text` of the numbers that `numbers` convert to stands from index `at` on
pub record Puts {T : Type 0} (converts : T → ℕ → Type 0) (text : List ℕ → List ℕ) (numbers : List T) (old : List ℕ) (at : ℕ) (new : List ℕ)
    : Type 0 where
  pub values : List ℕ
  pub each : AllZip converts numbers values
  pub after : new ≡ paste old at (text values) (length (text values))
