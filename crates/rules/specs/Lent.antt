-- A text and the buffer that a host lends for it (document 01, "The listing"; document 02, C-13): one rule for every text. Records of
-- moves go into a lent list in the same way (document 02, C-14).
use Rattle.std.specs.Prelude.{ℕ, List, [], ◌∷◌, ◌++◌, length, drop, leb}
use Rattle.rules.specs.Fold.{pick}
use Rattle.rules.specs.Refusal.{buffer_short, number}
use Rattle.rules.specs.Render.{line}

-- what is due: a text, or a refusal by its number and its line
pub data Due : Type 0 where
  text : List ℕ → Due
  refusal : ℕ → ℕ → Due

-- what the call answers: the refusal (0 for none) and its line, how many bytes the text has, and what the buffer holds afterwards
pub record Hosted : Type 0 where
  pub refusal : ℕ
  pub line : ℕ
  pub length : ℕ
  pub buffer : List ℕ

-- a text, or records, at the front of what was lent: what lies past them stays
abbrev pub at_front : {X : Type 0} → List X → List X → List X
at_front t buffer = t ++ drop (length t) buffer

-- a refusal, or a buffer shorter than the text, writes nothing
unfoldable pub into_buffer : Due → List ℕ → Hosted
into_buffer (text t) buffer =
    pick (leb (length t) (length buffer))
    (record { refusal = 0; line = 0; length = length t; buffer = at_front t buffer })
    (record { refusal = number buffer_short; line = 0; length = 0; buffer = buffer })
into_buffer (refusal e j) buffer = record { refusal = e; line = j; length = 0; buffer = buffer }

-- what a program prints: the text, or one line with the refusal's number and line
abbrev pub printed : Due → List ℕ
printed (text t) = t
printed (refusal e j) = line (e ∷ j ∷ [])
