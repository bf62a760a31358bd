-- The answer of a call with a lent buffer, as the rules' record.
use Rattle.std.specs.Prelude.{ℕ, List}
use Rattle.rules.specs.Lent as L
use Rattle.text.specs.declared.Hosted.{Hosted}

-- what the call answers, and what its buffer holds afterwards
abbrev pub hosted_of : Hosted → List ℕ → L.Hosted
hosted_of r buffer = record { refusal = r.refusal; line = r.line; length = r.length; buffer = buffer }
