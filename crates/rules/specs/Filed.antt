-- Document 02, C-14, for hosts that keep their sheet as a file: balance or settle on it, with a list lent for the records, and the sheet
-- written back into a lent buffer. The documents leave this call's form open; docs/DECISIONS.md says what was decided.
use Rattle.std.specs.Prelude.{ℕ, List, eqb}
use Rattle.rules.specs.Fold.{pick}
use Rattle.rules.specs.Refusal.{buffer_short, number}
use Rattle.rules.specs.Read.{Reading, accepted, refused_at, read}
use Rattle.rules.specs.Rewrite.{written}
use Rattle.rules.specs.Run.{Call, Answer, refused, done, reviewed, tried, balanced, settled, answer, next}
use Rattle.rules.specs.Lent.{Due, text, refusal, Hosted, into_buffer}

-- the file of the sheet that a call leaves, or the call's own refusal
abbrev pub left_due : Answer → List ℕ → Due
left_due (refused e) t = refusal (number e) 0
left_due done t = text t
left_due (reviewed v) t = text t
left_due (tried o) t = text t
left_due (balanced b l) t = text t
left_due (settled z l) t = text t

-- the sheet is judged first
abbrev pub file_due : Reading → Call → Due
file_due (accepted k) c = left_due (answer k c) (written (next k c))
file_due (refused_at e j) c = refusal (number e) j

abbrev pub file_answer : Reading → Call → Answer
file_answer (accepted k) c = answer k c
file_answer (refused_at e j) c = refused e

-- the buffer's side, and the call's answer, whose records the lent list has at its front afterwards
pub record Filed : Type 0 where
  pub hosted : Hosted
  pub answer : Answer

-- where the buffer is too short nothing is answered
abbrev pub filed_with : Hosted → Answer → Filed
filed_with h a = record { hosted = h; answer = pick (eqb h.refusal (number buffer_short)) (refused buffer_short) a }

unfoldable pub filed : List ℕ → Call → List ℕ → Filed
filed s c buffer = filed_with (into_buffer (file_due (read s) c) buffer) (file_answer (read s) c)
