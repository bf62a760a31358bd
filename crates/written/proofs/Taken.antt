-- The file of a worklist's sheet: what the host gets, case by case; its numbers fit a line, and the file its buffer.
use Prim.Native.Nat.{ℕ, ◌≤◌, ◌<◌}
use mathlib.Core.Path.{◌≡◌, refl, sym}
use mathlib.Core.List.{List}
use native.Mathlib.Omega.{arith}
use lib.ListN.{length}
use Rattle.rules.specs.Sheet.{Book}
use Rattle.rules.specs.Read.{Reading, accepted, refused_at}
use Rattle.rules.specs.Rewrite.{written}
use Rattle.rules.specs.Lent.{text, at_front, into_buffer}
use Rattle.rules.specs.Worklist.{taken, taken_due, take_host}
use Rattle.theory.proofs.Rewrite.{most-written}
use Rattle.theory.proofs.Taken.{taken-sound}
use Rattle.sheet.specs.declared.Fault.{Fault}
use Rattle.sheet.specs.Answers.{number_of}
use Rattle.sheet.proofs.Accepted.{Refused}
use Rattle.text.proofs.Answer.{into-long}
use Rattle.journal.proofs.Fitting.{refusal-small}
use Rattle.journal.proofs.Printing.{Modest, into-modest}
use Rattle.worklist.proofs.Claims.{taken-row}

module _ (m : ℕ) (l s buffer : List ℕ) where
  pub take-refused : (f : Fault) (c : ℕ) → Refused (taken m l s) f → c ≡ number_of f.refusal
      → record { refusal = c; line = f.line; length = 0; buffer = buffer } ≡ take_host m l s buffer
  unfolding take_host into_buffer
  take-refused f c r e = rw (r.said, e, r.coded)

  pub take-written : (k : Book) → taken m l s ≡ accepted k → into_buffer (text (written k)) buffer ≡ take_host m l s buffer
  unfolding take_host
  take-written k e = rw e

  due-modest : (o : Reading) → taken m l s ≡ o → length s < 999000 → Modest (length buffer) (into_buffer (taken_due o) buffer)
  unfolding into_buffer
  due-modest (accepted k) e short = into-modest (written k) buffer
  due-modest (refused_at g j) e short =
      record { number = refusal-small g; place = omega (arith, taken-row m l s g j e); few = omega arith }

  pub take-modest : length s < 999000 → Modest (length buffer) (take_host m l s buffer)
  unfolding take_host
  take-modest short = due-modest (taken m l s) refl short

  -- a buffer of 33,958 bytes holds every file
  pub take-fits : (k : Book) → taken m l s ≡ accepted k → 33958 ≤ length buffer
      → take_host m l s buffer ≡ record { refusal = 0; line = 0; length = length (written k); buffer = at_front (written k) buffer }
  unfolding take_host
  take-fits k e room =
      let h = most-written k (taken-sound m l s k e) in
      rw e (sym (into-long (written k) buffer _ _ (omega arith) refl refl))
