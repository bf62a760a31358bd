-- What the call with a journal answers stays in bounds, and a buffer of 33,958 bytes is always enough.
use Prim.Native.Nat.{ℕ, ◌≤◌, ◌<◌}
use mathlib.Core.Path.{◌≡◌, refl, sym}
use mathlib.Core.List.{List}
use native.Mathlib.Omega.{arith}
use lib.ListN.{length, take}
use Rattle.rules.specs.Sheet.{Book}
use Rattle.rules.specs.Read.{accepted, read}
use Rattle.rules.specs.Run.{Call, book_after}
use Rattle.rules.specs.Lent.{at_front}
use Rattle.rules.specs.Journal.{calls, journal, sheet_text, write_host}
use Rattle.theory.proofs.Rewrite.{most-written}
use Rattle.theory.proofs.Runs.{after-sound}
use Rattle.theory.proofs.Sound.{read-sound}
use Rattle.theory.proofs.Bytes.{read-bounded}
use Rattle.text.proofs.Answer.{into-long}
use Rattle.journal.proofs.Hosting.{journal-numbered}
use Rattle.journal.proofs.Printing.{Modest, due-modest}

module _ (s j buffer : List ℕ) where
  -- the numbers of a refusal fit a line, and the file its buffer
  pub write-modest : length j < 999999 → Modest (length buffer) (write_host s j buffer)
  unfolding write_host
  write-modest short = due-modest s j buffer short sheet_text (read s) refl (journal-numbered j)

  -- a buffer of 33,958 bytes holds every file
  pub always-fits : (k : Book) (cs : List Call) → read s ≡ accepted k → journal j ≡ calls cs → 33958 ≤ length buffer
      → write_host s j buffer
      ≡ record { refusal = 0; line = 0; length = length (sheet_text k cs); buffer = at_front (sheet_text k cs) buffer }
  unfolding write_host
  always-fits k cs e f room =
      let l = most-written (book_after k cs) (after-sound k cs (read-sound s k e)) in
      rw (e, f) (sym (into-long (sheet_text k cs) buffer _ _ (omega arith) refl refl))

-- the first 33,959 bytes of a sheet decide
pub write-bounded : (s j buffer : List ℕ) → write_host (take 33959 s) j buffer ≡ write_host s j buffer
unfolding write_host
write-bounded s j buffer = rw (read-bounded s)
