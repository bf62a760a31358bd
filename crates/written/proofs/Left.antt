-- The sheet that a journal leaves, and what is due.
use Rattle.std.proofs.Common.{ℕ, ◌≡◌, true, List, Ok, Err, ap, refl, ◌∙◌}
use Rattle.rules.specs.Sheet.{sound}
use Rattle.rules.specs.Rewrite.{written}
use Rattle.rules.specs.Run.{book_after}
use Rattle.rules.specs.Lent.{text, into_buffer}
use Rattle.rules.specs.Journal.{sheet_text, write_host}
use Rattle.theory.proofs.Sound.{read-sound}
use Rattle.theory.proofs.Runs.{after-sound}
use Rattle.sheet.specs.declared.Sheet.{Sheet}
use Rattle.sheet.specs.Represent.{Sound, book_of}
use Rattle.sheet.proofs.Represent.{book-sheet, sheet-sound}
use Rattle.text.specs.Answer.{hosted_of}
use Rattle.journal.specs.declared.run.Refused.{Refused}
use Rattle.journal.specs.declared.run.Refused.TheVariants.{BadSheet, BadJournal}
use Rattle.journal.specs.Running.{told, left_of}
use Rattle.journal.proofs.Hosting.{Went, left-went, left-refused}

module _ (s j : List ℕ) where
  -- a refusal
  pub left-refusal : (buffer : List ℕ) (e : Refused) → Err e ≡ left_of s j → hosted_of (told e) buffer ≡ write_host s j buffer
  unfolding left_of write_host into_buffer
  left-refusal buffer e q = rw (left-refused book_after s j sheet_text e q) (from e)
    where
      from : (e : Refused) → hosted_of (told e) buffer ≡ record { refusal = (told e).refusal; line = (told e).line; length = 0; buffer = buffer }
      from (BadSheet f) = refl
      from (BadJournal i) = refl

  -- none: the sheet is sound, and its file is due
  module _ (t : Sheet) (e : Ok t ≡ left_of s j) where
    went : Went book_after s j t
    unfolding left_of
    went = left-went book_after s j t e

    went-sound : (w : Went book_after s j t) → sound (book_after w.book w.calls.made) ≡ true
    went-sound w = after-sound w.book w.calls.made (read-sound s w.book w.file)

    pub left-sound : Sound t
    left-sound = let w = went in rw w.sheet (sheet-sound _ (went-sound w))

    pub left-text : (buffer : List ℕ) → into_buffer (text (written (book_of t))) buffer ≡ write_host s j buffer
    unfolding write_host
    left-text buffer =
        let w = went in
        let b : book_of t ≡ book_after w.book w.calls.made = ap book_of w.sheet ∙ book-sheet _ (went-sound w) in
        rw (b, w.file, w.calls.same)
