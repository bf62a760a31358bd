-- Edits in either order (document 02, C-19), by journals: what the host's calls answer where two lists of edits on different batches stand
-- interleaved in a journal.
use Prim.Native.Nat.{ℕ}
use mathlib.Core.Path.{◌≡◌, ap, ◌∙◌}
use mathlib.Core.Bool.{true}
use mathlib.Core.List.{List, ◌++◌}
use Rattle.rules.specs.Sheet.{Book}
use Rattle.rules.specs.Read.{accepted, read}
use Rattle.rules.specs.Run.{Call, Answer}
use Rattle.rules.specs.Rewrite.{written}
use Rattle.rules.specs.Lent.{text, into_buffer}
use Rattle.rules.specs.Interleave.{all_independent, Interleaving, turns, answers_by_turns}
use Rattle.rules.specs.Journal.{calls, journal, answer_lines, run_host, sheet_text, write_host}
use Rattle.theory.proofs.Interleave.{interleaves}
use Rattle.journal.proofs.Hosting.{run-through}

-- The sheet written is that of the one list and then the other, in whatever way they are interleaved. The answers to each list are those
-- that it gets where the other is not there, and those to the calls after both are the same for every interleaving.
pub record HostInterleaved (s j buffer : List ℕ) (k : Book) {xs ys ws : List Call} (h : Interleaving xs ys ws) (cs zs : List Call) : Type 0 where
  pub left : write_host s j buffer ≡ into_buffer (text (sheet_text k (cs ++ (xs ++ ys ++ zs)))) buffer
  pub said : run_host s j buffer ≡ into_buffer (text (answer_lines (answers_by_turns k (turns h) cs xs ys zs))) buffer

pub host-interleaved : (s j buffer : List ℕ) (k : Book) {xs ys ws : List Call} (h : Interleaving xs ys ws) (cs zs : List Call)
    → all_independent xs ys ≡ true → read s ≡ accepted k → journal j ≡ calls (cs ++ (ws ++ zs)) → HostInterleaved s j buffer k h cs zs
host-interleaved s j buffer k {ws = ws} h cs zs i e f =
    let w = run-through s j buffer k (cs ++ (ws ++ zs)) e f in
    record {
      left = w.left ∙ ap (λ (b : Book). into_buffer (text (written b)) buffer) ((interleaves k).book h i cs zs);
      said = w.said ∙ ap (λ (l : List Answer). into_buffer (text (answer_lines l)) buffer) ((interleaves k).replies h i cs zs);
    }
