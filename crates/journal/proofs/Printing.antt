-- What the program prints, from what the host gets.
use Prim.Native.Nat.{ℕ, ◌+◌, ◌≤◌, ◌<◌}
use mathlib.Core.Path.{◌≡◌, refl, ap, ◌∙◌}
use mathlib.Core.List.{List, [], ◌∷◌, ◌++◌}
use native.Mathlib.Omega.{arith}
use lib.Dec.{leb}
use lib.ListN.{length, take, drop}
use lib.Seq.{take_at}
use borrow.Author.Tests.{leb-true, eq-eqb, ne_eqb}
use Rattle.rules.specs.Refusal.{buffer_short}
use Rattle.rules.specs.Read.{Reading, accepted, refused_at, read}
use Rattle.rules.specs.Render.{line}
use Rattle.rules.specs.Sheet.{Book}
use Rattle.rules.specs.Run.{Call}
use Rattle.rules.specs.Lent.{text, Hosted, into_buffer}
use Rattle.rules.specs.Journal.{Journal, run_due, answer_text, run_host}
use Rattle.theory.proofs.Logic.{by_test}
use Rattle.theory.proofs.Bytes.{refused-line, read-bounded}
use Rattle.theory.proofs.Fields.{line-length}
use Rattle.text.specs.declared.Hosted as C
use Rattle.text.specs.Answer.{hosted_of}
use Rattle.journal.specs.Running.{printed_of}
use Rattle.journal.proofs.Fitting.{refusal-small}
use Rattle.journal.proofs.Hosting.{Numbered, formed, fault, journal-numbered}

-- ---- the numbers of a refusal fit a line, and the answers their buffer

pub record Modest (room : ℕ) (h : Hosted) : Type 0 where
  pub number : h.refusal < 1000000
  pub place : h.line < 1000000
  pub few : h.length ≤ room

pub into-modest : (t buffer : List ℕ) → Modest (length buffer) (into_buffer (text t) buffer)
unfolding into_buffer
into-modest t buffer =
    by_test (leb (length t) (length buffer))
    (λ e. rw e (record { number = omega arith; place = omega arith; few = leb-true _ _ e }))
    (λ e. rw e (record { number = refusal-small buffer_short; place = omega arith; few = omega arith }))

module _ (s j buffer : List ℕ) (short : length j < 999999) where
  -- whatever text is due
  pub due-modest : (f : Book → List Call → List ℕ) (o : Reading) → read s ≡ o → {l : Journal} → Numbered (length j + 1) l
      → Modest (length buffer) (into_buffer (run_due f o l) buffer)
  unfolding into_buffer
  due-modest f (accepted k) e (formed cs) = into-modest (f k cs) buffer
  due-modest f (accepted k) e (fault i h n) = record { number = omega arith; place = omega arith; few = omega arith }
  due-modest f (refused_at g i) e p = record { number = refusal-small g; place = omega (arith, refused-line s g i e); few = omega arith }

  run-modest : Modest (length buffer) (run_host s j buffer)
  unfolding run_host
  run-modest = due-modest answer_text (read s) refl (journal-numbered j)

  -- ---- as the code has it

  module _ (r : C.Hosted) (after : List ℕ) (e : hosted_of r after ≡ run_host s j buffer) where
    pub ran-modest : Modest (length buffer) (hosted_of r after)
    ran-modest = rw e run-modest

    pub answers-printed : r.refusal ≡ 0 → take r.length after ≡ printed_of (run_host s j buffer)
    answers-printed z = answers_of z ∙ ap printed_of e
      where
        answers_of : r.refusal ≡ 0 → take r.length after ≡ printed_of (hosted_of r after)
        answers_of z = rw (eq-eqb r.refusal 0 z)

    pub refusal-printed : (r.refusal ≡ 0 → ⊥) → (end : List ℕ) → end ≡ line (r.refusal ∷ r.line ∷ []) ++ drop 13 after
        → take 13 end ≡ printed_of (run_host s j buffer)
    refusal-printed n end q =
        let l = r.refusal ∷ r.line ∷ [] in
        ap (take 13) q ∙ take_at (line l) (drop 13 after) 13 (line-length l) ∙ refusal-of n ∙ ap printed_of e
      where
        refusal-of : (r.refusal ≡ 0 → ⊥) → line (r.refusal ∷ r.line ∷ []) ≡ printed_of (hosted_of r after)
        refusal-of n = rw (ne_eqb r.refusal 0 n)

-- the first 33,959 bytes of a sheet decide what is printed
pub run-bounded : (s j buffer : List ℕ) → run_host (take 33959 s) j buffer ≡ run_host s j buffer
unfolding run_host
run-bounded s j buffer = rw (read-bounded s)
