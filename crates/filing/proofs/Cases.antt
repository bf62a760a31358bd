-- What is answered on a file, case by case.
use Prim.Native.Nat.{ℕ}
use mathlib.Core.Path.{◌≡◌, refl, sym, ap, ◌∙◌}
use mathlib.Core.Bool.{Bool, true, false}
use mathlib.Core.List.{List}
use lib.Dec.{leb, eqb}
use lib.ListN.{length}
use Rattle.std.specs.Prelude.{Result, Ok, Err}
use Rattle.rules.specs.Fold.{pick}
use Rattle.rules.specs.Sheet.{Book}
use Rattle.rules.specs.Read.{read, accepted, refused_at}
use Rattle.rules.specs.Refusal.{Refusal, buffer_short, number}
use Rattle.rules.specs.Rewrite.{written}
use Rattle.rules.specs.Lent.{text, Hosted, into_buffer}
use Rattle.rules.specs.Run.{Call, refused, answer, next}
use Rattle.rules.specs.Filed.{Filed, left_due, filed, filed_with}
use Rattle.theory.proofs.Logic.{by_test}
use Rattle.sheet.specs.declared.Fault.{Fault}
use Rattle.sheet.specs.declared.Refusal as E
use Rattle.sheet.specs.declared.Refusal.TheVariants.{Malformed, BadSize, BadLength, BadList, BadPlace, NoBatch, SheetFull, LevelAbove, BufferShort, BadCalibration, HasStarted, BadWorklist, BadOrder, BadJournal}
use Rattle.sheet.specs.Answers.{number_of, hosted_as}

-- no refusal has the number 0
number-some : (e : E.Refusal) → number_of e ≡ 0 → ⊥
number-some Malformed q = cc
number-some BadSize q = cc
number-some BadLength q = cc
number-some BadList q = cc
number-some BadPlace q = cc
number-some NoBatch q = cc
number-some SheetFull q = cc
number-some LevelAbove q = cc
number-some BufferShort q = cc
number-some BadCalibration q = cc
number-some HasStarted q = cc
number-some BadWorklist q = cc
number-some BadOrder q = cc
number-some BadJournal q = cc

-- ---- nothing is done: a refusal, and the buffer as it was

pub record Nothing (buffer : List ℕ) (f : Fault) (d : Filed) : Type 0 where
  pub hosted : d.hosted ≡ hosted_as (Err f) buffer
  pub refusal : Refusal
  pub answer : d.answer ≡ refused refusal

picked : (t : Bool) (e : Refusal) → (x : Refusal) × (pick t (refused buffer_short) (refused e) ≡ refused x)
picked true e = (buffer_short, refl)
picked false e = (e, refl)

buffer-of : (r : Result ℕ Fault) (b : List ℕ) → (hosted_as r b).buffer ≡ b
buffer-of (Ok n) b = refl
buffer-of (Err f) b = refl

module _ (s : List ℕ) (c : Call) (buffer : List ℕ) where
  -- the sheet is refused
  pub not-read : (e : Refusal) (f : Fault) → read s ≡ refused_at e f.line → number_of f.refusal ≡ number e → Nothing buffer f (filed s c buffer)
  unfolding filed into_buffer
  not-read e f r g =
      let x = picked (eqb (number e) 9) e in
      rw r (record { hosted = rw g refl; refusal = x.0; answer = x.1 })

  module _ (k : Book) (e : read s ≡ accepted k) where
    -- the call is refused
    pub not_made : (f : Fault) → answer k c ≡ refused buffer_short → number_of f.refusal ≡ 9 → f.line ≡ 0 → Nothing buffer f (filed s c buffer)
    unfolding filed into_buffer
    not_made f a n l = rw (e, a) (record { hosted = rw (n, l) refl; refusal = buffer_short; answer = refl })

    -- it is not, and the buffer gets the file, or is too short
    module _ (made : left_due (answer k c) (written (next k c)) ≡ text (written (next k c))) (r : Result ℕ Fault) (out : List ℕ)
        (w : hosted_as r out ≡ into_buffer (text (written (next k c))) buffer) where
      filed-as : filed s c buffer ≡ filed_with (hosted_as r out) (answer k c)
      unfolding filed
      filed-as =
          let a : filed s c buffer ≡ filed_with (into_buffer (text (written (next k c))) buffer) (answer k c) = rw (e, made) in
          a ∙ ap (λ (x : Hosted). filed_with x (answer k c)) (sym w)

      pub out-is : out ≡ (filed s c buffer).hosted.buffer
      out-is = sym (ap (λ (x : Filed). x.hosted.buffer) filed-as ∙ buffer-of r out)

    module _ (made : left_due (answer k c) (written (next k c)) ≡ text (written (next k c))) (out : List ℕ) where
      pub not_written : (f : Fault) → hosted_as (Err f) out ≡ into_buffer (text (written (next k c))) buffer → Nothing buffer f (filed s c buffer)
      unfolding into_buffer
      not_written f w = by_test (leb (length (written (next k c))) (length buffer))
          (λ t. absurd (number-some f.refusal (ap (λ (x : Hosted). x.refusal) (rw t at w))))
          (λ t. let q : hosted_as (Err f) out ≡ record { refusal = 9; line = 0; length = 0; buffer = buffer } = rw t at w in
          let n = ap (λ (x : Hosted). x.refusal) q in
          let l = ap (λ (x : Hosted). x.line) q in
          rw (filed-as made (Err f) out w, q) (record { hosted = rw (n, l) refl; refusal = buffer_short; answer = rw n refl }))

      pub all_done : (n : ℕ) → hosted_as (Ok n) out ≡ into_buffer (text (written (next k c))) buffer
          → filed s c buffer ≡ record { hosted = hosted_as (Ok n) out; answer = answer k c }
      all_done n w = filed-as made (Ok n) out w

-- the buffer afterwards
pub left_alone : {d : Filed} {buffer : List ℕ} {f : Fault} → Nothing buffer f d → buffer ≡ d.hosted.buffer
left_alone h = sym (ap (λ (x : Hosted). x.buffer) h.hosted)
