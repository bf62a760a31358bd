-- An answer of review or a trial that is the rules' is so in document 01's numbers.
use Prim.Native.Nat.{ℕ, zero, suc, ◌-◌}
use mathlib.Core.Path.{◌≡◌, refl, ap, ◌∙◌}
use mathlib.Core.Bool.{Bool, true, false}
use mathlib.Core.List.{List, ◌∷◌}
use native.Mathlib.Omega.{arith}
use lib.ListN.{length, take, replicate}
use lib.Seq.{take_at, length-take-le}
use lib.Dec.{leb}
use Rattle.rules.specs.Sheet.{Book, size, sound}
use Rattle.rules.specs.Instance.{instance, places}
use Rattle.rules.specs.Load.{load, review, total}
use Rattle.rules.specs.Trial.{at_level, ended}
use Rattle.rules.specs.Group as G
use Rattle.rules.specs.Run.{answer, answer_numbers, shown, try_answer}
use Rattle.rules.specs.Run as R
use Rattle.theory.proofs.Jobs.{batches-first, sound-valid, sound-permitted}
use Rattle.theory.proofs.Trial.{Outcome, passes, fails, outcome, trial-permitted}
use Rattle.std.specs.Prelude.{Result, Ok}
use Rattle.sheet.specs.declared.Refusal.{Refusal}
use Rattle.sheet.specs.Represent.{padded}
use Rattle.theory.proofs.Entries.{length-list_to}
use Rattle.planner.specs.declared.Tried.{Tried}
use Rattle.planner.specs.declared.Reviewed.{Reviewed}
use Rattle.planner.specs.Calls.{numbered, number_or_zero, review_of, trial_of, trial_answer, tried_as, review_numbers, trial_numbers, ReviewAnswered, TrialAnswered}

-- ---- review

front : (w : ℕ) (l : List ℕ) (c : ℕ) → length l ≡ c → take c (padded w l) ≡ l
front w l c e = take_at l (replicate (w - length l) 0) c e

numbered-back : (b : ℕ) → number_or_zero (numbered b) ≡ b
numbered-back zero = refl
numbered-back (suc b) = refl

review-answer : (k : Book) → review_numbers k (review_of k) ≡ answer_numbers (answer k R.reviewing)
unfolding review_of answer review
review-answer k =
    let v = review (instance k) (places k) in
    ap (λ (i : ℕ). 0 ∷ v.makespan ∷ i ∷ take k.m (padded 24 v.loads)) (numbered-back v.improving)
    ∙ ap (λ (l : List ℕ). 0 ∷ v.makespan ∷ v.improving ∷ l) (front 24 v.loads k.m (length-list_to k.m (λ i. load (instance k) (places k) i)))

-- ---- trials

module _ (k : Book) (v : sound k ≡ true) where
  tried-numbers : (a : ℕ) {t : G.Tried} → Outcome (instance k) (places k) (sound-valid k v) (sound-permitted k v) a t
      → trial_numbers k (Ok (tried_as (shown (size k) t))) ≡ answer_numbers (R.tried (shown (size k) t))
  tried-numbers a (passes p) =
      let w = trial-permitted (instance k) (places k) (sound-valid k v) (sound-permitted k v) (at_level (instance k) a) in
      let e = ended (instance k) (places k) a in
      ap (λ (l : List ℕ). 0 ∷ 1 ∷ e.lifts ∷ e.pushes ∷ l) (front 200 (take (size k) e.assignment) (size k) (length-take-le (size k) e.assignment (omega (arith, w.size, batches-first k))))
  tried-numbers a (fails g f) =
      let e = ended (instance k) (places k) a in
      ap (λ (l : List ℕ). 0 ∷ 0 ∷ e.lifts ∷ e.pushes ∷ l) (front 24 g (length g) refl)

  answer-numbers : (a : ℕ) (b : Bool) → trial_numbers k (trial_answer (try_answer b k a)) ≡ answer_numbers (try_answer b k a)
  answer-numbers a true = tried-numbers a (outcome (instance k) (places k) (sound-valid k v) (sound-permitted k v) a)
  answer-numbers a false = refl

  trial-answer : (a : ℕ) → trial_numbers k (trial_of k a) ≡ answer_numbers (answer k (R.trying a))
  unfolding trial_of answer
  trial-answer a = answer-numbers a (leb a (total (instance k)))

-- ---- what each promises

pub review-answered : {k : Book} {r : Reviewed} → r ≡ review_of k → ReviewAnswered k r
review-answered {k} f = record { is = f; numbers = rw f (review-answer k) }

pub trial-answered : {k : Book} {a : ℕ} {r : Result Tried Refusal} → sound k ≡ true → r ≡ trial_of k a → TrialAnswered k a r
trial-answered {k} {a} v f = record { is = f; numbers = rw f (trial-answer k v a) }
