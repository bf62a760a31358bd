-- What each call's function returns, as the numbers of its answer on the sheet's book.
use Prim.Native.Nat.{ℕ, ◌-◌, ◌≤◌, ◌<◌}
use mathlib.Core.Path.{◌≡◌, refl, sym, ap, ◌∙◌}
use mathlib.Core.Bool.{Bool, true, false}
use mathlib.Core.List.{List, [], ◌∷◌, ◌++◌}
use native.Mathlib.Omega.{arith}
use lib.Dec.{leb}
use lib.ListN.{length, take, replicate, length-take}
use lib.Seq.{take_at}
use borrow.Author.Tests.{le-leb, lt-leb}
use Rattle.rules.specs.Sheet.{Book, size}
use Rattle.rules.specs.Edit as E
use Rattle.rules.specs.Instance.{instance, places}
use Rattle.rules.specs.Load.{load, total, review}
use Rattle.rules.specs.Fold.{list_to}
use Rattle.rules.specs.Trial.{ended}
use Rattle.rules.specs.Group as G
use Rattle.rules.specs.Run.{Call, answer, next, answer_numbers, edit_answer, shown, try_answer, roomy, balance_answer, balance_book}
use Rattle.rules.specs.Run as R
use Rattle.theory.proofs.Trial.{passes, fails, outcome}
use Rattle.theory.proofs.Trial as T
use Rattle.std.proofs.Common.{Option, Some, None, unwrap_or, Result, Ok, Err}
use Rattle.sheet.specs.declared.Sheet.{Sheet}
use Rattle.sheet.specs.declared.Refusal.{Refusal}
use Rattle.sheet.specs.Represent.{Sound, sheet_of, book_of}
use Rattle.sheet.specs.Answers.{Edited, EditAnswered, edit_numbers}
use Rattle.theory.proofs.Entries.{length-list_to}
use Rattle.sheet.proofs.Padded.{length-padded}
use Rattle.sheet.proofs.SoundViews.{view-instruments, view-batches, view-valid, view-permitted}
use Rattle.planner.specs.declared.Outcome.{Outcome}
use Rattle.planner.specs.declared.Outcome.TheVariants.{Passed, Failed}
use Rattle.planner.specs.declared.Tried.{Tried}
use Rattle.planner.specs.declared.Balanced.{Balanced}
use Rattle.planner.specs.declared.Settled.{Settled}
use Rattle.planner.specs.declared.Reviewed.{Reviewed}
use Rattle.sheet.proofs.Answered.{edit-next}
use Rattle.planner.specs.Calls.{number_or_zero, outcome_figures, review_of, trial_of, balance_of, settle_of, trial_answer, tried_as, ReviewAnswered, TrialAnswered}
use Rattle.planner.specs.Calls as C
use Rattle.planner.proofs.Figures.{group-few, balance-fits}
use Rattle.planner.proofs.Changes.{places_in, balance-change, settle-change}
use Rattle.moves.specs.declared.Change.{Change}
use Rattle.journal.specs.declared.answer.Answer.{Answer}
use Rattle.journal.specs.Answering.{answer_with, made_with, made_of, is_settle, outcome_numbers, OutcomeStands, TrialStands, review_numbers, trial_numbers, balanced_numbers, change_numbers}

-- ---- only settle has a wider number

edit-plain : (k : Book) (e : E.Edit) → is_settle (answer k (R.editing e)) ≡ false
unfolding answer
edit-plain k e = from (E.edit k e)
  where
    from : (o : E.Edited) → is_settle (edit_answer o) ≡ false
    from (E.refused r) = refl
    from (E.edited j) = refl

trial-plain : (k : Book) (a : ℕ) → is_settle (answer k (R.trying a)) ≡ false
unfolding answer
trial-plain k a = from (leb a (total (instance k)))
  where
    from : (t : Bool) → is_settle (try_answer t k a) ≡ false
    from true = refl
    from false = refl

review-plain : (k : Book) → is_settle (answer k R.reviewing) ≡ false
unfolding answer
review-plain k = refl

balance-plain : (k : Book) (t : Bool) → is_settle (balance_answer t k) ≡ false
balance-plain k true = refl
balance-plain k false = refl

-- ---- the numbers of a review and of a trial are the planner's, of as many loads and places as the book has instruments and batches

same-improving : (o : Option ℕ) → unwrap_or o 0 ≡ number_or_zero o
same-improving None = refl
same-improving (Some b) = refl

same-review : (k : Book) (r : Reviewed) → review_numbers k.m r ≡ C.review_numbers k r
same-review k r = ap (λ (i : ℕ). 0 ∷ r.makespan ∷ i ∷ take k.m r.loads) (same-improving r.improving)

same-outcome : (k : Book) (r b : ℕ) (o : Outcome) → outcome_numbers (size k) r b o ≡ outcome_figures k r b o
same-outcome k r b (Passed x) = refl
same-outcome k r b (Failed g) = refl

same-trial : (k : Book) (r : Result Tried Refusal) → trial_numbers (size k) r ≡ C.trial_numbers k r
same-trial k (Ok t) = ap (λ (l : List ℕ). 0 ∷ l) (same-outcome k t.lifts t.pushes t.outcome)
same-trial k (Err e) = refl

-- ---- each call on a sound sheet

module _ (s : Sheet) (v : Sound s) where
  made : (c : Call) {t : Sheet} (l : List ℕ) (p : Bool) → t ≡ sheet_of (next (book_of s) c) → l ≡ answer_numbers (answer (book_of s) c)
      → is_settle (answer (book_of s) c) ≡ p → made_with (answer_with l p) t ≡ made_of (book_of s) c
  unfolding made_of
  made c l p e f g = rw (e, f, g)

  pub made-edit : (e : E.Edit) (r : Result Unit Refusal) (t : Sheet) (a : Answer) → a ≡ answer_with (edit_numbers r) false → EditAnswered s e r t
      → made_with a t ≡ made_of (book_of s) (R.editing e)
  made-edit e r t a h q =
      ap (λ (x : Answer). made_with x t) h
      ∙ made (R.editing e) (edit_numbers r) false (ap (λ (x : Edited). x.sheet) q.is ∙ edit-next (book_of s) s e refl (sym v.arrays)) q.numbers
      (edit-plain (book_of s) e)

  pub made-review : (r : Reviewed) (m : ℕ) → ReviewAnswered (book_of s) r → m ≡ (book_of s).m
      → made_with (answer_with (review_numbers m r) false) s ≡ made_of (book_of s) R.reviewing
  unfolding next
  made-review r m q e =
      ap (λ (i : ℕ). made_with (answer_with (review_numbers i r) false) s) e ∙ made R.reviewing _ false (sym v.arrays)
      (same-review (book_of s) r ∙ q.numbers) (review-plain (book_of s))

  pub made-trial : (a : ℕ) (r : Result Tried Refusal) (c : ℕ) → TrialAnswered (book_of s) a r → c ≡ size (book_of s)
      → made_with (answer_with (trial_numbers c r) false) s ≡ made_of (book_of s) (R.trying a)
  unfolding next
  made-trial a r c q e =
      ap (λ (i : ℕ). made_with (answer_with (trial_numbers i r) false) s) e
      ∙ made (R.trying a) _ false (sym v.arrays) (same-trial (book_of s) r ∙ q.numbers) (trial-plain (book_of s) a)

  -- ---- balance and settle, where the lent list has c entries

  module _ (c : ℕ) where
    short : c < size (book_of s) → roomy (book_of s) c ≡ false
    short h = lt-leb (size (book_of s)) c h

    pub balance-short : c < size (book_of s) → made_with (answer_with (9 ∷ []) false) s ≡ made_of (book_of s) (R.balancing c)
    unfolding answer next
    balance-short h = made (R.balancing c) (9 ∷ []) false (rw (short h) (sym v.arrays)) (rw (short h)) (rw (short h))

    pub settle-short : c < size (book_of s) → made_with (answer_with (9 ∷ []) false) s ≡ made_of (book_of s) (R.settling c)
    unfolding answer next
    settle-short h = made (R.settling c) (9 ∷ []) false (rw (short h) (sym v.arrays)) (rw (short h)) (rw (short h))

    module _ (d : Change) (e : d.n ≡ size (book_of s)) (f : d.old ≡ places_in s) (h : d.n ≤ c) where
      enough : roomy (book_of s) c ≡ true
      enough = le-leb (size (book_of s)) c (omega arith)

      pub made-balance : (b : Balanced) → b ≡ balance_of (book_of s) → d.new ≡ places_in b.sheet
          → made_with (answer_with (balanced_numbers b ++ change_numbers d) false) b.sheet ≡ made_of (book_of s) (R.balancing c)
      unfolding answer next balance_of
      made-balance b q g =
          let l = balance-change s v b q d.n d.old d.new e f g in
          let group = (balance_book (book_of s)).group in
          made (R.balancing c) (balanced_numbers b ++ change_numbers d) false (rw (enough, q))
          (rw (enough, l, q, take_at group (replicate (24 - length group) 0) (length group) refl)) (rw enough)

      pub made-settle : (z : Settled) → z ≡ settle_of (book_of s) → d.new ≡ places_in z.sheet
          → made_with (answer_with (0 ∷ z.makespan ∷ z.moves ∷ change_numbers d) true) z.sheet ≡ made_of (book_of s) (R.settling c)
      unfolding answer next settle_of
      made-settle z q g =
          let l = settle-change s v z q d.n d.old d.new e f g in
          made (R.settling c) (0 ∷ z.makespan ∷ z.moves ∷ change_numbers d) true (rw (enough, q)) (rw (enough, l, q)) (rw enough)

  -- ---- the arrays are long enough

  pub review-long : (r : Reviewed) → r ≡ review_of (book_of s) → length r.loads ≡ 24
  unfolding review_of review
  review-long r q =
      let k = book_of s in
      rw q (length-padded 24 (list_to k.m (λ i. load (instance k) (places k) i))
      (omega (arith, length-list_to k.m (λ i. load (instance k) (places k) i), (view-instruments s v).1)))

  tried-stands : (a : ℕ) {t : G.Tried} → T.Outcome (instance (book_of s)) (places (book_of s)) (view-valid s v) (view-permitted s v) a t
      → OutcomeStands (size (book_of s)) (tried_as (shown (size (book_of s)) t)).outcome
  tried-stands a (passes p) =
      let e = (ended (instance (book_of s)) (places (book_of s)) a).assignment in
      let l = length-take (size (book_of s)) e in
      let n = view-batches s v in
      omega (arith, length-padded 200 (take (size (book_of s)) e) (omega arith))
  tried-stands a (fails g f) =
      let h = group-few f.shows.group in
      let u = (view-instruments s v).1 in
      (omega arith, omega (arith, length-padded 24 g (omega arith)))

  try-stands : (a : ℕ) (b : Bool) → TrialStands (size (book_of s)) (trial_answer (try_answer b (book_of s) a))
  try-stands a true = tried-stands a (outcome (instance (book_of s)) (places (book_of s)) (view-valid s v) (view-permitted s v) a)
  try-stands a false = tt

  pub trial-stands : (a : ℕ) (r : Result Tried Refusal) (n : ℕ) → r ≡ trial_of (book_of s) a → n ≡ size (book_of s) → TrialStands n r
  unfolding trial_of answer
  trial-stands a r n q e = rw (q, e) (try-stands a (leb a (total (instance (book_of s)))))

  pub balance-long : (b : Balanced) → b ≡ balance_of (book_of s) → (b.group.size ≤ 24) × (length b.group.list ≡ 24)
  unfolding balance_of
  balance-long b q = let f = (balance-fits s v).few in rw q (f, length-padded 24 (balance_book (book_of s)).group f)
