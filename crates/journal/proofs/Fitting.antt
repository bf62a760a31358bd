-- Every answer on a sound sheet fits its columns, and its line is the rules'.
use Prim.Native.Nat.{ℕ, zero, suc, ◌≤◌, ◌<◌}
use mathlib.Core.Path.{◌≡◌, refl}
use mathlib.Core.Bool.{Bool, true, false}
use mathlib.Core.List.{List, [], ◌∷◌, ◌++◌}
use native.Mathlib.Nat.{le_refl}
use native.Mathlib.Omega.{arith}
use lib.Dec.{leb, ltb, eqb}
use borrow.Author.Tests.{eqb-true, eqb-false}
use lib.ListN.{length, get_or, take, drop, length-append, length-take, length-drop}
use lib.Seq.{length-take-le}
use Rattle.rules.specs.Fold.{at, those_to}
use Rattle.rules.specs.Refusal as N
use Rattle.rules.specs.Render.{columns, fields, line}
use Rattle.rules.specs.Edit as E
use Rattle.rules.specs.Instance.{Instance, instance, places, n}
use Rattle.rules.specs.Load.{load, total, review, improves}
use Rattle.rules.specs.Trial.{at_level, ended}
use Rattle.rules.specs.Group as G
use Rattle.rules.specs.Sheet.{size}
use Rattle.rules.specs.Moves.{Move, records, move_numbers, move_of}
use Rattle.rules.specs.Run.{Call, Answer, refused, done, reviewed, tried, balanced, settled, answer, answer_numbers, record_numbers, records_to, edit_answer, shown, try_answer, roomy, balance_answer, settle_answer, balance_book, settle_book}
use Rattle.rules.specs.Run as R
use Rattle.rules.specs.Journal.{answer_line}
use Rattle.theory.proofs.Refusal.{number-range}
use Rattle.theory.proofs.Logic.{by_test, conflict}
use Rattle.theory.proofs.View.{First, nowhere, found, first}
use Rattle.theory.proofs.Valid.{Permitted, on-machine}
use Rattle.theory.proofs.Closure.{IsGroup, group-range}
use Rattle.theory.proofs.Heights.{permitted-partial}
use Rattle.theory.proofs.Ending.{trial-lifts, trial-pushes}
use Rattle.theory.proofs.Small.{load-small, makespan-small, lifts-small, pushes-small}
use Rattle.theory.proofs.Trial.{Outcome, passes, fails, outcome, trial-permitted}
use Rattle.theory.proofs.Balancing.{Showing, unfailed, showed}
use Rattle.theory.proofs.Planning.{balanced-showing, balanced-permitted, rested-permitted}
use Rattle.theory.proofs.Records.{records-same, records-other, records-few}
use Rattle.theory.proofs.Member.{every_append}
use Rattle.theory.proofs.Jobs.{batches-first}
use Rattle.theory.proofs.Field.{columns-length}
use Rattle.sheet.specs.declared.Sheet.{Sheet}
use Rattle.sheet.specs.Represent.{Sound, book_of}
use Rattle.theory.proofs.Entries.{length-list_to}
use Rattle.sheet.proofs.SoundViews.{view-instruments, view-batches, view-valid, view-permitted, view-small}
use Rattle.theory.proofs.Fields.{fields-length, line-length}
use Rattle.planner.proofs.Changes.{at_front}
use Rattle.planner.proofs.Figures.{balance-fits, settle-fits, group-few}
use Rattle.journal.specs.Answering.{is_settle, line_of, line_length, SixColumns, Fitting}
use Rattle.journal.proofs.Recording.{numbers-append, numbers-length}
use Rattle.journal.proofs.Small.{small-none, small-more, small_one, small-to, small-mem, small_by}

plain : (l : List ℕ) → length l ≤ 632 → SixColumns l → Fitting false l
plain l h s = record {
  few = h;
  plain = λ e. s;
  start = λ e. conflict e refl;
  moves = λ e. conflict e refl;
  rest = λ e. conflict e refl;
  least = λ e. conflict e refl;
}

pub refusal-small : (e : N.Refusal) → N.number e < 1000000
refusal-small e = omega (arith, (number-range e).1)

refusal-fits : (e : N.Refusal) → Fitting false (N.number e ∷ [])
refusal-fits e = plain (N.number e ∷ []) (omega arith) (small_one (N.number e) (refusal-small e))

edit-fits : (o : E.Edited) → Fitting (is_settle (edit_answer o)) (answer_numbers (edit_answer o))
edit-fits (E.refused e) = refusal-fits e
edit-fits (E.edited k) = plain (0 ∷ []) (omega arith) (small_one 0 (omega arith))

first-le : {k : ℕ} {p : ℕ → Bool} {r : ℕ} → First k p r → r ≤ k
first-le (nowhere h) = omega arith
first-le (found j l e h) = omega arith

group-small : {I : Instance} {g : List ℕ} → I.m ≤ 24 → IsGroup I g → SixColumns g
group-small {I} {g} h e = small-mem g (λ i q. omega (arith, (group-range e i q).1))

showing-small : {I : Instance} {l : ℕ} {g : List ℕ} → I.m ≤ 24 → Showing I l g → SixColumns g
showing-small h unfailed = small-none
showing-small h (showed l g f) = group-small h f.group

module _ (s : Sheet) (v : Sound s) where
  machines : (instance (book_of s)).m ≤ 24
  machines = (view-instruments s v).1

  review-fits : Fitting false (answer_numbers (reviewed (review (instance (book_of s)) (places (book_of s)))))
  unfolding review
  review-fits =
      let i = instance (book_of s) in
      let y = places (book_of s) in
      let few = load-small (view-small s v) y in
      let most = makespan-small (view-small s v) y in
      let w = review i y in
      plain (0 ∷ w.makespan ∷ w.improving ∷ w.loads)
      (omega (arith, length-list_to i.m (λ j. load i y j), machines))
      (small-more 0 _ (omega arith)
      (small-more w.makespan _ (omega (arith, most))
      (small-more w.improving _ (omega (arith, first-le (first (n i) (λ b. improves i y b)), (view-small s v).jobs))
      (small-to i.m (λ j. load i y j) (λ j. omega (arith, few j))))))

  tried-fits : (a : ℕ) {t : G.Tried} → Outcome (instance (book_of s)) (places (book_of s)) (view-valid s v) (view-permitted s v) a t
      → Fitting false (answer_numbers (tried (shown (size (book_of s)) t)))
  tried-fits a o =
      let i = instance (book_of s) in
      let y = places (book_of s) in
      let lifts = lifts-small (view-small s v) in
      let pushes = pushes-small (view-small s v) in
      let l = trial-lifts i y (permitted-partial (view-permitted s v)) (at_level i a) in
      let p = trial-pushes i y (permitted-partial (view-permitted s v)) (at_level i a) in
      from o (omega arith) (omega arith)
    where
      from : {t : G.Tried} → Outcome (instance (book_of s)) (places (book_of s)) (view-valid s v) (view-permitted s v) a t
          → (ended (instance (book_of s)) (places (book_of s)) a).lifts < 1000000
          → (ended (instance (book_of s)) (places (book_of s)) a).pushes < 1000000
          → Fitting false (answer_numbers (tried (shown (size (book_of s)) t)))
      from (passes q) l p =
          let e = ended (instance (book_of s)) (places (book_of s)) a in
          let w = trial-permitted (instance (book_of s)) (places (book_of s)) (view-valid s v) (view-permitted s v)
          (at_level (instance (book_of s)) a) in
          let x : List ℕ = take (size (book_of s)) e.assignment in
          let few : length x ≤ size (book_of s) = omega (arith, length-take (size (book_of s)) e.assignment) in
          plain (0 ∷ 1 ∷ e.lifts ∷ e.pushes ∷ x)
          (omega (arith, few, view-batches s v))
          (small-more 0 _ (omega arith) (small-more 1 _ (omega arith) (small-more e.lifts _ l (small-more e.pushes _ p
          (small_by x (λ b g h.
          omega (
            arith,
            at_front (size (book_of s)) e.assignment b (omega (arith, few)),
            (on-machine (view-valid s v) w b g (omega (arith, few, batches-first (book_of s)))).1,
            machines,
          )))))))
      from (fails g f) l p =
          let e = ended (instance (book_of s)) (places (book_of s)) a in
          plain (0 ∷ 0 ∷ e.lifts ∷ e.pushes ∷ g)
          (omega (arith, group-few f.shows.group, machines))
          (small-more 0 _ (omega arith) (small-more 0 _ (omega arith) (small-more e.lifts _ l (small-more e.pushes _ p
          (group-small machines f.shows.group)))))

  try-fits : (a : ℕ) (b : Bool) → Fitting (is_settle (try_answer b (book_of s) a)) (answer_numbers (try_answer b (book_of s) a))
  try-fits a true = tried-fits a (outcome (instance (book_of s)) (places (book_of s)) (view-valid s v) (view-permitted s v) a)
  try-fits a false = refusal-fits N.level_above

  -- records: batches, and instruments
  places-small : {x : List ℕ} → Permitted (instance (book_of s)) x → (b : ℕ) → 0 < b → b ≤ size (book_of s) → at x b < 1000000
  places-small w b p q = omega (arith, (on-machine (view-valid s v) w b p (omega (arith, batches-first (book_of s)))).1, machines)

  moves-small : (c : ℕ) (x y : List ℕ) → c ≤ 200 → ((b : ℕ) → 0 < b → b ≤ c → at x b < 1000000)
      → ((b : ℕ) → 0 < b → b ≤ c → at y b < 1000000) → SixColumns (move_numbers (records c x y))
  unfolding records those_to move_numbers
  moves-small zero x y h p q = small-none
  moves-small (suc c) x y h p q =
      let before = moves-small c x y (omega arith) (λ b l u. p b l (omega arith)) (λ b l u. q b l (omega arith)) in
      by_test (eqb (at x (suc c)) (at y (suc c)))
      (λ t. rw (records-same c x y (eqb-true _ _ t)) before)
      (λ t. rw (records-other c x y (eqb-false _ _ t), numbers-append (records c x y) (move_of x y (suc c)))
      (every_append (λ (i : ℕ). ltb i 1000000) (move_numbers (records c x y)) _ before
      (small-more (suc c) _ (omega arith)
      (small-more (at x (suc c)) _ (p (suc c) (omega arith) (le_refl (suc c)))
      (small_one (at y (suc c)) (q (suc c) (omega arith) (le_refl (suc c))))))))

  module _ (x : List ℕ) (w : Permitted (instance (book_of s)) x) where
    abbrev l : List Move
    l = records_to (book_of s) x

    few-batches : size (book_of s) ≤ 200
    few-batches = view-batches s v

    few-records : length (record_numbers l) ≤ 601
    few-records = omega (arith, numbers-length l, records-few (size (book_of s)) (places (book_of s)) x, few-batches)

    records-small : SixColumns (record_numbers l)
    records-small =
        small-more (length l) _ (omega (arith, records-few (size (book_of s)) (places (book_of s)) x, few-batches))
        (moves-small (size (book_of s)) (places (book_of s)) x few-batches (places-small (view-permitted s v)) (places-small w))

  balanced-fits : (t : Bool) → Fitting (is_settle (balance_answer t (book_of s))) (answer_numbers (balance_answer t (book_of s)))
  balanced-fits true =
      let b = balance_book (book_of s) in
      let f = balance-fits s v in
      let w = balanced-permitted (instance (book_of s)) (places (book_of s)) (view-valid s v) (view-permitted s v) in
      let g = showing-small machines (balanced-showing (instance (book_of s)) (places (book_of s)) (view-valid s v) (view-permitted s v)) in
      plain _
      (omega (arith, length-append b.group (record_numbers (l b.assignment w)), few-records b.assignment w, f.few))
      (small-more 0 _ (omega arith)
      (small-more b.makespan _ f.makespan
      (small-more b.lower_bound _ f.bound
      (small-more b.level _ f.level
      (small-more b.lifts _ f.lifts
      (small-more b.pushes _ f.pushes
      (small-more (length b.group) _ (omega (arith, f.few))
      (every_append (λ (i : ℕ). ltb i 1000000) b.group _ g (records-small b.assignment w)))))))))
  balanced-fits false = refusal-fits N.buffer_short

  settled-fits : (t : Bool) → Fitting (is_settle (settle_answer t (book_of s))) (answer_numbers (settle_answer t (book_of s)))
  settled-fits true =
      let z = settle_book (book_of s) in
      let f = settle-fits s v in
      let w = rested-permitted (view-valid s v) (view-permitted s v) in
      record {
        few = omega (arith, few-records z.assignment w);
        plain = λ e. conflict refl e;
        start = λ e. small-more 0 _ (omega arith) (small_one z.makespan f.makespan);
        moves = λ e. f.moves;
        rest = λ e. records-small z.assignment w;
        least = λ e. omega arith;
      }
  settled-fits false = refusal-fits N.buffer_short

  pub answer-fits : (c : Call) → Fitting (is_settle (answer (book_of s) c)) (answer_numbers (answer (book_of s) c))
  unfolding answer
  answer-fits (R.editing e) = edit-fits (E.edit (book_of s) e)
  answer-fits R.reviewing = review-fits
  answer-fits (R.trying a) = try-fits a (leb a (total (instance (book_of s))))
  answer-fits (R.balancing c) = balanced-fits (roomy (book_of s) c)
  answer-fits (R.settling c) = settled-fits (roomy (book_of s) c)

-- ---- the line

pub line-is : (a : Answer) → line_of (is_settle a) (answer_numbers a) ≡ answer_line a
line-is (refused e) = refl
line-is done = refl
line-is (reviewed v) = refl
line-is (tried t) = refl
line-is (balanced b l) = refl
line-is (settled z l) = refl

pub line-of-length : (p : Bool) (l : List ℕ) → Fitting p l → length (line_of p l) ≡ line_length p (length l)
line-of-length false l f = line-length l
line-of-length true l f =
    let h = f.least refl in
    let a = fields (take 2 l) in
    let b = columns 12 (get_or l 2 0) in
    omega (
      arith,
      length-append a (b ++ line (drop 3 l)),
      length-append b (line (drop 3 l)),
      length-append (a ++ b) (line (drop 3 l)),
      length-append a b,
      fields-length (take 2 l),
      columns-length 12 (get_or l 2 0),
      line-length (drop 3 l),
      length-take-le 2 l (omega arith),
      length-drop 3 l,
    )
