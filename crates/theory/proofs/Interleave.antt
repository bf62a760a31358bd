-- Two lists of edits on different batches, interleaved (document 02, C-19): each edit is answered as if the other list were not there, and
-- the book at the end is that of the one list and then the other.
use mathlib.Core.Path.{◌≡◌, refl, sym, ap, ap₂, ◌∙◌}
use mathlib.Core.Bool.{true}
use mathlib.Core.List.{List, [], ◌∷◌, ◌++◌}
use borrow.Author.Tests.{eqb-false, ne_eqb, not-true}
use Rattle.rules.specs.Fold.{◌and◌, every}
use Rattle.rules.specs.Sheet.{Book}
use Rattle.rules.specs.Run.{Call, Answer, answer, next, book_after, answers}
use Rattle.rules.specs.Interleave.{Subject, one, none, subject, different, independent, all_independent, Interleaving, end, first, second, turns, interleave}
use Rattle.theory.proofs.Logic.{conflict, not-mk, and_left, and_right, and-mk}
use Rattle.theory.proofs.Claims.{Interleaves}
use Rattle.theory.proofs.Commute.{commute}

-- by its turns an interleaving is made again
pub interleave-turns : {X : Type 0} {xs ys ws : List X} (h : Interleaving xs ys ws) → interleave (turns h) xs ys ≡ ws
unfolding interleave turns
interleave-turns end = refl
interleave-turns {X} (first {x = x} h) = ap (λ (l : List X). x ∷ l) (interleave-turns h)
interleave-turns {X} (second {y = y} h) = ap (λ (l : List X). y ∷ l) (interleave-turns h)

-- ---- lists of calls joined

pub book-append : (k : Book) (xs ys : List Call) → book_after k (xs ++ ys) ≡ book_after (book_after k xs) ys
unfolding book_after
book-append k [] ys = refl
book-append k (x ∷ xs) ys = book-append (next k x) xs ys

pub answers-append : (k : Book) (xs ys : List Call) → answers k (xs ++ ys) ≡ answers k xs ++ answers (book_after k xs) ys
unfolding answers book_after
answers-append k [] ys = refl
answers-append k (x ∷ xs) ys = ap (λ (l : List Answer). answer k x ∷ l) (answers-append (next k x) xs ys)

-- ---- a call, and a list of calls that are independent of it

past-answers : (k : Book) (d : Call) (xs : List Call) → every (independent d) xs ≡ true → answers (next k d) xs ≡ answers k xs
unfolding answers every
past-answers k d [] h = refl
past-answers k d (x ∷ xs) h =
    let w = commute k d x (and_left _ _ h) in
    rw (w.second, w.book, past-answers (next k x) d xs (and_right (independent d x) _ h))

past-book : (k : Book) (d : Call) (xs : List Call) → every (independent d) xs ≡ true → book_after (next k d) xs ≡ next (book_after k xs) d
unfolding book_after every
past-book k d [] h = refl
past-book k d (x ∷ xs) h =
    let w = commute k d x (and_left _ _ h) in
    rw w.book (past-book (next k x) d xs (and_right (independent d x) _ h))

-- ---- two lists

independent-sym : (c d : Call) → independent c d ≡ true → independent d c ≡ true
unfolding independent
independent-sym c d h = from (subject c) (subject d) h
  where
    from : (s t : Subject) → different s t ≡ true → different t s ≡ true
    from (one a) (one b) e = not-mk (ne_eqb b a (λ q. eqb-false a b (not-true _ e) (sym q)))
    from (one a) none e = conflict e refl
    from none t e = conflict e refl

-- the first of the second list, with the first list
turned : (xs : List Call) (y : Call) (ys : List Call) → all_independent xs (y ∷ ys) ≡ true → every (independent y) xs ≡ true
unfolding all_independent every
turned [] y ys h = refl
turned (x ∷ xs) y ys h =
    and-mk _ _ (independent-sym x y (and_left _ _ (and_left _ _ h))) (turned xs y ys (and_right (independent x y and every (independent x) ys) _ h))

-- and the rest
fewer : (xs : List Call) (y : Call) (ys : List Call) → all_independent xs (y ∷ ys) ≡ true → all_independent xs ys ≡ true
unfolding all_independent every
fewer [] y ys h = refl
fewer (x ∷ xs) y ys h =
    and-mk _ _ (and_right (independent x y) _ (and_left _ _ h)) (fewer xs y ys (and_right (independent x y and every (independent x) ys) _ h))

here : (x : Call) (xs ys : List Call) → all_independent (x ∷ xs) ys ≡ true → every (independent x) ys ≡ true
unfolding all_independent every
here x xs ys h = and_left _ _ h

rest : (x : Call) (xs ys : List Call) → all_independent (x ∷ xs) ys ≡ true → all_independent xs ys ≡ true
unfolding all_independent every
rest x xs ys h = and_right (every (independent x) ys) _ h

woven-answers : (k : Book) {xs ys ws : List Call} (h : Interleaving xs ys ws) → all_independent xs ys ≡ true
    → answers k ws ≡ interleave (turns h) (answers k xs) (answers k ys)
unfolding turns interleave answers
woven-answers k end i = refl
woven-answers k (first {x = x} {xs = xs} {ys = ys} h) i = rw (woven-answers (next k x) h (rest x xs ys i), past-answers k x ys (here x xs ys i))
woven-answers k (second {y = y} {xs = xs} {ys = ys} h) i =
    rw (woven-answers (next k y) h (fewer xs y ys i), past-answers k y xs (turned xs y ys i))

woven-book : (k : Book) {xs ys ws : List Call} → Interleaving xs ys ws → all_independent xs ys ≡ true → book_after k ws ≡ book_after k (xs ++ ys)
unfolding book_after
woven-book k end i = refl
woven-book k (first {x = x} {xs = xs} {ys = ys} h) i = woven-book (next k x) h (rest x xs ys i)
woven-book k (second {y = y} {xs = xs} {ys = ys} h) i =
    woven-book (next k y) h (fewer xs y ys i)
    ∙ book-append (next k y) xs ys
    ∙ ap (λ (j : Book). book_after j ys) (past-book k y xs (turned xs y ys i))
    ∙ sym (book-append k xs (y ∷ ys))

-- between other calls
pub interleaves : (k : Book) → Interleaves k
interleaves k = record {
  pairs = commute k;
  replies = λ {xs} {ys} {ws} h i cs zs.
      let j = book_after k cs in
      answers-append k cs (ws ++ zs)
      ∙ ap (λ (l : List Answer). answers k cs ++ l)
      (answers-append j ws zs ∙ ap₂ (λ (l : List Answer) (b : Book). l ++ answers b zs) (woven-answers j h i) (woven-book j h i));
  book = λ {xs} {ys} {ws} h i cs zs.
      let j = book_after k cs in
      book-append k cs (ws ++ zs)
      ∙ book-append j ws zs
      ∙ ap (λ (b : Book). book_after b zs) (woven-book j h i)
      ∙ sym (book-append j (xs ++ ys) zs)
      ∙ sym (book-append k cs (xs ++ ys ++ zs));
}

-- ---- two neighbours in a list of calls

-- as lists of one call each, in either order
pub ones-independent : (c d : Call) → independent c d ≡ true → all_independent (c ∷ []) (d ∷ []) ≡ true
unfolding all_independent every
ones-independent c d h = and-mk _ _ (and-mk _ _ h refl) refl

pub in_order : (c d : Call) → Interleaving (c ∷ []) (d ∷ []) (c ∷ d ∷ [])
in_order c d = first (second end)

pub other-order : (c d : Call) → Interleaving (c ∷ []) (d ∷ []) (d ∷ c ∷ [])
other-order c d = second (first end)

module _ (k : Book) (cs zs : List Call) (c d : Call) (h : independent c d ≡ true) where
  pub neighbours-book : book_after k (cs ++ (d ∷ c ∷ zs)) ≡ book_after k (cs ++ (c ∷ d ∷ zs))
  neighbours-book = (interleaves k).book (other-order c d) (ones-independent c d h) cs zs

  -- the answers to all calls, with those to a and b straight after those to cs
  abbrev answered : Call → Call → List Answer
  answered a b = let j = book_after k cs in answers k cs ++ (answer j a ∷ answer j b ∷ answers (next (next j c) d) zs)

  pub neighbours-answers : (answers k (cs ++ (c ∷ d ∷ zs)) ≡ answered c d) × (answers k (cs ++ (d ∷ c ∷ zs)) ≡ answered d c)
  unfolding turns interleave answers book_after in_order other-order
  neighbours-answers =
      let i = ones-independent c d h in
      ((interleaves k).replies (in_order c d) i cs zs, (interleaves k).replies (other-order c d) i cs zs)
