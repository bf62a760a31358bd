-- Marks in words of four: a word has nothing outside another just where none of its bytes has.
use Prim.Native.Nat.{ℕ, zero, suc, ◌+◌, ◌-◌, ◌*◌, ◌≤◌, ◌<◌}
use mathlib.Core.Path.{◌≡◌, refl, sym, ap, ap₂, ◌∙◌}
use mathlib.Core.Bool.{Bool, true, false, not}
use mathlib.Core.List.{List, [], ◌∷◌, ◌++◌, map}
use native.Mathlib.Numerals.{add-one}
use native.Mathlib.Omega.{arith}
use lib.Bits.{bit_and, and_block}
use Rattle.std.specs.Bool.{MatchBool}
use lib.ListN.{length, get_or}
use lib.Dec.{eqb}
use borrow.Author.Tests.{eqb-true, eqb-false, eq-eqb}
use Rattle.std.specs.Int.{from_bool}
use Rattle.std.specs.List.{range_with_len}
use Rattle.std.proofs.lemmas.List.FromFn.{map-range_with_len_more, fill_by_all}
use Rattle.rules.specs.Fold.{◌and◌, ◌or◌, pick, at, mem, every, all_to, list_to}
use Rattle.rules.specs.Sheet.{is_instrument}
use Rattle.rules.specs.LowerBound.{within}
use Rattle.rules.specs.Marks.{marks_of}
use Rattle.theory.proofs.Logic.{by_test, and_left, and_right, and-mk, same_test}
use Rattle.theory.proofs.Agree.{all-ext}
use Rattle.theory.proofs.Entries.{list_to-ext}
use Rattle.theory.proofs.View.{all-at}
use Rattle.theory.proofs.Marks.{mark-at, one_by_one}
use Rattle.arrays.specs.Sets.{has, SetOf}
use Rattle.scans.specs.Marks.{word, word_at, clear, covered, LiesWithin}

-- ---- one word

sum-zero : (x y : ℕ) → eqb (x * 256 + y) 0 ≡ eqb x 0 and eqb y 0
sum-zero x y =
    same_test _ _
    (λ t. let e = eqb-true (x * 256 + y) 0 t in and-mk _ _ (eq-eqb x 0 (omega arith)) (eq-eqb y 0 (omega arith)))
    (λ t. let e = eqb-true x 0 (and_left _ _ t) in
    let f = eqb-true y 0 (and_right (eqb x 0) _ t) in
    eq-eqb (x * 256 + y) 0 (omega arith))

-- a byte more, below numbers of at most n
byte_more : (n a b r s : ℕ) → b ≤ n → r < 256 → s < 256
    → eqb (bit_and (a * 256 + r) (n * 256 + 255 - (b * 256 + s))) 0 ≡ eqb (bit_and a (n - b)) 0 and clear r s
unfolding clear
byte_more n a b r s h p q =
    let e : n * 256 + 255 - (b * 256 + s) ≡ (n - b) * 256 + (255 - s) = omega arith in
    rw (e, and_block 8 a (n - b) r (255 - s) p (omega arith)) (sum-zero (bit_and a (n - b)) (bit_and r (255 - s)))

-- the law: for any eight bytes
module _ (a b c d : ℕ) (a' b' c' d' : ℕ) (pa : a < 256) (pb : b < 256) (pc : c < 256) (qa : a' < 256) (qb : b' < 256) (qc : c' < 256) (qd : d' < 256) where
  pub word-clear : eqb (bit_and (word a b c d) (4294967295 - word a' b' c' d')) 0 ≡ ((clear d d' and clear c c') and clear b b') and clear a a'
  unfolding clear
  word-clear =
      byte_more 16777215 ((d * 256 + c) * 256 + b) ((d' * 256 + c') * 256 + b') a a' (omega arith) pa qa
      ∙ ap (λ (t : Bool). t and clear a a')
      (byte_more 65535 (d * 256 + c) (d' * 256 + c') b b' (omega arith) pb qb
      ∙ ap (λ (t : Bool). t and clear b b') (byte_more 255 d d' c c' (omega arith) pc qc))

-- ---- word after word

-- what the word of l from index k on has outside that of g
abbrev pub outside : List ℕ → List ℕ → ℕ → ℕ
outside l g k = bit_and (word_at l k) (4294967295 - word_at g k)

module _ (l g : List ℕ) (small : (k : ℕ) → get_or l k 0 < 256) (small' : (k : ℕ) → get_or g k 0 < 256) where
  fits : ℕ → Bool
  fits i = clear (at l i) (at g i)

  four : (k : ℕ) → eqb (outside l g k) 0 ≡ ((fits (suc (suc (suc (suc k)))) and fits (suc (suc (suc k)))) and fits (suc (suc k))) and fits (suc k)
  unfolding fits
  four k =
      rw (next 2, next 1, next 0, end)
      (word-clear (get_or l k 0) (get_or l (suc k) 0) (get_or l (suc (suc k)) 0) (get_or l (suc (suc (suc k))) 0) (get_or g k 0) (get_or g (suc k) 0) (get_or g (suc (suc k)) 0) (get_or g (suc (suc (suc k))) 0)
      (small k) (small (suc k)) (small (suc (suc k))) (small' k) (small' (suc k)) (small' (suc (suc k))) (small' (suc (suc (suc k)))))
    where
      next : (j : ℕ) → k + suc j ≡ suc (k + j)
      next j = omega arith

      end : k + 0 ≡ k
      end = omega arith

  -- nothing outside: four more bytes are covered
  four-on : (k j : ℕ) → j ≡ k + 4 → covered k l g ≡ true → outside l g k ≡ 0 → covered j l g ≡ true
  unfolding covered fits all_to
  four-on k j z h e =
      let s : j ≡ suc (suc (suc (suc k))) = omega arith in
      let t = sym (four k) ∙ eq-eqb (outside l g k) 0 e in
      let u = and_left _ _ t in
      let v = and_left _ _ u in
      rw s (and-mk _ _ (and-mk _ _ (and-mk _ _ (and-mk _ _ h (and_right _ _ t)) (and_right _ _ u)) (and_right _ _ v)) (and_left _ _ v))

  one : (c : ℕ) → covered c l g ≡ true → (i : ℕ) → (0 < i) × (i ≤ c) → fits i ≡ true
  unfolding covered fits
  one c t i r = all-at c _ i r.0 r.1 t

  -- something outside: one of c bytes is not, with these four among them
  four-off : (k c : ℕ) → k + 4 ≤ c → (outside l g k ≡ 0 → ⊥) → covered c l g ≡ false
  four-off k c h e =
      by_test (covered c l g)
      (λ t. absurd (e (eqb-true (outside l g k) 0 (four k
      ∙ and-mk _ _ (and-mk _ _ (and-mk _ _ (one c t _ (omega arith)) (one c t _ (omega arith))) (one c t _ (omega arith))) (one c t _ (omega arith))))))
      (λ t. t)

  -- so by the words at all six places, or at one that has something outside
  pub covered-words : (r : Bool)
      → MatchBool r ((k : ℕ) → k < 6 → eqb (outside l g (k * 4)) 0 ≡ true) ((k : ℕ) × (k < 6) × (eqb (outside l g (k * 4)) 0 ≡ false))
      → r ≡ covered 24 l g
  unfolding covered all_to
  covered-words false h = sym (four-off (h.0 * 4) 24 (omega (arith, h.1)) (eqb-false (outside l g (h.0 * 4)) 0 h.2))
  covered-words true h = sym (walk 6 (omega arith))
    where
      walk : (k : ℕ) → k ≤ 6 → covered (k * 4) l g ≡ true
      walk zero u = refl
      walk (suc k) u = four-on (k * 4) (suc k * 4) (omega arith) (walk k (omega arith)) (eqb-true (outside l g (k * 4)) 0 (h k u))

-- ---- marks

mark-clear : (a b : Bool) → clear (pick a 1 0) (pick b 1 0) ≡ not a or b
unfolding clear ◌or◌
mark-clear true true = refl
mark-clear true false = refl
mark-clear false true = refl
mark-clear false false = refl

covered-within : (l g : List ℕ) → every (is_instrument 24) l ≡ true → covered 24 (marks_of l) (marks_of g) ≡ within l g
unfolding covered
covered-within l g h = all-ext 24 _ _ each ∙ one_by_one l g h
  where
    each : (i : ℕ) → 0 < i → i ≤ 24 → clear (at (marks_of l) i) (at (marks_of g) i) ≡ not (mem i l) or mem i g
    each zero p q = absurd (omega arith)
    each (suc k) p q = rw (mark-at l k q, mark-at g k q) (mark-clear (mem (suc k) l) (mem (suc k) g))

pub lies : {list group : List ℕ} {r : Bool} → r ≡ covered 24 list group → LiesWithin list group r
lies e = record { within = λ l g h p q. e ∙ ap₂ (covered 24) p q ∙ covered-within l g h; any = e }

-- ---- the marks of a set

digit-mark : (t : Bool) → from_bool t ≡ pick t 1 0
digit-mark true = refl
digit-mark false = refl

list-range : (n : ℕ) (f : ℕ → ℕ) → map (λ k. f (suc k)) (range_with_len 0 n) ≡ list_to n f
unfolding list_to
list-range zero f = refl
list-range (suc n) f =
    (rw add-one at (map-range_with_len_more (λ k. f (suc k)) 0 n n (omega arith)))
    ∙ ap (λ (l : List ℕ). l ++ f (suc n) ∷ []) (list-range n f)

-- entered one after the other
pub marks-of : (x : ℕ) (marks : List ℕ) → length marks ≡ 24 → ((k : ℕ) → k < 24 → get_or marks k 0 ≡ from_bool (has x (suc k)))
    → marks ≡ list_to 24 (λ i. pick (has x i) 1 0)
marks-of x marks h e =
    fill_by_all (λ k. pick (has x (suc k)) 1 0) marks 24 0 h (λ k l. e k l ∙ digit-mark (has x (suc k)))
    ∙ list-range 24 (λ i. pick (has x i) 1 0)

-- those of the set that says a list are the list's
pub set-marks : (list : List ℕ) (x : ℕ) → SetOf (λ i. mem i list) x → list_to 24 (λ i. pick (has x i) 1 0) ≡ marks_of list
unfolding marks_of
set-marks list x s = list_to-ext 24 _ _ (λ i l u. rw (s.each i l u))
