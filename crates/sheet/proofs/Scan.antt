-- Tests of lists, by the library's words and an entry at a time, and a list copied into a row.
use Prim.Native.Nat.{ℕ, zero, suc, ◌+◌, ◌-◌, ◌≤◌, ◌<◌}
use mathlib.Core.Path.{◌≡◌, refl, sym, ap, ◌∙◌}
use mathlib.Core.Bool.{Bool, true, false, not, ◌&&◌, ◌||◌}
use Rattle.std.specs.Bool.{MatchBool}
use Rattle.std.specs.List.{list_any, list_all}
use Rattle.std.specs.List.Sorted.{IsNonDecreasing}
use mathlib.Core.List.{List, [], ◌∷◌}
use native.Mathlib.Omega.{arith}
use native.Mathlib.Numerals.{add-one}
use lib.ListN.{length-drop, length, get_or, set, take, drop, replicate, drop_of_length-le}
use lib.Seq.{take-suc, take_all, drop-cons, length-take-le}
use lib.Dec.{leb, eqb}
use borrow.Author.Tests.{ne_eqb, leb-true, le-leb, lt-leb, not-true, not-false}
use Rattle.rules.specs.Fold.{◌and◌, ◌or◌, mem, every}
use Rattle.rules.specs.Sheet.{is_instrument, distinct, good_list, ascending_from, ascending}
use Rattle.theory.proofs.Logic.{by_test, and_left, and_right, and-mk, and-no-left, and-no-right}
use Rattle.sheet.specs.Represent.{padded}
use Rattle.sheet.proofs.Padded.{set-append}

-- the library's words for the rules' tests
or-is : (a b : Bool) → a or b ≡ (a || b)
unfolding ◌or◌
or-is true b = refl
or-is false b = refl

and-is : (a b : Bool) → a and b ≡ (a && b)
unfolding ◌and◌
and-is true b = refl
and-is false b = refl

pub mem-any : (x : ℕ) (l : List ℕ) → mem x l ≡ list_any (λ y. eqb y x) l
unfolding mem
mem-any x [] = refl
mem-any x (y ∷ l) = or-is (eqb y x) (mem x l) ∙ ap (λ (t : Bool). eqb y x || t) (mem-any x l)

-- a list of smaller numbers does not name x
pub too-large : (x k : ℕ) → k ≤ x → (l : List ℕ) → ((i : ℕ) → i < length l → get_or l i 0 < k) → mem x l ≡ false
unfolding mem ◌or◌
too-large x k h [] s = refl
too-large x k h (y ∷ l) s =
    rw (ne_eqb y x (λ e. let a : y < k = s 0 (omega arith) in omega arith)) (too-large x k h l (λ i u. s (suc i) (omega arith)))

pub every-all : (p : ℕ → Bool) (l : List ℕ) → every p l ≡ list_all p l
unfolding every
every-all p [] = refl
every-all p (x ∷ l) = and-is (p x) (every p l) ∙ ap (λ (t : Bool). p x && t) (every-all p l)

-- ---- a list gone through: what is left passes, and names no number twice, where the whole does

rest : (l : List ℕ) (i : ℕ) → i < length l → drop i l ≡ get_or l i 0 ∷ drop (i + 1) l
rest l i h = rw (add-one, drop-cons l i 0)

-- whether the entries behind i name its number, of the slice from i + 1 on
pub named-behind : (l : List ℕ) (i : ℕ) {r : Bool} → r ≡ list_any (λ y. eqb y (get_or l i 0)) (take (length l - (i + 1)) (drop (i + 1) l))
    → mem (get_or l i 0) (drop (i + 1) l) ≡ r
named-behind l i e =
    let t : take (length l - (i + 1)) (drop (i + 1) l) ≡ drop (i + 1) l =
    take_all (length l - (i + 1)) (drop (i + 1) l) (omega (arith, length-drop (i + 1) l)) in
    mem-any (get_or l i 0) (drop (i + 1) l) ∙ sym (e ∙ ap (list_any (λ y. eqb y (get_or l i 0))) t)

-- what is left from i on is good for m instruments where the whole is
pub record GoodSo (m : ℕ) (l : List ℕ) (i : ℕ) : Type 0 where
  pub ranged : every (is_instrument m) (drop i l) ≡ every (is_instrument m) l
  pub apart : distinct (drop i l) ≡ distinct l

pub good-start : {m : ℕ} {l : List ℕ} → GoodSo m l 0
good-start = record { ranged = refl; apart = refl }

module _ {m : ℕ} {l : List ℕ} {i : ℕ} (s : GoodSo m l i) (h : i < length l) where
  pub strange : is_instrument m (get_or l i 0) ≡ false → false ≡ good_list m l
  unfolding good_list every
  strange e =
      let f : every (is_instrument m) l ≡ false = sym s.ranged ∙ ap (every (is_instrument m)) (rest l i h) ∙ and-no-left _ _ e in
      sym (and-no-right _ _ (and-no-right _ _ (and-no-left _ _ f)))

  pub twice : mem (get_or l i 0) (drop (i + 1) l) ≡ true → false ≡ good_list m l
  unfolding good_list distinct
  twice e =
      let f : distinct l ≡ false = sym s.apart ∙ ap distinct (rest l i h) ∙ and-no-left _ _ (rw e) in
      sym (and-no-right _ _ (and-no-right _ _ (and-no-right _ _ f)))

  pub good-next : is_instrument m (get_or l i 0) ≡ true → mem (get_or l i 0) (drop (i + 1) l) ≡ false → GoodSo m l (i + 1)
  unfolding every distinct ◌and◌
  good-next a e = record {
    ranged = sym (ap (every (is_instrument m)) (rest l i h) ∙ rw a) ∙ s.ranged;
    apart = sym (ap distinct (rest l i h) ∙ rw e) ∙ s.apart;
  }

-- ---- the order of a list

rising : (p : ℕ) (l : List ℕ) → ((k : ℕ) → k < length l → get_or (p ∷ l) k 0 ≤ get_or l k 0) → ascending_from p l ≡ true
unfolding ascending_from
rising p [] h = refl
rising p (x ∷ l) h = and-mk _ _ (le-leb p x (h 0 (omega arith))) (rising x l (λ k g. h (suc k) (omega arith)))

falling : (p : ℕ) (l : List ℕ) (k : ℕ) → k < length l → get_or l k 0 < get_or (p ∷ l) k 0 → ascending_from p l ≡ false
unfolding ascending_from
falling p [] k g h = absurd (omega arith)
falling p (x ∷ l) zero g h = and-no-left _ _ (lt-leb p x h)
falling p (x ∷ l) (suc k) g h = and-no-right (leb p x) _ (falling x l k (omega arith) h)

-- what the library's test of order says
pub sorted-is : (l : List ℕ) (r : Bool)
    → MatchBool r (IsNonDecreasing l) ((k : ℕ) × (k + 1 < length l) × ((d : ℕ) → get_or l (k + 1) d < get_or l k d)) → r ≡ ascending l
unfolding ascending ascending_from
sorted-is [] true h = refl
sorted-is [] false h = absurd (omega (arith, h.1))
sorted-is (x ∷ l) true h =
    sym (and-mk _ _ (le-leb 0 x (omega arith))
    (rising x l (λ k g. let e : k + 1 ≡ suc k = omega arith in rw e at (h k (k + 1) 0 (omega arith) (omega arith)))))
sorted-is (x ∷ l) false h =
    let e : h.0 + 1 ≡ suc h.0 = omega arith in
    sym (and-no-right (leb 0 x) _ (falling x l h.0 (omega (arith, h.1)) (rw e at (h.2 0))))

-- ---- a list copied into a row

-- row has the first i entries of l, and 0 behind them
pub record Rowed (l row : List ℕ) (i : ℕ) : Type 0 where
  pub few : i ≤ length l
  pub same : row ≡ padded 24 (take i l)

pub rowed-start : {l : List ℕ} → Rowed l (replicate 24 0) 0
rowed-start = record { few = omega arith; same = refl }

pub rowed-step : {l row : List ℕ} {i : ℕ} → Rowed l row i → length l ≤ 24 → i < length l →
    Rowed l (set row i (get_or l i 0)) (i + 1)
rowed-step {l} {row} {i} r f h = record {
  few = omega arith;
  same =
      ap (λ (x : List ℕ). set x i (get_or l i 0)) r.same
      ∙ set-append 24 (take i l) i (get_or l i 0) (length-take-le i l r.few) (omega arith)
      ∙ ap (padded 24) (sym (take-suc l i 0 h) ∙ ap (λ (j : ℕ). take j l) (sym (add-one i)));
}

pub rowed-end : {l row : List ℕ} {i : ℕ} → Rowed l row i → length l ≤ i → row ≡ padded 24 l
rowed-end {l} {row} {i} r h = r.same ∙ ap (padded 24) (take_all i l h)

-- ---- a flag negated, of a call that answers a test

pub failed : {t u : Bool} → t ≡ u → not t ≡ true → u ≡ false
failed {t} e f = sym e ∙ not-true t f

pub passed : {t u : Bool} → t ≡ u → not t ≡ false → u ≡ true
passed {t} e f = sym e ∙ not-false t f

-- ---- a number of 1 to n

pub positive : (x : ℕ) → (x ≡ 0 → ⊥) → 1 ≤ x
positive zero e = absurd (e refl)
positive (suc x) e = omega arith

pub in-range : (x n : ℕ) → leb 1 x and leb x n ≡ true → (0 < x) × (x ≤ n)
in-range x n e = (leb-true _ _ (and_left _ _ e), leb-true _ _ (and_right (leb 1 x) _ e))

-- ---- a good list, by its tests: how long it is, what it names, and that it names none twice

module _ (m : ℕ) (l : List ℕ) where
  pub list-size : leb 1 (length l) and leb (length l) m ≡ false → false ≡ good_list m l
  unfolding good_list ◌and◌
  list-size e = by_test (leb 1 (length l)) (λ t. rw (t, rw t at e)) (λ t. rw t)

  pub list-good : leb 1 (length l) and leb (length l) m ≡ true → {i : ℕ} → length l ≤ i → GoodSo m l i → true ≡ good_list m l
  unfolding good_list every distinct
  list-good e h s =
      let z = drop_of_length-le l h in
      sym (and-mk _ _ (and_left _ _ e) (and-mk _ _ (and_right (leb 1 (length l)) _ e)
      (and-mk _ _ (sym s.ranged ∙ ap (every (is_instrument m)) z) (sym s.apart ∙ ap distinct z))))
