-- What is claimed of taking a worklist (document 02, C-18), in the words of RFC 4180's rules: the file says rows, and the answer is that of
-- reading the sheet that says the same; or some row is the first faulty one, and the answer is 12 at that row.
use Prim.Native.Nat.{ℕ, suc, ◌+◌, ◌-◌, ◌≤◌, ◌<◌}
use mathlib.Core.Path.{◌≡◌, refl, sym, ap, ◌∙◌, subst}
use mathlib.Core.Bool.{Bool, true, false, not}
use mathlib.Core.List.{List, [], ◌∷◌}
use native.Mathlib.Omega.{arith}
use lib.ListN.{length}
use lib.Dec.{leb, eqb}
use borrow.Author.Tests.{leb-true, le-leb, lt-leb}
use Rattle.rules.specs.Refusal.{Refusal, malformed, bad_size, bad_length, bad_list, bad_place, bad_calibration, bad_order, bad_worklist, number}
use Rattle.rules.specs.Sheet.{Book, max_batches, good_instruments, good_calibrations, good_minutes, good_list, ascending}
use Rattle.rules.specs.Read.{Reading, accepted, refused_at, good_place, read}
use Rattle.rules.specs.Edit.{Edited, unless}
use Rattle.rules.specs.Grammar.{Ends}
use Rattle.rules.specs.Worklist.{Row, Worklist, rows, faulty_row, worklist, sheet_saying, by_row, or_at_none, taken_rows, taken}
use Rattle.theory.proofs.Worklist.{bare, with_row, on_row, with_rows, given, on_given, rows_on}
use Rattle.theory.proofs.Taken.{taken_is, taken-reads}
use Rattle.theory.proofs.Bytes.{refused-line}
use Rattle.worklist.proofs.File.{worklist-same}
use Rattle.worklist.proofs.Outcome.{Says, FaultAfter, Answers, answer, says-read, fault-read, shorter}

answers : (s : List ℕ) → Answers 1 s (worklist s)
answers s = subst (Answers 1 s) (sym (worklist-same s)) (answer s)

-- what is taken: its rows, and the sheet that says the same
pub taken-says : (m : ℕ) (l s : List ℕ) (k : Book) → taken m l s ≡ accepted k
    → (ws : List Row) × Says s ws × (length ws ≤ 200) × (read (sheet_saying m l ws) ≡ accepted k)
taken-says m l s k e =
    let r = taken-reads m l s k e in
    (r.0, from (worklist s) r.1 (answers s), leb-true _ _ r.2, r.3)
  where
    from : {us : List Row} (v : Worklist) → v ≡ rows us → Answers 1 s v → Says s us
    from {us} (rows ws) q (Answers.says h) = let z : ws ≡ us = cc in subst (λ (x : List Row). Says s x) z h
    from (faulty_row j) q a = absurd (let z : ◌≡◌ {A = ℕ} 0 1 = cc in omega arith)

module _ (m : ℕ) (l s : List ℕ) (a : good_instruments m ≡ true) (b : good_calibrations m l ≡ true) where
  -- whatever rows a file says, it is answered as the sheet that says the same is
  pub says-taken : (ws : List Row) → Says s ws → length ws ≤ 200 → taken m l s ≡ by_row (read (sheet_saying m l ws))
  unfolding taken
  says-taken ws h f = rw (a, b, worklist-same s ∙ says-read h, le-leb (length ws) 200 f)

  -- more than 200 rows are 2, whatever they say
  pub many-taken : (ws : List Row) → Says s ws → 200 < length ws → taken m l s ≡ refused_at bad_size 0
  unfolding taken
  many-taken ws h f = rw (a, b, worklist-same s ∙ says-read h, lt-leb (length ws) 200 f)

  -- and 12 is answered wherever some row is the first faulty one
  pub fault-taken : (i : ℕ) → FaultAfter i s → taken m l s ≡ refused_at bad_worklist (suc i)
  unfolding taken
  fault-taken i h = rw (a, b, worklist-same s ∙ fault-read h) (ap (refused_at bad_worklist) (omega arith))

-- ---- and nowhere else

-- a refusal other than 12
unfoldable other : Reading → Bool
other (accepted k) = true
other (refused_at e j) = not (eqb (number e) 12)

other-unless : (t : Bool) (e : Refusal) (j : ℕ) (o : Edited) (next : Book → Reading) → not (eqb (number e) 12) ≡ true
    → other (on_row j o next) ≡ true → other (on_row j (unless t e o) next) ≡ true
unfolding other
other-unless true e j o next g h = h
other-unless false e j o next g h = g

other_row : (k : Book) (w : Row) (j : ℕ) (next : Book → Reading) → ((k₁ : Book) → other (next k₁) ≡ true) → other (on_row j (with_row k w) next) ≡ true
unfolding with_row
other_row k w j next h =
    other-unless (good_minutes w.minutes) bad_length j _ next refl
    (other-unless (leb w.mark 1) malformed j _ next refl
    (other-unless (good_list k.m w.list) bad_list j _ next refl
    (other-unless (ascending w.list) bad_order j _ next refl
    (other-unless (good_place (eqb w.mark 1) w.place w.list) bad_place j _ next refl (h _)))))

other-rows : (k : Book) (j : ℕ) (ws : List Row) → other (with_rows k j ws) ≡ true
unfolding other with_rows
other-rows k j [] = refl
other-rows k j (w ∷ ws) = other_row k w j (λ k₁. with_rows k₁ (suc j) ws) (λ k₁. other-rows k₁ (suc j) ws)

other_none : (t : Bool) (e : Refusal) (o : Reading) → not (eqb (number e) 12) ≡ true → other o ≡ true → other (or_at_none t e o) ≡ true
unfolding other
other_none true e o g h = h
other_none false e o g h = g

other-given : (m : ℕ) (l : List ℕ) → other (given m l) ≡ true
unfolding given other
other-given m l =
    other_none (good_instruments m) bad_size _ refl (other_none (good_calibrations m l) bad_calibration (accepted (bare m l)) refl refl)

no_other {ℓ} : {Y : Type ℓ} {j : ℕ} (o : Reading) → o ≡ refused_at bad_worklist j → other o ≡ true → Y
unfolding other
no_other o e h = absurd (let g : not (eqb 12 12) ≡ true = rw e at h in let z : ◌≡◌ {A = ℕ} 0 1 = cc in omega arith)

pub taken-fault : (m : ℕ) (l s : List ℕ) (j : ℕ) → taken m l s ≡ refused_at bad_worklist j → (i : ℕ) × (j ≡ suc i) × FaultAfter i s
taken-fault m l s j e = by (given m l) refl (other-given m l) (sym (taken_is m l s) ∙ e)
  where
    from : (k : Book) (v : Worklist) → Answers 1 s v → rows_on k v ≡ refused_at bad_worklist j → (i : ℕ) × (j ≡ suc i) × FaultAfter i s
    from k (rows ws) (Answers.says h) q = no_other _ q (other_none (leb (length ws) max_batches) bad_size _ refl (other-rows k 1 ws))
    from k (faulty_row n) (Answers.faulty i _ h f) q = let z : n ≡ j = cc in (i, omega arith, h)

    by : (o : Reading) → given m l ≡ o → other o ≡ true → on_given o (λ k. rows_on k (worklist s)) ≡ refused_at bad_worklist j
        → (i : ℕ) × (j ≡ suc i) × FaultAfter i s
    by (accepted k) g h q = from k (worklist s) (answers s) q
    by (refused_at x n) g h q = no_other (refused_at x n) q h

-- ---- a faulty row's number is at most one above the file's length

pub fault-few : {i : ℕ} {s : List ℕ} → FaultAfter i s → i ≤ length s
fault-few (FaultAfter.no_record h) = omega arith
fault-few (FaultAfter.not_four p a g) = omega arith
fault-few (FaultAfter.next_row p g h) = omega (arith, fault-few h, shorter p Ends.end_of_line)

-- ---- no row number is far above the file's length

at_none : (t : Bool) (e : Refusal) (o : Reading) (x : Refusal) (j c : ℕ) → or_at_none t e o ≡ refused_at x j → (o ≡ refused_at x j → j ≤ c) → j ≤ c
at_none true e o x j c h f = f h
at_none false e o x j c h f = let z : 0 ≡ j = cc in omega arith

pub taken-row : (m : ℕ) (l s : List ℕ) (e : Refusal) (j : ℕ) → taken m l s ≡ refused_at e j → j ≤ length s + 203
unfolding taken
taken-row m l s e j h =
    at_none (good_instruments m) bad_size _ e j _ h (λ h₁.
    at_none (good_calibrations m l) bad_calibration _ e j _ h₁ (λ h₂. from (worklist s) (answers s) h₂))
  where
    by : (o : Reading) (t : List ℕ) → read t ≡ o → by_row o ≡ refused_at e j → j ≤ length s + 203
    by (accepted k) t q g = absurd (let z : ◌≡◌ {A = ℕ} 0 1 = cc in omega arith)
    by (refused_at x i) t q g = let z : i - 2 ≡ j = cc in omega (arith, refused-line t x i q)

    from : (v : Worklist) → Answers 1 s v → taken_rows m l v ≡ refused_at e j → j ≤ length s + 203
    from (rows ws) a g = at_none (leb (length ws) max_batches) bad_size _ e j _ g (λ q. by (read (sheet_saying m l ws)) (sheet_saying m l ws) refl q)
    from (faulty_row n) (Answers.faulty i _ a f) g = let z : n ≡ j = cc in omega (arith, fault-few a, f)
