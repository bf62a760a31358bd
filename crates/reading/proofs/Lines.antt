-- The list of a batch line, an instrument at a time, and the end of the line.
use Prim.Native.Nat.{ℕ, suc, ◌+◌, ◌-◌, ◌≤◌, ◌<◌}
use mathlib.Core.Path.{◌≡◌, refl, sym, ap, ◌∙◌}
use mathlib.Core.Bool.{Bool, true, false, not}
use mathlib.Core.List.{List, [], ◌∷◌, ◌++◌}
use native.Mathlib.Omega.{arith}
use lib.Dec.{eqb}
use lib.ListN.{length, get_or, set, take, drop, replicate}
use lib.Seq.{get_or-take}
use Rattle.std.specs.Prelude.{Result, Ok, Err}
use Rattle.rules.specs.Fold.{◌and◌, mem, every, pick}
use Rattle.rules.specs.Field.{field}
use Rattle.rules.specs.Refusal.{bad_list, bad_place, bad_order}
use Rattle.rules.specs.Sheet.{Batch, is_instrument, ascending}
use Rattle.rules.specs.Read.{Part, gives, and_then, or_refuse, number_at, end_of_line, instruments_at, place_or, good_place}
use Rattle.theory.proofs.Member.{every-mem}
use Rattle.theory.proofs.Parse.{instruments-ranged}
use Rattle.theory.proofs.Format.{mark-said}
use Rattle.fields.specs.declared.Field.{Field}
use Rattle.fields.specs.declared.Field.TheVariants.{Value}
use Rattle.fields.specs.Columns.{coded_field, ends_line}
use Rattle.fields.proofs.Reading.{NumberRead, field-number, field-none, end-room, end-missing, end-there, next-at}
use Rattle.sheet.specs.declared.Fault.{Fault}
use Rattle.sheet.specs.declared.Refusal.{Refusal}
use Rattle.sheet.specs.declared.Refusal.TheVariants.{Malformed, BadList, BadPlace}
use Rattle.sheet.specs.Answers.{fault}
use Rattle.sheet.proofs.Place.{taken, place-listed, place-taken, instrument-most}
use Rattle.reading.specs.declared.Line.{Line}
use Rattle.reading.specs.Lines.{line_as, bad_end, line_list}
use Rattle.reading.proofs.Rows.{Row, row-used, row-padded, row_more, row-take}

-- one more of n instruments, after k of them are read into l
turn : (m n k : ℕ) (l r : List ℕ) → k < n → instruments_at m (n - k) l r ≡
    and_then (number_at r) (λ i u.
    or_refuse (is_instrument m i and not (mem i l)) bad_list
    (instruments_at m (n - (k + 1)) (l ++ (i ∷ [])) u))
unfolding instruments_at
turn m n k l r h = let e : n - k ≡ suc (n - (k + 1)) = omega arith in rw e

-- an answer, with the equation
pub by_result : {X : Type 0} (r : Result Unit Refusal) → (r ≡ Ok tt → X) → ((e : Refusal) → r ≡ Err e → X) → X
by_result (Ok u) f g = f refl
by_result (Err e) f g = g e refl

-- a line may end well, or may not, where there is an LF or not
pub well-ended : (o t : Bool) {x : Result Unit Refusal} {u : Unit} → x ≡ bad_end o t → x ≡ Ok u → (o ≡ true) × (t ≡ true)
well-ended true true q h = (refl, refl)
well-ended true false q h = cc
well-ended false t q h = cc

badly-ended : (w j : ℕ) (o t : Bool) (p : Part Batch) {x : Result Unit Refusal} {e : Refusal} → x ≡ bad_end o t → x ≡ Err e
    → (t ≡ false → line_as w j p ≡ Err (fault Malformed j)) → Err (fault e j) ≡ line_as w j (or_refuse o bad_order p)
badly-ended w j true true p q h f = cc
badly-ended w j true false p {e = e} q h f = let z : e ≡ Malformed = cc in ap (λ (y : Refusal). Err (fault y j)) z ∙ sym (f refl)
badly-ended w j false t p {e = e} q h f = cc

module _ (s : List ℕ) (at m n : ℕ) where
  -- k of the instruments are in the row, up to next, and what is left goes on from them as the rules do
  pub record ListSofar (list : List ℕ) (next k : ℕ) : Type 0 where
    pub room : next ≤ length s
    pub row : Row k list
    pub rest : instruments_at m (n - k) (take k list) (drop next s) ≡ instruments_at m n [] (drop at s)

  pub list-start : at ≤ length s → ListSofar (replicate 24 0) at 0
  list-start h =
      let e : n - 0 ≡ n = omega arith in record { room = h; row = record { size = refl; rest = refl }; rest = rw e }

  module _ {list : List ℕ} {next k : ℕ} (c : ListSofar list next k) where
    -- the line, where it is refused at the next field, and where it goes on
    module _ (h : k < n) {f : Field} (d : f ≡ coded_field (field (drop next s))) where
      pub list-missing : (j t p : ℕ) (b : Bool) → ((v : ℕ) → f ≡ Value v → ⊥) → Err (fault Malformed j) ≡ line_as (length s) j (line_list m t p b n (drop at s))
      list-missing j t p b q = rw (← c.rest, turn m n k (take k list) (drop next s) h, field-none s next d q)

      module _ {v : ℕ} (e : f ≡ Value v) where
        number : NumberRead (number_at (drop next s)) s next v
        number = field-number s next d e

        pub list-room : next + 6 ≤ length s
        list-room = number.room

        pub list-bad : (j t p : ℕ) (b : Bool) → is_instrument m v and not (mem v (take k list)) ≡ false
            → Err (fault BadList j) ≡ line_as (length s) j (line_list m t p b n (drop at s))
        list-bad j t p b g = rw (← c.rest, turn m n k (take k list) (drop next s) h, number.number, g)

        pub list-more : n ≤ 24 → is_instrument m v and not (mem v (take k list)) ≡ true → ListSofar (set list k v) (next + 6) (k + 1)
        list-more u g = record {
          room = number.room;
          row = row_more k list v c.row (omega arith);
          rest =
              rw (row-take k list v c.row (omega arith))
              (sym (rw (turn m n k (take k list) (drop next s) h, number.number, g)) ∙ c.rest);
        }

    -- behind its last
    module _ (h : k ≡ n) (j t p : ℕ) (b : Bool) where
      abbrev whole : Result Line Fault
      whole = line_as (length s) j (line_list m t p b n (drop at s))

      -- from the line's end on
      abbrev judged : List ℕ → Part Batch
      judged r =
          or_refuse (good_place b p (take n list)) bad_place
          (gives (record { minutes = t; list = take n list; place = place_or p (take n list); started = b }) r)

      listed : instruments_at m n [] (drop at s) ≡ gives (take n list) (drop next s)
      unfolding instruments_at
      listed =
          let e : n - k ≡ 0 = omega arith in
          let done : instruments_at m (n - k) (take k list) (drop next s) ≡ gives (take k list) (drop next s) = rw e in
          sym c.rest ∙ done ∙ ap (λ (i : ℕ). gives (take i list) (drop next s)) h

      ending : line_list m t p b n (drop at s) ≡ or_refuse (ascending (take n list)) bad_order (end_of_line (drop next s) judged)
      ending = rw listed

      pub line-unended : {x : Result Unit Refusal} {e : Refusal} → x ≡ bad_end (ascending (take n list)) (ends_line (drop next s)) → x ≡ Err e
          → Err (fault e j) ≡ whole
      line-unended q g =
          badly-ended (length s) j (ascending (take n list)) (ends_line (drop next s)) (end_of_line (drop next s) judged) q g
          (λ u. rw (end-missing s next judged u))
          ∙ ap (line_as (length s) j) (sym ending)

      module _ (few : n ≤ 24) (some : 0 < n) {x : Result Unit Refusal} {u : Unit}
          (q : x ≡ bad_end (ascending (take n list)) (ends_line (drop next s))) (g : x ≡ Ok u)
          {y : ℕ} (a : y ≡ pick (not b and eqb p 0) (get_or list 0 0) p) where
        ends : (ascending (take n list) ≡ true) × (ends_line (drop next s) ≡ true)
        ends = well-ended _ _ q g

        pub line-room : next + 1 ≤ length s
        line-room = end-room s next ends.1

        ended : line_list m t p b n (drop at s) ≡ judged (drop (next + 1) s)
        ended = ending ∙ rw ends.0 (end-there s next judged ends.1)

        row : Row n list
        row = rw (← h) c.row

        chosen : y ≡ taken b p (take n list)
        chosen = a ∙ rw (get_or-take n list 0 0 some)

        test : mem y (take n list) ≡ good_place b p (take n list)
        test = ap (λ (i : ℕ). mem i (take n list)) chosen ∙ sym (place-listed b p (take n list) (omega (arith, row-used n list row few, some)))

        pub line-elsewhere : mem y (take n list) ≡ false → Err (fault BadPlace j) ≡ whole
        line-elsewhere e = rw (ended, sym test ∙ e)

        ranged : every (is_instrument m) (take n list) ≡ true
        ranged = instruments-ranged _ _ _ _ _ listed

        pub place-small : mem y (take n list) ≡ true → y ≤ m
        place-small e = instrument-most m y (every-mem (is_instrument m) (take n list) y ranged e)

        pub line_end : {v : ℕ} → v ≤ 1 → b ≡ eqb v 1 → mem y (take n list) ≡ true
            → Ok (record { minutes = t; place = y; started = v; count = n; list = list; next = next + 1 }) ≡ whole
        line_end {v} o z e =
            let place_is : y ≡ place_or p (take n list) = chosen ∙ place-taken b m p (take n list) ranged (sym test ∙ e) in
            rw (
              ended,
              sym test ∙ e,
              ← place_is,
              z,
              mark-said v o,
              row-padded n list row few,
              row-used n list row few,
              ← next-at s (next + 1) line-room,
            )
