-- Csv reads what the grammar's rules say: all of it, and nothing else.
use Prim.Native.Nat.{ℕ, zero, suc, ◌+◌, ◌-◌, ◌≤◌, ◌<◌}
use mathlib.Core.Path.{◌≡◌, refl, sym, ap, ◌∙◌}
use mathlib.Core.Bool.{true}
use mathlib.Core.List.{List, [], ◌∷◌}
use mathlib.Core.Option.{Option, some, none}
use native.Mathlib.Omega.{arith}
use lib.ListN.{length}
use lib.Dec.{eqb}
use borrow.Author.Tests.{eqb-true}
use Rattle.rules.specs.Fold.{◌and◌, ◌or◌}
use Rattle.theory.proofs.Logic.{by_test, and_left, and_right}
use Rattle.rules.specs.Csv.{is_text, is_inside, record_end, Rest, rest, broken, grow, another, last, Place, before, plain, quoted, closing, fields_from, record_at, Csv, record_first, record_then, file_by, csv}
use Rattle.rules.specs.Grammar.{NonEscaped, Quoted, Field, Record, File, Ends, Breaks}
use Rattle.worklist.proofs.Bytes.{apart, text-quote}
use Rattle.worklist.proofs.Record.{plain-text, plain_end, before-quote, before-plain, quoted-quote, quoted-inside, quoted-other, closing-quote, closing_end}
use Rattle.worklist.proofs.Fuel.{Short, record-short}

-- ---- where records end

no-some {ℓ} : {X : Type ℓ} {r : List ℕ} → none ≡ some r → X
no-some e = absurd (let z : ◌≡◌ {A = ℕ} 0 1 = cc in omega arith)

pub end_is : (e r : List ℕ) → record_end e ≡ some r → Ends e r
unfolding record_end
end_is [] r h = let q : [] ≡ r = cc in rw (← q) Ends.end_of_file
end_is (x ∷ []) r h = no-some h
end_is (x ∷ y ∷ s) r h =
    by_test (eqb x 13 and eqb y 10)
    (λ t.
    let q : s ≡ r = (let g : some s ≡ some r = rw t at h in cc) in
    rw (eqb-true x 13 (and_left _ _ t), eqb-true y 10 (and_right (eqb x 13) _ t), q) Ends.end_of_line)
    (λ t. no-some (rw t at h))

-- ---- what the rules say is read

-- after a field that has ended, from each place the field at hand is empty
record Ended (e : List ℕ) (fs : List (List ℕ)) (r : List ℕ) : Type 0 where
  at_before : record_at e ≡ rest [] fs r
  at_plain : fields_from plain e ≡ rest [] fs r
  at-closing : fields_from closing e ≡ rest [] fs r

ended-comma : (t g : List ℕ) (gs : List (List ℕ)) (r : List ℕ) → record_at t ≡ rest g gs r → Ended (44 ∷ t) (g ∷ gs) r
unfolding is_text ◌and◌ ◌or◌
ended-comma t g gs r h =
    let p : fields_from plain (44 ∷ t) ≡ rest [] (g ∷ gs) r = plain_end 44 t refl ∙ ap another h in
    record { at_before = before-plain 44 t refl ∙ p; at_plain = p; at-closing = closing_end 44 t refl ∙ ap another h }

ended-end : {e r : List ℕ} → Ends e r → Ended e [] r
unfolding is_text ◌and◌ ◌or◌ fields_from record_end
ended-end Ends.end_of_file = record { at_before = refl; at_plain = refl; at-closing = refl }
ended-end Ends.end_of_line = record { at_before = refl; at_plain = refl; at-closing = refl }

module _ {fs : List (List ℕ)} {r e : List ℕ} where
  text-reads : {s f : List ℕ} → NonEscaped e s f → fields_from plain e ≡ rest [] fs r → fields_from plain s ≡ rest f fs r
  text-reads NonEscaped.stop h = h
  text-reads (NonEscaped.text {s} x t n) h = plain-text x s t ∙ ap (grow x) (text-reads n h)

  quoted-reads : {s f : List ℕ} → Quoted (34 ∷ e) s f → fields_from closing e ≡ rest [] fs r → fields_from quoted s ≡ rest f fs r
  unfolding is_inside is_text ◌and◌ ◌or◌
  quoted-reads Quoted.stop h = quoted-quote 34 e refl ∙ h
  quoted-reads (Quoted.byte {s} x t n) h = quoted-inside x s (apart is_inside x 34 t refl) t ∙ ap (grow x) (quoted-reads n h)
  quoted-reads (Quoted.two_quotes {s} n) h =
      quoted-quote 34 (34 ∷ s) refl ∙ closing-quote 34 s refl ∙ ap (grow 34) (quoted-reads n h)

  plain-reads : {s f : List ℕ} → NonEscaped e s f → Ended e fs r → record_at s ≡ rest f fs r
  plain-reads NonEscaped.stop h = h.at_before
  plain-reads (NonEscaped.text {s} x t n) h =
      before-plain x s (text-quote x t) ∙ text-reads (NonEscaped.text x t n) h.at_plain

  field-reads : {s f : List ℕ} → Field e s f → Ended e fs r → record_at s ≡ rest f fs r
  field-reads (Field.non_escaped n) h = plain-reads n h
  field-reads (Field.escaped {s} q) h = before-quote 34 s refl ∙ quoted-reads q h.at-closing

pub record-reads : {e s f r : List ℕ} {fs : List (List ℕ)} → Record e s f fs → Ends e r → record_at s ≡ rest f fs r
record-reads (Record.last_field x) h = field-reads x (ended-end h)
record-reads {r = r} (Record.comma {t = t} {g = g} {gs = gs} x n) h = field-reads x (ended-comma t g gs r (record-reads n h))

-- ---- what is read is what the rules say

-- the record at the front of s, by the rules
pub record Parsed (s f : List ℕ) (fs : List (List ℕ)) (r : List ℕ) : Type 0 where
  pub behind : List ℕ
  pub is : Record behind s f fs
  pub ends : Ends behind r

-- after a field
data Tail : List ℕ → List (List ℕ) → List ℕ → Type 0 where
  over : {e r : List ℕ} → Ends e r → Tail e [] r
  comma : {t g r : List ℕ} {gs : List (List ℕ)} → Parsed t g gs r → Tail (44 ∷ t) (g ∷ gs) r

parsed : {e s f r : List ℕ} {fs : List (List ℕ)} → Field e s f → Tail e fs r → Parsed s f fs r
parsed {e = e} x (Tail.over h) = record { behind = e; is = Record.last_field x; ends = h }
parsed x (Tail.comma p) = record { behind = p.behind; is = Record.comma x p.is; ends = p.ends }

data Sound : Place → List ℕ → Rest → Type 0 where
  nothing : {p : Place} {s : List ℕ} → Sound p s broken
  at_before : {s f r : List ℕ} {fs : List (List ℕ)} → Parsed s f fs r → Sound before s (rest f fs r)
  at_plain : {e s f r : List ℕ} {fs : List (List ℕ)} → NonEscaped e s f → Tail e fs r → Sound plain s (rest f fs r)
  at-quoted : {e s f r : List ℕ} {fs : List (List ℕ)} → Quoted (34 ∷ e) s f → Tail e fs r → Sound quoted s (rest f fs r)
  -- s comes after a quote
  at-closing : {e s f r : List ℕ} {fs : List (List ℕ)} → Quoted (34 ∷ e) (34 ∷ s) f → Tail e fs r → Sound closing s (rest f fs r)

plain-last : (s : List ℕ) (o : Option (List ℕ)) → record_end s ≡ o → Sound plain s (last o)
plain-last s (some r) h = Sound.at_plain NonEscaped.stop (Tail.over (end_is s r h))
plain-last s none h = Sound.nothing

closing-last : (s : List ℕ) (o : Option (List ℕ)) → record_end s ≡ o → Sound closing s (last o)
closing-last s (some r) h = Sound.at-closing Quoted.stop (Tail.over (end_is s r h))
closing-last s none h = Sound.nothing

plain-comma : {s : List ℕ} {p : Rest} → Sound before s p → Sound plain (44 ∷ s) (another p)
plain-comma Sound.nothing = Sound.nothing
plain-comma (Sound.at_before p) = Sound.at_plain NonEscaped.stop (Tail.comma p)

closing-comma : {s : List ℕ} {p : Rest} → Sound before s p → Sound closing (44 ∷ s) (another p)
closing-comma Sound.nothing = Sound.nothing
closing-comma (Sound.at_before p) = Sound.at-closing Quoted.stop (Tail.comma p)

plain-grow : {s : List ℕ} {p : Rest} (x : ℕ) → is_text x ≡ true → Sound plain s p → Sound plain (x ∷ s) (grow x p)
plain-grow x t Sound.nothing = Sound.nothing
plain-grow x t (Sound.at_plain n h) = Sound.at_plain (NonEscaped.text x t n) h

quoted-grow : {s : List ℕ} {p : Rest} (x : ℕ) → is_inside x ≡ true → Sound quoted s p → Sound quoted (x ∷ s) (grow x p)
quoted-grow x t Sound.nothing = Sound.nothing
quoted-grow x t (Sound.at-quoted n h) = Sound.at-quoted (Quoted.byte x t n) h

closing-grow : {s : List ℕ} {p : Rest} → Sound quoted s p → Sound closing (34 ∷ s) (grow 34 p)
closing-grow Sound.nothing = Sound.nothing
closing-grow (Sound.at-quoted n h) = Sound.at-closing (Quoted.two_quotes n) h

quoted-close : {s : List ℕ} {p : Rest} → Sound closing s p → Sound quoted (34 ∷ s) p
quoted-close Sound.nothing = Sound.nothing
quoted-close (Sound.at-closing n h) = Sound.at-quoted n h

before-open : {s : List ℕ} {p : Rest} → Sound quoted s p → Sound before (34 ∷ s) p
before-open Sound.nothing = Sound.nothing
before-open (Sound.at-quoted n h) = Sound.at_before (parsed (Field.escaped n) h)

before_text : {s : List ℕ} {p : Rest} → Sound plain s p → Sound before s p
before_text Sound.nothing = Sound.nothing
before_text (Sound.at_plain n h) = Sound.at_before (parsed (Field.non_escaped n) h)

module _ (x : ℕ) (s : List ℕ) (h : (p : Place) → Sound p s (fields_from p s)) where
  sound-plain : Sound plain (x ∷ s) (fields_from plain (x ∷ s))
  sound-plain =
      by_test (is_text x)
      (λ t. rw (plain-text x s t) (plain-grow x t (h plain)))
      (λ n. rw (plain_end x s n) (by_test (eqb x 44)
      (λ c. rw (c, eqb-true x 44 c) (plain-comma (h before)))
      (λ c. rw c (plain-last (x ∷ s) (record_end (x ∷ s)) refl))))

  sound-step : (p : Place) → Sound p (x ∷ s) (fields_from p (x ∷ s))
  sound-step before =
      by_test (eqb x 34)
      (λ q. rw (before-quote x s q, eqb-true x 34 q) (before-open (h quoted)))
      (λ q. rw (before-plain x s q) (before_text sound-plain))
  sound-step plain = sound-plain
  sound-step quoted =
      by_test (eqb x 34)
      (λ q. rw (quoted-quote x s q, eqb-true x 34 q) (quoted-close (h closing)))
      (λ q. by_test (is_inside x)
      (λ t. rw (quoted-inside x s q t) (quoted-grow x t (h quoted)))
      (λ t. rw (quoted-other x s q t) Sound.nothing))
  sound-step closing =
      by_test (eqb x 34)
      (λ q. rw (closing-quote x s q, eqb-true x 34 q) (closing-grow (h quoted)))
      (λ q. rw (closing_end x s q) (by_test (eqb x 44)
      (λ c. rw (c, eqb-true x 44 c) (closing-comma (h before)))
      (λ c. rw c (closing-last (x ∷ s) (record_end (x ∷ s)) refl))))

sound_none : (p : Place) → Sound p [] (fields_from p [])
unfolding fields_from record_end
sound_none before = before_text (plain-last [] (some []) refl)
sound_none plain = plain-last [] (some []) refl
sound_none quoted = Sound.nothing
sound_none closing = closing-last [] (some []) refl

sound : (s : List ℕ) (p : Place) → Sound p s (fields_from p s)
sound [] p = sound_none p
sound (x ∷ s) p = sound-step x s (sound s) p

pub record_is : (s f : List ℕ) (fs : List (List ℕ)) (r : List ℕ) → record_at s ≡ rest f fs r → Parsed s f fs r
record_is s f fs r e = from (rw e at (sound s before))
  where
    from : Sound before s (rest f fs r) → Parsed s f fs r
    from (Sound.at_before p) = p

-- ---- files

-- what Csv says of the records of s, of which the first has number j
pub data FileIs (j : ℕ) (s : List ℕ) : Csv → Type 0 where
  whole : {rs : List (List (List ℕ))} → File s rs → FileIs j s (record { records = rs; fault = 0 })
  breaks : {rs : List (List (List ℕ))} (k : ℕ) → Breaks s rs → k ≡ j + length rs → FileIs j s (record { records = rs; fault = k })

no_record : (s : List ℕ) → record_at s ≡ broken → Breaks s []
no_record s h = Breaks.here (λ e r f fs a p. let q : rest f fs r ≡ broken = sym (record-reads p a) ∙ h in absurd (let z : ◌≡◌ {A = ℕ} 0 1 = cc in omega arith))

module _ (j : ℕ) (s f : List ℕ) (fs : List (List ℕ)) where
  last-is : {e : List ℕ} → Record e s f fs → Ends e [] → FileIs j s (record { records = (f ∷ fs) ∷ []; fault = 0 })
  last-is p Ends.end_of_file = FileIs.whole (File.last_record p)
  last-is p Ends.end_of_line = FileIs.whole (File.last_crlf p)

  more-is : (x : ℕ) (t : List ℕ) {e : List ℕ} {k : Csv} → Record e s f fs → Ends e (x ∷ t) → FileIs (suc j) (x ∷ t) k → FileIs j s (record_first (f ∷ fs) k)
  more-is x t p Ends.end_of_line (FileIs.whole h) = FileIs.whole (File.crlf p h)
  more-is x t p Ends.end_of_line (FileIs.breaks k h e) = FileIs.breaks k (Breaks.later p h) (omega arith)

pub at_most : {n : ℕ} {f r : List ℕ} {fs : List (List ℕ)} → Short n (rest f fs r) → length r ≤ n
at_most (Short.short r h) = h

pub file-is : (n j : ℕ) (s : List ℕ) → length s < n → FileIs j s (file_by n j s)
unfolding file_by
file-is zero j s b = absurd (omega arith)
file-is (suc n) j s b = from (record_at s) refl (record-short s before) (λ r a. file-is n (suc j) r a)
  where
    from : (p : Rest) → record_at s ≡ p → Short (length s - 1) p → ((r : List ℕ) → length r < n → FileIs (suc j) r (file_by n (suc j) r))
        → FileIs j s (record_then j p (λ r. file_by n (suc j) r))
    from (rest f fs []) e l ih = let p = record_is s f fs [] e in last-is j s f fs p.is p.ends
    from (rest f fs (x ∷ t)) e l ih =
        let p = record_is s f fs (x ∷ t) e in
        let a : length (x ∷ t) ≤ length s - 1 = at_most l in
        more-is j s f fs x t p.is p.ends (ih (x ∷ t) (omega arith))
    from broken e l ih = FileIs.breaks j (no_record s e) (omega arith)

-- what Csv says of any file: it is whole and has these records by the rules, or it breaks by the rules after these
pub csv-is : (s : List ℕ) → FileIs 1 s (csv s)
unfolding csv
csv-is s = file-is (suc (length s)) 1 s (omega arith)

file-reads : {s : List ℕ} {rs : List (List (List ℕ))} → File s rs → (n j : ℕ) → length s < n → file_by n j s ≡ record { records = rs; fault = 0 }
unfolding file_by
file-reads (File.last_record p) zero j b = absurd (omega arith)
file-reads (File.last_record p) (suc n) j b = rw (record-reads p Ends.end_of_file)
file-reads (File.last_crlf p) zero j b = absurd (omega arith)
file-reads (File.last_crlf p) (suc n) j b = rw (record-reads p Ends.end_of_line)
file-reads (File.crlf p h) zero j b = absurd (omega arith)
file-reads (File.crlf {s} {f} {t} {fs} {rs} {x} p h) (suc n) j b =
    let e : record_at s ≡ rest f fs (x ∷ t) = record-reads p Ends.end_of_line in
    let l : Short (length s - 1) (record_at s) = record-short s before in
    let a : length (x ∷ t) ≤ length s - 1 = at_most (rw e at l) in
    rw e (ap (λ (k : Csv). record_first (f ∷ fs) k) (file-reads h n (suc j) (omega arith)))

-- a file that has these records by the rules is read so
pub csv-reads : {s : List ℕ} {rs : List (List (List ℕ))} → File s rs → csv s ≡ record { records = rs; fault = 0 }
unfolding csv
csv-reads {s} h = file-reads h (suc (length s)) 1 (omega arith)
