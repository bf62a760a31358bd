-- Between two batch lines: the batches so far are in the sheet, and what is left goes on from them as the rules do.
use Prim.Native.Nat.{ℕ, suc, ◌+◌, ◌-◌, ◌≤◌, ◌<◌}
use mathlib.Core.Path.{◌≡◌, refl, sym, ap, ◌∙◌}
use mathlib.Core.Bool.{true}
use mathlib.Core.List.{List, [], ◌∷◌, ◌++◌}
use native.Mathlib.Omega.{arith}
use borrow.Author.Tests.{le-leb}
use lib.ListN.{length, drop, drop_of_length-le, length-append}
use lib.Seq.{drop-cons}
use Rattle.rules.specs.Fold.{every}
use Rattle.rules.specs.Refusal.{malformed}
use Rattle.rules.specs.Sheet.{Book, Batch}
use Rattle.rules.specs.Read.{Reading, batch_line, accepted, refused_at, batch_lines}
use Rattle.rules.specs.Render.{mark}
use Rattle.theory.proofs.Member.{every_append, every_one}
use Rattle.std.specs.Prelude.{Ok, Err}
use Rattle.sheet.specs.declared.Fault.{Fault}
use Rattle.sheet.specs.declared.Refusal.TheVariants.{Malformed}
use Rattle.sheet.specs.declared.Sheet.{Sheet}
use Rattle.reading.specs.declared.Line.{Line}
use Rattle.sheet.specs.Represent.{padded, sheet_of, appended, empty}
use Rattle.sheet.specs.Answers.{fault, read_as}
use Rattle.reading.specs.Lines.{line_as}
use Rattle.sheet.proofs.Represent.{narrow, append-law}
use Rattle.reading.proofs.PartsRead.{LineGiven, line_refused}

-- the book of the calibrations l and the batches bs
abbrev booked : ℕ → List ℕ → List Batch → Book
booked m l bs = record { m = m; calibrations = l; batches = bs }

module _ (s : List ℕ) (at m n : ℕ) (calibrations : List ℕ) where
  -- what the n batch lines from at on give
  abbrev pub whole : Reading
  whole = batch_lines m calibrations n 3 [] (drop at s)

  -- what they give where i of them are read, into bs and up to next
  abbrev pub onward : ℕ → List Batch → ℕ → Reading
  onward i bs next = batch_lines m calibrations (n - i) (i + 3) bs (drop next s)

  -- i of the n batch lines from at on are read, up to next
  pub record BatchesSofar (sheet : Sheet) (next i : ℕ) : Type 0 where
    pub batches : List Batch
    pub count : length batches ≡ i
    pub fit : every narrow batches ≡ true
    pub same : sheet ≡ sheet_of (booked m calibrations batches)
    pub room : next ≤ length s
    pub few : i ≤ n
    pub rest : onward i batches next ≡ whole

  -- no line is read yet
  pub none_yet : (row : List ℕ) → at ≤ length s → padded 24 calibrations ≡ row →
      BatchesSofar (empty m row) at 0
  unfolding every sheet_of
  none_yet row h e =
      let c : n - 0 ≡ n = omega arith in
      record {
        batches = [];
        count = refl;
        fit = refl;
        same = rw e;
        room = h;
        few = omega arith;
        rest = ap (λ (k : ℕ). batch_lines m calibrations k 3 [] (drop at s)) c;
      }

  module _ (sheet : Sheet) (next i : ℕ) (f : BatchesSofar sheet next i) where
    -- a line more has room
    pub size-is : sheet.n ≡ i
    unfolding sheet_of
    size-is = ap (λ (z : Sheet). z.n) f.same ∙ f.count

    step : (x : Line) (h : next ≤ length s) (g : LineGiven s next h m x) → i < n →
        onward (i + 1) (f.batches ++ (g.batch ∷ [])) x.next ≡ whole
    unfolding batch_lines
    step x h g l =
        let e : n - i ≡ suc (n - (i + 1)) = omega arith in
        let j : i + 1 + 3 ≡ suc (i + 3) = omega arith in
        let b : onward i f.batches next
        ≡ batch_lines m calibrations (n - (i + 1)) (suc (i + 3)) (f.batches ++ (g.batch ∷ [])) (drop x.next s) = rw (e, g.part) in
        ap (λ (k : ℕ). batch_lines m calibrations (n - (i + 1)) k (f.batches ++ (g.batch ∷ [])) (drop x.next s)) j ∙ sym b ∙ f.rest

    -- one line more
    pub one_more : (x : Line) (h : next ≤ length s) → LineGiven s next h m x → i < n → n ≤ 200
        → BatchesSofar (appended sheet x.minutes x.place x.started x.count x.list) x.next (i + 1)
    one_more x h g l u =
        let b : Batch = g.batch in
        let e : appended sheet x.minutes x.place x.started x.count x.list
        ≡ appended (sheet_of (booked m calibrations f.batches)) b.minutes b.place (mark b.started) (length b.list) (padded 24 b.list) =
        ap (λ (y : Line). appended sheet y.minutes y.place y.started y.count y.list) g.is
        ∙ ap (λ (z : Sheet). appended z b.minutes b.place (mark b.started) (length b.list) (padded 24 b.list)) f.same in
        record {
          batches = f.batches ++ (b ∷ []);
          count = omega (arith, length-append f.batches (b ∷ []), f.count);
          fit = every_append narrow f.batches (b ∷ []) f.fit (every_one narrow b (le-leb (length b.list) 24 g.short));
          same = e ∙ append-law (booked m calibrations f.batches) b (omega (arith, f.count)) f.fit g.short;
          room = g.room;
          few = omega arith;
          rest = step x h g l;
        }

    -- the next line is refused
    pub then-refused : i < n → {x : Fault} → Err x ≡ line_as (length s) (i + 3) (batch_line m (drop next s)) → Err x ≡ read_as whole
    then-refused l e =
        let c : suc (n - (i + 1)) ≡ n - i = omega arith in
        line_refused s next m calibrations (n - (i + 1)) (i + 3) f.batches e
        ∙ ap read_as (ap (λ (k : ℕ). batch_lines m calibrations k (i + 3) f.batches (drop next s)) c ∙ f.rest)

    module _ (l : i ≡ n) where
      -- bytes are left over
      pub left_over : next < length s → Err (fault Malformed (n + 3)) ≡ read_as whole
      unfolding batch_lines
      left_over h =
          let c : n - i ≡ 0 = omega arith in
          let e : onward i f.batches next ≡ refused_at malformed (i + 3) = rw (c, drop-cons s next 0 h) in
          ap (λ (k : ℕ). Err (fault Malformed (k + 3))) (sym l) ∙ ap read_as (sym e ∙ f.rest)

      -- nothing follows
      pub all_read : length s ≤ next → Ok sheet ≡ read_as whole
      unfolding batch_lines
      all_read h =
          let c : n - i ≡ 0 = omega arith in
          let e : onward i f.batches next ≡ accepted (booked m calibrations f.batches) = rw (c, drop_of_length-le s h) in
          ap Ok f.same ∙ ap read_as (sym e ∙ f.rest)
