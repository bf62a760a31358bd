-- What taking a worklist answers, as the code has it: what the host gives, then the form of the file, then the number of its rows.
use Prim.Native.Nat.{ℕ, ◌<◌}
use mathlib.Core.Path.{◌≡◌, refl, sym, ap, ◌∙◌}
use mathlib.Core.List.{List}
use native.Mathlib.Omega.{arith}
use lib.ListN.{length}
use borrow.Author.Tests.{lt-leb}
use Rattle.std.specs.Prelude.{Ok, Err}
use Rattle.rules.specs.Sheet.{Book, size, good_instruments, good_calibrations}
use Rattle.rules.specs.Read.{accepted, refused_at}
use Rattle.rules.specs.Read as D
use Rattle.rules.specs.Worklist.{Worklist, rows, faulty_row, worklist, taken}
use Rattle.theory.proofs.Worklist.{bare, given, rows_on, judged-accepted, given-sound}
use Rattle.theory.proofs.Taken.{taken_is}
use Rattle.sheet.specs.declared.Fault.{Fault}
use Rattle.sheet.specs.declared.Sheet.{Sheet}
use Rattle.sheet.specs.declared.Refusal.TheVariants.{BadSize, BadWorklist}
use Rattle.sheet.specs.Represent.{Sound, book_of, sheet_of}
use Rattle.sheet.specs.Answers.{read_as, fault}
use Rattle.sheet.proofs.Accepted.{Accepted, or-accepted}
use Rattle.worklist.specs.declared.row.FaultyRow.{FaultyRow}
use Rattle.worklist.specs.Read.{rows_as}

-- a book without a batch
none_yet : (m : ℕ) (l : List ℕ) (k : Book) → given m l ≡ accepted k → size k ≡ 0
unfolding given
none_yet m l k e =
    let a = judged-accepted (good_instruments m) _ _ k e in
    let b = judged-accepted (good_calibrations m l) _ _ k a.1 in
    let q : bare m l ≡ k = (let c = b.1 in cc) in
    ap size (sym q)

module _ (m : ℕ) (l s : List ℕ) where
  pub host-refused : (f : Fault) → Err f ≡ read_as (given m l) → Err f ≡ read_as (taken m l s)
  host-refused f q = from (given m l) refl q
    where
      from : (o : D.Reading) → given m l ≡ o → Err f ≡ read_as o → Err f ≡ read_as (taken m l s)
      from (accepted k) e g = absurd (let z : Err f ≡ Ok (sheet_of k) = g in cc)
      from (refused_at y j) e g = rw (taken_is m l s, e) g

  -- the host's part is good
  module _ (b : Sheet) (q : Ok b ≡ read_as (given m l)) where
    good : Accepted (given m l) b
    good = or-accepted (given m l) b (given-sound m l) q

    pub sound : Sound b
    sound = good.sound

    pub empty : size (book_of b) ≡ 0
    empty = none_yet m l (book_of b) good.book

    pub from-there : read_as (rows_on (book_of b) (worklist s)) ≡ read_as (taken m l s)
    from-there = ap read_as (sym (taken_is m l s ∙ rw good.book))

    pub form-refused : (f : FaultyRow) → Err f ≡ rows_as (worklist s) → Err (fault BadWorklist f.row) ≡ read_as (taken m l s)
    form-refused f p = from (worklist s) refl p
      where
        from : (v : Worklist) → worklist s ≡ v → Err f ≡ rows_as v → Err (fault BadWorklist f.row) ≡ read_as (taken m l s)
        from (rows ws) e g = absurd (let z : Err f ≡ Ok (length ws) = g in cc)
        from (faulty_row j) e g =
            let d : f ≡ record { row = j } = cc in
            let h : read_as (rows_on (book_of b) (worklist s)) ≡ Err (fault BadWorklist j) = rw e in
            ap (λ (x : FaultyRow). Err (fault BadWorklist x.row)) d ∙ sym h ∙ from-there

    pub many-refused : (n : ℕ) → Ok n ≡ rows_as (worklist s) → 200 < n → Err (fault BadSize 0) ≡ read_as (taken m l s)
    many-refused n p h = from (worklist s) refl p
      where
        from : (v : Worklist) → worklist s ≡ v → Ok n ≡ rows_as v → Err (fault BadSize 0) ≡ read_as (taken m l s)
        from (faulty_row j) e g = absurd (let z : Ok n ≡ Err (record { row = j }) = g in cc)
        from (rows ws) e g =
            let d : n ≡ length ws = cc in
            let h : read_as (rows_on (book_of b) (worklist s)) ≡ Err (fault BadSize 0) = rw (e, lt-leb (length ws) 200 (omega arith)) in
            sym h ∙ from-there
