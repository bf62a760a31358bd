-- What reading answers, and taking a worklist, for every reading o of the rules whose book is sound: a sound sheet of that book, or the rules'
-- refusal.
use Prim.Native.Nat.{ℕ}
use mathlib.Core.Path.{◌≡◌, refl, sym, ap}
use mathlib.Core.Bool.{true}
use mathlib.Core.List.{List}
use Rattle.rules.specs.Refusal.{number}
use Rattle.rules.specs.Refusal as R
use Rattle.rules.specs.Sheet.{Book, sound}
use Rattle.rules.specs.Read.{accepted, refused_at, read}
use Rattle.rules.specs.Read as D
use Rattle.theory.proofs.Sound.{read-sound}
use Rattle.std.specs.Prelude.{Ok, Err}
use Rattle.sheet.specs.declared.Fault.{Fault}
use Rattle.sheet.specs.declared.Sheet.{Sheet}
use Rattle.sheet.specs.Represent.{Sound, book_of, sheet_of}
use Rattle.sheet.specs.Answers.{coded-number, number_of, read_as, fault}
use Rattle.sheet.specs.Answers as C
use Rattle.sheet.proofs.Represent.{book-sheet, sheet-sound}

-- ---- a sheet that is not refused

pub record Accepted (o : D.Reading) (s : Sheet) : Type 0 where
  pub sound : Sound s
  pub book : o ≡ accepted (book_of s)

pub or-accepted : (o : D.Reading) (s : Sheet) → ((k : Book) → o ≡ accepted k → sound k ≡ true) → Ok s ≡ read_as o → Accepted o s
or-accepted (accepted k) s v f =
    let e : s ≡ sheet_of k = cc in
    rw e (record { sound = sheet-sound k (v k refl); book = ap accepted (sym (book-sheet k (v k refl))) })
or-accepted (refused_at g j) s v f = cc

pub is-accepted : (text : List ℕ) (s : Sheet) → Ok s ≡ read_as (read text) → Accepted (read text) s
is-accepted text s e = or-accepted (read text) s (read-sound text) e

-- ---- a refusal

pub record Refused (o : D.Reading) (f : Fault) : Type 0 where
  pub refusal : R.Refusal
  pub coded : number_of f.refusal ≡ number refusal
  pub said : o ≡ refused_at refusal f.line

pub is-refused : (o : D.Reading) (f : Fault) → Err f ≡ read_as o → Refused o f
is-refused (accepted k) f q = cc
is-refused (refused_at g j) f q =
    let e : f ≡ fault (C.coded g) j = cc in
    rw e (record { refusal = g; coded = coded-number g; said = refl })
