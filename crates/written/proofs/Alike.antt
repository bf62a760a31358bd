-- Files tell sheets apart (document 02, C-20): two are the same text exactly where their sheets say the same. Of sheets, and of what the
-- exported call writes.
use Prim.Native.Nat.{ℕ, ◌≤◌}
use mathlib.Core.Path.{◌≡◌, refl, sym, ap, ◌∙◌}
use mathlib.Core.List.{List}
use lib.ListN.{length, take, drop}
use lib.Seq.{take_at}
use Rattle.rules.specs.Sheet.{Book}
use Rattle.rules.specs.Read.{accepted, read}
use Rattle.rules.specs.Rewrite.{written, SameContents}
use Rattle.rules.specs.Run.{Call, book_after}
use Rattle.rules.specs.Lent.{Hosted}
use Rattle.rules.specs.Journal.{calls, journal, sheet_text, write_host}
use Rattle.theory.proofs.Lists.{contents-one, same_bytes, bytes_same}
use Rattle.theory.proofs.Runs.{after-sound}
use Rattle.theory.proofs.Sound.{read-sound}
use Rattle.text.proofs.Answer.{into-long}
use Rattle.sheet.specs.declared.Sheet.{Sheet}
use Rattle.sheet.specs.Represent.{sheet_of, book_of, Sound}

-- ---- sheets

-- two sheets with the same contents are one
pub record Alike (s t : Sheet) : Type 0 where
  pub one : SameContents (book_of s) (book_of t) → s ≡ t
  pub equal : SameContents (book_of s) (book_of t) → written (book_of s) ≡ written (book_of t)
  pub only : written (book_of s) ≡ written (book_of t) → SameContents (book_of s) (book_of t)

pub sheets-alike : (s t : Sheet) → Sound s → Sound t → Alike s t
sheets-alike s t v w = record {
  equal = same_bytes (book_of s) (book_of t) v.book w.book;
  only = bytes_same (book_of s) (book_of t) v.book w.book;
  one = λ c. sym v.arrays ∙ ap sheet_of (contents-one (book_of s) (book_of t) v.book w.book c) ∙ w.arrays;
}

-- ---- what bankplan_write writes

-- the bytes of the text that it wrote
abbrev pub bytes_of : Hosted → List ℕ
bytes_of h = take h.length h.buffer

pub record HostAlike (a b : Hosted) (j k : Book) : Type 0 where
  pub equal : SameContents j k → bytes_of a ≡ bytes_of b
  pub only : bytes_of a ≡ bytes_of b → SameContents j k

-- a sheet and a journal without a fault, and a buffer that is long enough
pub record Written (s c buffer : List ℕ) (k : Book) (cs : List Call) : Type 0 where
  pub sheet : read s ≡ accepted k
  pub journal : journal c ≡ calls cs
  pub room : length (sheet_text k cs) ≤ length buffer

wrote : {s c buffer : List ℕ} {k : Book} {cs : List Call} → Written s c buffer k cs → bytes_of (write_host s c buffer) ≡ sheet_text k cs
unfolding write_host
wrote {s} {c} {buffer} {k} {cs} w =
    let t = sheet_text k cs in
    rw (w.sheet, w.journal) (ap bytes_of (sym (into-long t buffer _ _ w.room refl refl)))
    ∙ take_at (sheet_text k cs) (drop (length (sheet_text k cs)) buffer) (length (sheet_text k cs)) refl

-- two such calls: the sheets that the journals leave are told apart by their bytes
pub hosts-alike : {s c b : List ℕ} {j : Book} {xs : List Call} {u d v : List ℕ} {k : Book} {ys : List Call} → Written s c b j xs → Written u d v k ys
    → HostAlike (write_host s c b) (write_host u d v) (book_after j xs) (book_after k ys)
hosts-alike {s} {c} {b} {j} {xs} {u} {d} {v} {k} {ys} w x =
    let e = after-sound j xs (read-sound s j w.sheet) in
    let f = after-sound k ys (read-sound u k x.sheet) in
    record {
      equal = λ i. wrote w ∙ same_bytes (book_after j xs) (book_after k ys) e f i ∙ sym (wrote x);
      only = λ i. bytes_same (book_after j xs) (book_after k ys) e f (sym (wrote w) ∙ i ∙ wrote x);
    }
