-- What the program prints, from what the host gets with a buffer that is long enough for every listing.
use Prim.Native.Nat.{ℕ, ◌≤◌, ◌<◌}
use mathlib.Core.Path.{◌≡◌, refl, sym, ap, ◌∙◌}
use mathlib.Core.Bool.{true}
use mathlib.Core.List.{List, [], ◌∷◌, ◌++◌}
use native.Mathlib.Omega.{arith}
use lib.ListN.{length, take, drop}
use borrow.Author.Tests.{le-leb}
use Rattle.rules.specs.Refusal.{Refusal, number}
use Rattle.rules.specs.Sheet.{Book, sound}
use Rattle.rules.specs.Render.{line}
use Rattle.rules.specs.Read.{Reading, accepted, refused_at, read}
use Rattle.rules.specs.Lent.{at_front, printed, into_buffer}
use Rattle.rules.specs.Lent as L
use Rattle.rules.specs.Listing.{plan_book, listing, listing_due, program, host}
use Rattle.theory.proofs.Refusal.{number-range}
use Rattle.theory.proofs.Sound.{sound-is, read-sound}
use Rattle.sheet.specs.Represent.{sheet_of}
use Rattle.sheet.proofs.Represent.{book-sheet, sheet-sound}
use Rattle.text.specs.declared.Hosted.{Hosted}
use Rattle.text.specs.Answer.{hosted_of}
use Rattle.theory.proofs.Fields.{line-length}
use Rattle.listing.proofs.Lines.{listing-length}
use Rattle.listing.proofs.Planned.{plan-fits}
use Rattle.theory.proofs.Bytes.{read-bounded, refused-line}

-- a line of 43 bytes, one of at most 151, and 200 of 19
pub longest-listing : (k : Book) → sound k ≡ true → length (listing k (plan_book k)) ≤ 3994
longest-listing k v =
    let f : length (plan_book k).group ≤ 24 = rw (book-sheet k v) at (plan-fits (sheet_of k) (sheet-sound k v)).1 in
    omega (arith, listing-length k (plan_book k), f, (sound-is k v).room)

-- the listing is in the buffer
pub record ListingIn (s buffer : List ℕ) (h : Hosted) (after : List ℕ) : Type 0 where
  pub count : h.length ≡ length (program s)
  pub text : after ≡ at_front (program s) buffer

-- nothing is, and there is a refusal to print
pub record RefusalPrinted (s buffer : List ℕ) (h : Hosted) (after : List ℕ) : Type 0 where
  pub row : program s ≡ line (h.refusal ∷ h.line ∷ [])
  pub same : after ≡ buffer
  pub number : h.refusal < 1000000
  pub place : h.line < 1000000

module _ (s buffer after : List ℕ) (h : Hosted) (e : hosted_of h after ≡ host s buffer) (room : 3994 ≤ length buffer) where
  -- the answer to a sheet that is read
  told : (k : Book) → read s ≡ accepted k
      → hosted_of h after ≡ record { refusal = 0; line = 0; length = length (program s); buffer = at_front (program s) buffer }
  unfolding host program into_buffer
  told k q =
      let l = longest-listing k (read-sound s k q) in
      let t : length (listing k (plan_book k)) ≤ length buffer = omega arith in
      e ∙ rw (q, le-leb (length (listing k (plan_book k))) (length buffer) t)

  -- and to one that is refused
  turned : (g : Refusal) (j : ℕ) → read s ≡ refused_at g j
      → hosted_of h after ≡ record { refusal = number g; line = j; length = 0; buffer = buffer }
  unfolding host into_buffer
  turned g j q = e ∙ rw q

  row-of : (g : Refusal) (j : ℕ) → read s ≡ refused_at g j → program s ≡ line (number g ∷ j ∷ [])
  unfolding program
  row-of g j q = rw q

  listed-case : (o : Reading) → read s ≡ o → h.refusal ≡ 0 → ListingIn s buffer h after
  listed-case (accepted k) q z =
      let t = told k q in
      record { count = ap (λ (x : L.Hosted). x.length) t; text = ap (λ (x : L.Hosted). x.buffer) t }
  listed-case (refused_at g j) q z =
      absurd (omega (arith, ap (λ (x : L.Hosted). x.refusal) (turned g j q), (number-range g).0))

  refused-case : (o : Reading) → read s ≡ o → (h.refusal ≡ 0 → ⊥) → RefusalPrinted s buffer h after
  refused-case (accepted k) q n = absurd (n (ap (λ (x : L.Hosted). x.refusal) (told k q)))
  refused-case (refused_at g j) q n =
      let t = turned g j q in
      let a : h.refusal ≡ number g = ap (λ (x : L.Hosted). x.refusal) t in
      let b : h.line ≡ j = ap (λ (x : L.Hosted). x.line) t in
      record {
        row = row-of g j q ∙ rw (a, b) refl;
        same = ap (λ (x : L.Hosted). x.buffer) t;
        number = omega (arith, (number-range g).1);
        place = omega (arith, refused-line s g j q);
      }

  pub is-listed : h.refusal ≡ 0 → ListingIn s buffer h after
  is-listed z = listed-case (read s) refl z

  pub refusal-told : (h.refusal ≡ 0 → ⊥) → RefusalPrinted s buffer h after
  refusal-told n = refused-case (read s) refl n

-- the refusal's line is all that is printed
pub row-printed : (s buffer after : List ℕ) (h : Hosted) (end : List ℕ) → RefusalPrinted s buffer h after
    → end ≡ line (h.refusal ∷ h.line ∷ []) ++ drop 13 after → (13 ≡ length (program s)) × (end ≡ at_front (program s) buffer)
row-printed s buffer after h end u e =
    let w : length (program s) ≡ 13 = ap length u.row ∙ line-length (h.refusal ∷ h.line ∷ []) in
    (sym w, e ∙ rw (w, u.row, u.same) refl)

-- the text is never longer than the longest listing
short-case : (s : List ℕ) (o : Reading) → read s ≡ o → length (printed (listing_due o)) ≤ 3994
short-case s (accepted k) q = longest-listing k (read-sound s k q)
short-case s (refused_at g j) q = omega (arith, line-length (number g ∷ j ∷ []))

pub program-short : (s : List ℕ) → length (program s) ≤ 3994
unfolding program
program-short s = short-case s (read s) refl

-- the first 33,959 bytes of a file decide what is printed
pub program-bounded : (s : List ℕ) → program (take 33959 s) ≡ program s
unfolding program
program-bounded s = rw (read-bounded s)
