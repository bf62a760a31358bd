-- Laws of the listing's lines: how long they are, and what they are to a book and its plan.
use Prim.Native.Nat.{ℕ, zero, suc, ◌+◌, ◌*◌, ◌≤◌}
use mathlib.Core.Path.{◌≡◌, refl, ap, ap₂, ◌∙◌}
use mathlib.Core.List.{List, [], ◌∷◌, ◌++◌}
use native.Mathlib.Omega.{arith}
use lib.ListN.{length, length-append}
use Rattle.rules.specs.Fold.{at}
use Rattle.rules.specs.Sheet.{Book, size, batch}
use Rattle.rules.specs.Render.{columns, fields, line}
use Rattle.rules.specs.Plan.{Plan}
use Rattle.rules.specs.Listing.{first_line, group_line, batch_listing, listing}
use Rattle.theory.proofs.Field.{columns-length}
use Rattle.listing.specs.Rows.{without_places, rows_to, listing_text}
use Rattle.theory.proofs.Fields.{fields-length, line-length}

pub first-line-length : (p : Plan) → length (first_line p) ≡ 43
first-line-length p =
    let f : List ℕ = fields (p.makespan ∷ p.lower_bound ∷ p.level ∷ p.lifts ∷ p.pushes ∷ []) in
    let m : List ℕ = columns 12 p.moves in
    omega (
      arith,
      length-append (f ++ m) (10 ∷ []),
      length-append f m,
      columns-length 12 p.moves,
      fields-length (p.makespan ∷ p.lower_bound ∷ p.level ∷ p.lifts ∷ p.pushes ∷ []),
    )

pub group-line-length : (p : Plan) → length (group_line p) ≡ 6 * (length p.group + 1) + 1
group-line-length p = line-length (length p.group ∷ p.group) ∙ omega arith

pub batch-listing-length : (k : Book) (p : Plan) (n : ℕ) → length (batch_listing k p n) ≡ 19 * n
unfolding batch_listing
batch-listing-length k p zero = refl
batch-listing-length k p (suc b) =
    let row : List ℕ = suc b ∷ at p.assignment (suc b) ∷ (batch k (suc b)).minutes ∷ [] in
    length-append (batch_listing k p b) (line row) ∙ omega (arith, batch-listing-length k p b, line-length row)

pub listing-length : (k : Book) (p : Plan)
    → length (listing k p) ≡ 43 + (6 * (length p.group + 1) + 1) + 19 * size k
unfolding listing
listing-length k p =
    length-append (first_line p ++ group_line p) (batch_listing k p (size k))
    ∙ omega (
      arith,
      length-append (first_line p) (group_line p),
      first-line-length p,
      group-line-length p,
      batch-listing-length k p (size k),
    )

-- ---- the texts over plain lists

pub rows-length : (minutes places : List ℕ) (n : ℕ) → length (rows_to minutes places n) ≡ 19 * n
unfolding rows_to
rows-length minutes places zero = refl
rows-length minutes places (suc b) =
    let row : List ℕ = suc b ∷ at places (suc b) ∷ at minutes (suc b) ∷ [] in
    length-append (rows_to minutes places b) (line row) ∙ omega (arith, rows-length minutes places b, line-length row)

-- lists that agree with a book's minutes and a plan's places give the plan's lines
pub rows_of : (k : Book) (p : Plan) (minutes places : List ℕ) (n : ℕ)
    → ((b : ℕ) → 1 ≤ b → b ≤ n → (at places b ≡ at p.assignment b) × (at minutes b ≡ (batch k b).minutes))
    → rows_to minutes places n ≡ batch_listing k p n
unfolding rows_to batch_listing
rows_of k p minutes places zero h = refl
rows_of k p minutes places (suc b) h =
    let e = h (suc b) (omega arith) (omega arith) in
    ap₂ (λ (s r : List ℕ). s ++ r)
    (rows_of k p minutes places b (λ i l u. h i l (omega arith)))
    (ap₂ (λ (x y : ℕ). line (suc b ∷ x ∷ y ∷ [])) e.0 e.1)

-- and the whole listing
pub listing-of : (k : Book) (p : Plan) (minutes places : List ℕ) → length minutes ≡ size k
    → ((b : ℕ) → 1 ≤ b → b ≤ size k → (at places b ≡ at p.assignment b) × (at minutes b ≡ (batch k b).minutes))
    → listing_text (without_places p) minutes places ≡ listing k p
unfolding listing_text listing
listing-of k p minutes places n h =
    ap (λ (r : List ℕ). first_line p ++ group_line p ++ r) (ap (rows_to minutes places) n ∙ rows_of k p minutes places (size k) h)

pub listing-text-length : (p : Plan) (minutes places : List ℕ)
    → length (listing_text p minutes places) ≡ 43 + (6 * (length p.group + 1) + 1) + 19 * length minutes
unfolding listing_text
listing-text-length p minutes places =
    let n = length minutes in
    length-append (first_line p ++ group_line p) (rows_to minutes places n)
    ∙ omega (
      arith,
      length-append (first_line p) (group_line p),
      first-line-length p,
      group-line-length p,
      rows-length minutes places n,
    )
