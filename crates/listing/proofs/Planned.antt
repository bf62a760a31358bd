-- A plan and the sheet's arrays, as the listing shows them.
use Prim.Native.Nat.{ℕ, ◌+◌, ◌*◌, ◌≤◌}
use mathlib.Core.Path.{◌≡◌, refl, ap, ◌∙◌}
use mathlib.Core.List.{List, map}
use native.Mathlib.Omega.{arith}
use lib.ListN.{length, take, length-map}
use lib.Seq.{take_at, length-take-le}
use Rattle.rules.specs.Sheet.{Book, Batch, size}
use Rattle.rules.specs.Instance.{instance}
use Rattle.rules.specs.Instance as In
use Rattle.rules.specs.Plan.{Plan, plan}
use Rattle.rules.specs.Run.{with_places, balance_book}
use Rattle.rules.specs.Listing.{plan_book, listing}
use Rattle.theory.proofs.Valid.{Permitted}
use Rattle.theory.proofs.Jobs.{batches-first, placed_at, placed-again}
use Rattle.theory.proofs.Planning.{balanced-permitted, rested-permitted}
use Rattle.theory.proofs.Runs.{settle-placed}
use Rattle.sheet.specs.declared.Sheet.{Sheet}
use Rattle.sheet.specs.Represent.{padded, sheet_of, book_of, Sound}
use Rattle.sheet.proofs.Padded.{length-padded}
use Rattle.sheet.proofs.SoundViews.{minutes-at, view-batches, view-valid, view-permitted, view-small, view-placed, view-placed-book}
use Rattle.scans.specs.declared.group.Members.{Members}
use Rattle.planner.specs.declared.Balanced.{Balanced}
use Rattle.planner.specs.declared.Settled.{Settled}
use Rattle.planner.specs.Calls.{balance_of, settle_of}
use Rattle.planner.proofs.Changes.{at-padded, at_front, places_in}
use Rattle.planner.proofs.Figures.{balance-fits, small-rest}
use Rattle.listing.specs.declared.plan.Planned.{Planned}
use Rattle.listing.specs.Planned.{IsPlanOf}
use Rattle.listing.specs.Rows.{without_places, figures_of, InColumns, listing_text}
use Rattle.listing.proofs.Lines.{listing-of, listing-length}

-- ---- arrays that are longer than what they hold

-- the listing from arrays
text_of : (k : Book) (p : Plan) → size k ≤ 200
    → listing_text (without_places p)
    (take (size k) (padded 200 (map (λ (b : Batch). b.minutes) k.batches))) (padded 200 (take (size k) p.assignment))
    ≡ listing k p
text_of k p h =
    let all = map (λ (b : Batch). b.minutes) k.batches in
    let long = length-padded 200 all (omega (arith, length-map k.batches (λ (b : Batch). b.minutes))) in
    listing-of k p _ _ (length-take-le (size k) (padded 200 all) (omega arith))
    (λ b l u. (at-padded 200 (take (size k) p.assignment) b ∙ at_front (size k) p.assignment b u, at_front (size k) _ b u ∙ minutes-at k b))

-- ---- a sound sheet, planned

module _ (s : Sheet) (v : Sound s) where
  middle-permitted : Permitted (instance (book_of s)) (balance_book (book_of s)).assignment
  middle-permitted = balanced-permitted (instance (book_of s)) (In.places (book_of s)) (view-valid s v) (view-permitted s v)

  new-permitted : Permitted (instance (book_of s)) (plan_book (book_of s)).assignment
  unfolding plan
  new-permitted = rested-permitted (view-valid s v) middle-permitted

  pub plan-fits : InColumns (plan_book (book_of s)) × (length (plan_book (book_of s)).group ≤ 24)
  unfolding plan
  plan-fits =
      let b = balance-fits s v in
      let z = small-rest (instance (book_of s)) (balance_book (book_of s)).assignment (view-valid s v) middle-permitted (view-small s v) in
      (record { makespan = z.makespan; bound = b.bound; level = b.level; lifts = b.lifts; pushes = b.pushes; moves = z.moves }, b.few)

  -- settle on the sheet that balance leaves
  settled-is : (b : Balanced) (z : Settled) → b ≡ balance_of (book_of s) → z ≡ settle_of (book_of b.sheet)
      → z ≡ record {
        makespan = (plan_book (book_of s)).makespan;
        moves = (plan_book (book_of s)).moves;
        sheet = sheet_of (with_places (book_of s) (plan_book (book_of s)).assignment);
      }
  unfolding balance_of settle_of plan
  settled-is b z e f =
      let k = book_of s in
      let x = (balance_book k).assignment in
      let again = placed-again k x (plan_book k).assignment (omega (arith, new-permitted.size, batches-first k)) in
      f ∙ rw (e, view-placed-book s v x middle-permitted, settle-placed k x middle-permitted, again)

  pub plan-made : (b : Balanced) (z : Settled) → b ≡ balance_of (book_of s) → z ≡ settle_of (book_of b.sheet)
      → IsPlanOf (book_of s) (record { balanced = b; settled = z })
  unfolding balance_of plan
  plan-made b z e f =
      let g = settled-is b z e f in
      record {
        makespan = ap (λ (q : Settled). q.makespan) g;
        bound = ap (λ (q : Balanced). q.bound) e;
        level = ap (λ (q : Balanced). q.level) e;
        lifts = ap (λ (q : Balanced). q.lifts) e;
        pushes = ap (λ (q : Balanced). q.pushes) e;
        moves = ap (λ (q : Settled). q.moves) g;
        group = ap (λ (q : Balanced). q.group) e;
        sheet = ap (λ (q : Settled). q.sheet) g;
      }

  -- the places that its new sheet holds
  new-places : places_in (sheet_of (with_places (book_of s) (plan_book (book_of s)).assignment))
      ≡ padded 200 (take (size (book_of s)) (plan_book (book_of s)).assignment)
  new-places =
      let k = book_of s in
      ap (λ (j : Book). padded 200 (map (λ (b : Batch). b.place) j.batches)) (view-placed-book s v _ new-permitted)
      ∙ ap (padded 200) (placed_at k.batches (plan_book k).assignment (omega (arith, new-permitted.size, batches-first k)))

  -- what the planner answers, with the arrays of the sheet and of the new sheet
  module _ (r : Planned) (e : IsPlanOf (book_of s) r) where
    pub plan-sound : Sound r.settled.sheet
    plan-sound = rw e.sheet (view-placed s v _ new-permitted)

    pub plan-group : r.balanced.group.size ≤ 24
    plan-group = rw e.group plan-fits.1

    pub plan-figures : figures_of r ≡ without_places (plan_book (book_of s))
    plan-figures =
        let group = (plan_book (book_of s)).group in
        rw (e.makespan, e.bound, e.level, e.lifts, e.pushes, e.moves, e.group, take_at group _ (length group) refl)

    pub plan-columns : InColumns (figures_of r)
    plan-columns =
        let c = plan-fits.0 in
        rw plan-figures
        (record { makespan = c.makespan; bound = c.bound; level = c.level; lifts = c.lifts; pushes = c.pushes; moves = c.moves })

    -- the listing's length, and its text
    pub listed-length : length (listing (book_of s) (plan_book (book_of s))) ≡ 43 + (6 * (r.balanced.group.size + 1) + 1) + 19 * size (book_of s)
    listed-length =
        listing-length (book_of s) (plan_book (book_of s)) ∙ omega (arith, ap (λ (g : Members). g.size) e.group)

    pub listed-text : (n : ℕ) (minutes places : List ℕ) → n ≡ size (book_of s)
        → minutes ≡ padded 200 (map (λ (b : Batch). b.minutes) (book_of s).batches) → places ≡ places_in r.settled.sheet
        → listing_text (figures_of r) (take n minutes) places ≡ listing (book_of s) (plan_book (book_of s))
    listed-text n minutes places f g h =
        let q : places ≡ padded 200 (take (size (book_of s)) (plan_book (book_of s)).assignment) = h ∙ ap places_in e.sheet ∙ new-places in
        rw (f, g, q, plan-figures) (text_of (book_of s) (plan_book (book_of s)) (view-batches s v))
