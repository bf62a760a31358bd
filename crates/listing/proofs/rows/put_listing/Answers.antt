-- The three parts, one behind the other.
use Rattle.std.proofs.Common.{ℕ, ◌+◌, ◌*◌, List, length, drop, ◌++◌, ◌≤◌, length-take, refl, sym, ap, ◌∙◌, arith}
use Rattle.rules.specs.Listing.{first_line, group_line}
use Rattle.listing.specs.Rows.{figures_of, rows_to, listing_text}
use Rattle.text.proofs.Pasted.{wrote_one, wrote-more, wrote-start}
use Rattle.listing.proofs.Lines.{first-line-length, group-line-length, rows-length, listing-text-length}
use Rattle.listing.proofs.rows.put_listing.Goals as goal

pub returns-clause-value : goal.returns-clause-value
returns-clause-value c = c.listing_length.ensures ∙ sym (listing-text-length (figures_of c.args.p.now) c.args.minutes.now c.args.places.now)

pub returns-clause-out_after : goal.returns-clause-out_after
unfolding listing_text
returns-clause-out_after c =
    let out = c.args.out.now in
    let group = c.args.p.now.balanced.group in
    let p = figures_of c.args.p.now in
    let minutes = c.args.minutes.now in
    let rows : List ℕ = rows_to minutes c.args.places.now (length minutes) in
    let m = length p.group in
    let few : m ≤ group.size = omega (arith, length-take group.size group.list) in
    let all = listing-text-length p minutes c.args.places.now in
    let w = wrote_one out 0 (first_line p) 43 (first-line-length p) (omega arith) c.put_first_line.ensures in
    let x =
    wrote-more (group_line p) 43 (6 * (m + 1) + 1) (43 + (6 * (m + 1) + 1)) w refl refl (group-line-length p) (omega arith)
    c.put_list.ensures in
    let y =
    wrote-more rows (43 + (6 * (m + 1) + 1)) (19 * length minutes) (43 + (6 * (m + 1) + 1) + 19 * length minutes) x (omega arith)
    refl (rows-length minutes c.args.places.now (length minutes)) (omega arith) c.put_batch_lines.ensures in
    let text : List ℕ = first_line p ++ group_line p ++ rows in
    wrote-start y refl ∙ ap (λ (i : ℕ). text ++ drop i out) (sym all)
