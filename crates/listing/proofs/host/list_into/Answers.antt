-- The plan's numbers fit their columns, and the text from the arrays is the listing of the sheet's book.
use Rattle.std.proofs.Common.{arith}
use Rattle.sheet.specs.Represent.{book_of}
use Rattle.sheet.proofs.SoundViews.{view-batches}
use Rattle.listing.proofs.Planned.{plan-sound, plan-group, plan-columns, listed-length, listed-text}
use Rattle.listing.proofs.Hosting.{listed-short, listed-long}
use Rattle.listing.proofs.host.list_into.Goals as goal

pub listing_length-requires : goal.listing_length-requires
listing_length-requires c =
    (plan-group _ c.requires _ c.plan-p.ensures, omega (arith, view-batches _ c.requires, c.batches-n.ensures))

pub returns-then-out-listing_length : goal.returns-then-out-listing_length
returns-then-out-listing_length c =
    rw c.from.ensures (listed-short (book_of c.args.sheet) _ (omega (arith, listed-length _ c.requires _ c.plan-p.ensures, c.batches-n.ensures)))

pub places-places-requires : goal.places-places-requires
places-places-requires c = plan-sound _ c.requires _ c.plan-p.ensures

pub put_listing-requires-clause-small : goal.put_listing-requires-clause-small
put_listing-requires-clause-small c = plan-columns _ c.requires _ c.plan-p.ensures

pub returns : goal.returns
returns c =
    listed-long (book_of c.args.sheet) _ _ _ _ (omega (arith, listed-length _ c.requires _ c.plan-p.ensures, c.batches-n.ensures))
    (listed-text _ c.requires _ c.plan-p.ensures _ _ _ c.batches-n.ensures c.minutes-minutes.ensures c.places-places.ensures)
    c.put_listing.ensures.value c.put_listing.ensures.out_after
