-- What is due of a sheet that is read.
use Rattle.std.specs.Prelude.{ℕ, List}
use Rattle.rules.specs.Sheet.{Book}
use Rattle.rules.specs.Read.{accepted}
use Rattle.rules.specs.Lent.{Hosted, into_buffer}
use Rattle.rules.specs.Listing.{listing_due}

-- its plan's listing in the buffer, or 9
unfoldable pub listed_into : Book → List ℕ → Hosted
listed_into k buffer = into_buffer (listing_due (accepted k)) buffer
