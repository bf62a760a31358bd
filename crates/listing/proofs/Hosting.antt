-- What the host gets, case by case.
use Prim.Native.Nat.{ℕ, ◌≤◌, ◌<◌}
use mathlib.Core.Path.{◌≡◌, sym, ap, ap₂, ◌∙◌}
use mathlib.Core.List.{List, ◌++◌}
use lib.ListN.{length, drop}
use Rattle.rules.specs.Sheet.{Book}
use Rattle.rules.specs.Read.{accepted, read}
use Rattle.rules.specs.Lent.{at_front, into_buffer}
use Rattle.rules.specs.Listing.{plan_book, listing, host}
use Rattle.sheet.specs.declared.Fault.{Fault}
use Rattle.sheet.specs.Answers.{number_of}
use Rattle.text.proofs.Answer.{into-short, into-long}
use Rattle.listing.specs.Host.{listed_into}
use Rattle.sheet.proofs.Accepted.{Refused}

-- a buffer shorter than the listing
pub listed-short : (k : Book) (buffer : List ℕ) → length buffer < length (listing k (plan_book k))
    → record { refusal = 9; line = 0; length = 0; buffer = buffer } ≡ listed_into k buffer
unfolding listed_into
listed-short k buffer h = into-short (listing k (plan_book k)) buffer h

-- a buffer that is long enough
pub listed-long : (k : Book) (buffer text after : List ℕ) (c : ℕ) → length (listing k (plan_book k)) ≤ length buffer
    → text ≡ listing k (plan_book k) → c ≡ length text → after ≡ at_front text buffer
    → record { refusal = 0; line = 0; length = c; buffer = after } ≡ listed_into k buffer
unfolding listed_into
listed-long k buffer text after c h e f g =
    into-long (listing k (plan_book k)) buffer c after h (f ∙ ap length e)
    (g ∙ ap₂ (λ (t : List ℕ) (i : ℕ). t ++ drop i buffer) e (sym f))

-- a sheet that is refused
pub host-refused : (s buffer : List ℕ) (f : Fault) (c : ℕ) → Refused (read s) f → c ≡ number_of f.refusal
    → record { refusal = c; line = f.line; length = 0; buffer = buffer } ≡ host s buffer
unfolding host into_buffer
host-refused s buffer f c r e = rw (r.said, e, r.coded)

-- a sheet that is read
pub host-listed : (s buffer : List ℕ) (k : Book) → read s ≡ accepted k → listed_into k buffer ≡ host s buffer
unfolding host listed_into
host-listed s buffer k e = rw e
