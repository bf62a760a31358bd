-- The sheet that reading hands on is sound, and a refusal is the rules'.
use Rattle.std.proofs.Common.{◌≡◌, Err, refl, ◌∙◌, rules}
use Rattle.sheet.proofs.Accepted.{is-accepted, is-refused}
use Rattle.listing.proofs.Hosting.{host-refused, host-listed}
use Rattle.listing.proofs.host.read_and_list.Goals as goal

pub returns-in_err-sheet : goal.returns-in_err-sheet
returns-in_err-sheet c =
    let e : c.from_residual.result ≡ Err c.in_err-sheet.field-0.0 = search rules in
    rw e (host-refused _ _ _ _ (is-refused _ _ c.in_err-sheet.ensures.is) refl)

pub list_into-requires : goal.list_into-requires
list_into-requires c = (is-accepted _ _ c.in_ok-sheet.ensures.is).sound

pub returns : goal.returns
returns c = c.list_into.ensures ∙ host-listed _ _ _ (is-accepted _ _ c.in_ok-sheet.ensures.is).book
