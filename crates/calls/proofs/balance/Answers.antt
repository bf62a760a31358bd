-- The reply is the core's, and the list is filled from its change; a refusal leaves the list as it was.
use mathlib.Core.Path.{refl}
use Rattle.std.proofs.lemmas.Result.{err_from_is_err_and}
use Rattle.sheet.specs.Represent.{book_of}
use Rattle.calls.proofs.Replies.{balance-refused, balance-made}
use Rattle.calls.proofs.balance.Goals as goal

pub returns-in_err-reply : goal.returns-in_err-reply
returns-in_err-reply c =
    let p = err_from_is_err_and c.from_residual.result c.from_residual.ensures.1 in
    rw (p.1, p.2) (balance-refused (book_of c.args.sheet) c.args.moves.now _ c.in_err-reply.ensures)

pub fill-requires : goal.fill-requires
fill-requires c = let h = c.in_ok-reply.ensures.change _ refl in (h.few, h.room)

pub returns : goal.returns
returns c = balance-made (book_of c.args.sheet) c.args.moves.now _ _ c.in_ok-reply.ensures c.fill.ensures
