-- The kind, the call, and then the LF.
use Prim.Native.Nat.{ℕ, ◌+◌, ◌≤◌}
use mathlib.Core.Path.{◌≡◌, refl, sym, ap, ◌∙◌}
use mathlib.Core.Bool.{true, false}
use mathlib.Core.List.{List}
use lib.ListN.{length, drop}
use Rattle.rules.specs.Read.{gives, end_of_line, number_at}
use Rattle.rules.specs.Journal.{call_at, call_line}
use Rattle.fields.proofs.Reading.{end-room, end-missing, end-there, next-at}
use Rattle.std.proofs.Common.{Some, None}
use Rattle.fields.specs.Columns.{ends_line}
use Rattle.journal.specs.declared.entry.Call.{Call}
use Rattle.journal.specs.Entry.{call_of, entry_as}
use Rattle.journal.proofs.Calls.{call-leaves, CallRead, given, then-none}
use Rattle.journal.proofs.entry.entry_at.Goals as goal

-- the kind and the call were read, and the LF is there, or not
module _ (s : List ℕ) (at kind : ℕ) (e : Call) (n : ℕ) (k : (number_at (drop at s) ≡ gives kind (drop (at + 6) s)) × (at + 6 ≤ length s))
    (q : Some (e, n) ≡ entry_as (length s) (call_at kind (drop (at + 6) s))) where
  read : CallRead s (at + 6) 0 (call_at kind (drop (at + 6) s)) e n
  read = given s (at + 6) 0 (call_at kind (drop (at + 6) s)) e n k.1 (call-leaves kind (drop (at + 6) s)) q

  on : call_line (drop at s) ≡ end_of_line (drop n s) (λ r. gives read.call r)
  unfolding call_line
  on = rw (k.0, read.part)

  ended : ends_line (drop n s) ≡ true → Some (e, n + 1) ≡ entry_as (length s) (call_line (drop at s))
  ended h =
      ap (λ (x : Call). Some (x, n + 1)) read.same
      ∙ ap (λ (i : ℕ). Some (call_of read.call, i)) (next-at s (n + 1) (end-room s n h))
      ∙ ap (entry_as (length s)) (sym (on ∙ end-there s n (λ r. gives read.call r) h))

  not-ended : ends_line (drop n s) ≡ false → None ≡ entry_as (length s) (call_line (drop at s))
  not-ended h = ap (entry_as (length s)) (sym (on ∙ end-missing s n (λ r. gives read.call r) h))

pub returns-in_err-kind : goal.returns-in_err-kind
unfolding call_line
returns-in_err-kind c = rw (c.from_residual.ensures, c.in_err-kind.ensures) refl

pub returns-in_err-call : goal.returns-in_err-call
unfolding call_line
returns-in_err-call c =
    rw (c.from_residual-in_err-call.ensures, c.in_ok-kind.ensures.0)
    (then-none (length c.args.s.now) (call_at c.in_ok-kind.kind (drop (c.args.at + 6) c.args.s.now)) _ c.in_err-call.ensures)

pub returns-then-ends_at : goal.returns-then-ends_at
returns-then-ends_at c =
    let k = c.in_ok-kind in
    ended c.args.s.now c.args.at k.kind c.in_ok-call.call c.in_ok-call.end k.ensures c.in_ok-call.ensures (sym c.if-ends_at.ensures)

pub returns-else-ends_at : goal.returns-else-ends_at
returns-else-ends_at c =
    let k = c.in_ok-kind in
    not-ended c.args.s.now c.args.at k.kind c.in_ok-call.call c.in_ok-call.end k.ensures c.in_ok-call.ensures (sym c.if-ends_at.ensures)
