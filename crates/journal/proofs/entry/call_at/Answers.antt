-- By the kind: the numbers that it has.
use Prim.Native.Nat.{◌+◌}
use mathlib.Core.Path.{◌≡◌, refl}
use native.Mathlib.Omega.{arith}
use Rattle.std.proofs.Common.{tests, rules}
use Rattle.fields.proofs.Reading.{next-at}
use Rattle.rules.specs.Edit.{add, withdraw, requalify, move, start}
use Rattle.rules.specs.Run.{editing, trying, balancing, settling}
use Rattle.rules.specs.Journal.{call_at, add_at, withdraw_at, requalify_at, move_at, trial_at, balance_at, settle_at, start_at}
use Rattle.journal.specs.declared.entry.Call.TheVariants.{Add, Requalify}
use Rattle.journal.proofs.Calls.{one-number, none-there, then-list}
use Rattle.journal.proofs.entry.call_at.Goals as goal

pub returns-in_err-minutes-in-1 : goal.returns-in_err-minutes-in-1
unfolding call_at add_at
returns-in_err-minutes-in-1 c = rw (c.from_residual.ensures, c.in-1.is) (none-there c.args.s.now c.args.at _ c.in_err-minutes-in-1.ensures)

pub returns-in_err-list-in-1 : goal.returns-in_err-list-in-1
unfolding call_at add_at
returns-in_err-list-in-1 c =
    let n = c.in_ok-minutes-in-1 in
    rw (c.from_residual-in_err-list-in-1.ensures, c.in-1.is, n.ensures.0)
    (then-list _ _ _ (λ l. Add n.minutes l) (λ l. editing (add n.minutes l)) c.in_err-list-in-1.ensures (λ l. refl))

pub returns-in_ok-list-in-1 : goal.returns-in_ok-list-in-1
unfolding call_at add_at
returns-in_ok-list-in-1 c =
    let n = c.in_ok-minutes-in-1 in
    rw (c.in-1.is, n.ensures.0) (then-list _ _ _ (λ l. Add n.minutes l) (λ l. editing (add n.minutes l)) c.in_ok-list-in-1.ensures (λ l. refl))

pub returns-in_err-batch-in-2 : goal.returns-in_err-batch-in-2
unfolding call_at withdraw_at
returns-in_err-batch-in-2 c =
    rw (c.from_residual-in_err-batch-in-2.ensures, c.in-2.is) (none-there c.args.s.now c.args.at _ c.in_err-batch-in-2.ensures)

pub returns-in_ok-batch-in-2 : goal.returns-in_ok-batch-in-2
unfolding call_at withdraw_at
returns-in_ok-batch-in-2 c =
    let n = c.in_ok-batch-in-2 in rw c.in-2.is (one-number c.args.s.now c.args.at n.batch (λ b. editing (withdraw b)) n.ensures)

pub returns-in_err-batch-in-3 : goal.returns-in_err-batch-in-3
unfolding call_at requalify_at
returns-in_err-batch-in-3 c =
    rw (c.from_residual-in_err-batch-in-3.ensures, c.in-3.is) (none-there c.args.s.now c.args.at _ c.in_err-batch-in-3.ensures)

pub returns-in_err-list-in-3 : goal.returns-in_err-list-in-3
unfolding call_at requalify_at
returns-in_err-list-in-3 c =
    let n = c.in_ok-batch-in-3 in
    rw (c.from_residual-in_err-list-in-3.ensures, c.in-3.is, n.ensures.0)
    (then-list _ _ _ (λ l. Requalify n.batch l) (λ l. editing (requalify n.batch l)) c.in_err-list-in-3.ensures (λ l. refl))

pub returns-in_ok-list-in-3 : goal.returns-in_ok-list-in-3
unfolding call_at requalify_at
returns-in_ok-list-in-3 c =
    let n = c.in_ok-batch-in-3 in
    rw (c.in-3.is, n.ensures.0)
    (then-list _ _ _ (λ l. Requalify n.batch l) (λ l. editing (requalify n.batch l)) c.in_ok-list-in-3.ensures (λ l. refl))

pub returns-in_err-batch-in-4 : goal.returns-in_err-batch-in-4
unfolding call_at move_at
returns-in_err-batch-in-4 c =
    rw (c.from_residual-in_err-batch-in-4.ensures, c.in-4.is) (none-there c.args.s.now c.args.at _ c.in_err-batch-in-4.ensures)

pub returns-in_err-instrument-in-4 : goal.returns-in_err-instrument-in-4
unfolding call_at move_at
returns-in_err-instrument-in-4 c =
    rw (c.from_residual-in_err-instrument-in-4.ensures, c.in-4.is, c.in_ok-batch-in-4.ensures.0)
    (none-there c.args.s.now (c.args.at + 6) _ c.in_err-instrument-in-4.ensures)

pub returns-in_ok-instrument-in-4 : goal.returns-in_ok-instrument-in-4
unfolding call_at move_at
returns-in_ok-instrument-in-4 c =
    let n = c.in_ok-batch-in-4 in
    let i = c.in_ok-instrument-in-4 in
    let end : c.args.at + 12 ≡ c.args.at + 6 + 6 = omega arith in
    rw (c.in-4.is, n.ensures.0, end) (one-number c.args.s.now (c.args.at + 6) i.instrument (λ j. editing (move n.batch j)) i.ensures)

pub returns-in-5 : goal.returns-in-5
unfolding call_at
returns-in-5 c = rw (c.in-5.is, ← next-at c.args.s.now c.args.at c.requires) refl

pub returns-in_err-level-in-6 : goal.returns-in_err-level-in-6
unfolding call_at trial_at
returns-in_err-level-in-6 c =
    rw (c.from_residual-in_err-level-in-6.ensures, c.in-6.is) (none-there c.args.s.now c.args.at _ c.in_err-level-in-6.ensures)

pub returns-in_ok-level-in-6 : goal.returns-in_ok-level-in-6
unfolding call_at trial_at
returns-in_ok-level-in-6 c = let n = c.in_ok-level-in-6 in rw c.in-6.is (one-number c.args.s.now c.args.at n.level (trying) n.ensures)

pub returns-in_err-entries-in-7 : goal.returns-in_err-entries-in-7
unfolding call_at balance_at
returns-in_err-entries-in-7 c =
    rw (c.from_residual-in_err-entries-in-7.ensures, c.in-7.is) (none-there c.args.s.now c.args.at _ c.in_err-entries-in-7.ensures)

pub returns-in_ok-entries-in-7 : goal.returns-in_ok-entries-in-7
unfolding call_at balance_at
returns-in_ok-entries-in-7 c = let n = c.in_ok-entries-in-7 in rw c.in-7.is (one-number c.args.s.now c.args.at n.entries (balancing) n.ensures)

pub returns-in_err-entries-in-8 : goal.returns-in_err-entries-in-8
unfolding call_at settle_at
returns-in_err-entries-in-8 c =
    rw (c.from_residual-in_err-entries-in-8.ensures, c.in-8.is) (none-there c.args.s.now c.args.at _ c.in_err-entries-in-8.ensures)

pub returns-in_ok-entries-in-8 : goal.returns-in_ok-entries-in-8
unfolding call_at settle_at
returns-in_ok-entries-in-8 c = let n = c.in_ok-entries-in-8 in rw c.in-8.is (one-number c.args.s.now c.args.at n.entries (settling) n.ensures)

pub returns-in_err-batch-in-9 : goal.returns-in_err-batch-in-9
unfolding call_at start_at
returns-in_err-batch-in-9 c =
    rw (c.from_residual-in_err-batch-in-9.ensures, c.in-9.is) (none-there c.args.s.now c.args.at _ c.in_err-batch-in-9.ensures)

pub returns-in_ok-batch-in-9 : goal.returns-in_ok-batch-in-9
unfolding call_at start_at
returns-in_ok-batch-in-9 c = let n = c.in_ok-batch-in-9 in rw c.in-9.is (one-number c.args.s.now c.args.at n.batch (λ b. editing (start b)) n.ensures)

pub returns-in_default : goal.returns-in_default
unfolding call_at
returns-in_default c = search (tests, rules)
