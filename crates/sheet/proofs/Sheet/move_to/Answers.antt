-- Refused in the order of the rules, or the place is entered.
use native.Mathlib.Omega.{arith}
use mathlib.Core.Path.{◌≡◌}
use mathlib.Core.Bool.{true}
use lib.ListN.{length}
use borrow.Author.Rules.{rules}
use Rattle.rules.specs.Fold.{mem}
use Rattle.sheet.specs.Represent.{batch_at}
use Rattle.sheet.proofs.Answered.{edit-answered}
use Rattle.sheet.proofs.SoundArrays.{few-batches, list-size, small-place}
use Rattle.sheet.proofs.Scan.{failed, passed}
use Rattle.sheet.proofs.Edits.{is_free, move-none, move-strange, move-done}
use Rattle.std.proofs.lemmas.Result.{err_from_is_err_and}
use Rattle.sheet.proofs.Sheet.move_to.Goals as goal

pub waiting-requires : goal.waiting-requires
waiting-requires c = few-batches c.args.self.now c.requires

pub returns-in_err-at : goal.returns-in_err-at
returns-in_err-at c =
    let p = err_from_is_err_and c.from_residual.result c.from_residual.ensures.1 in
    rw (p.1, p.2)
    (edit-answered (move-none c.args.self.now c.requires c.args.batch c.args.instrument c.in_err-at.ensures))

pub bounds-self-at : goal.bounds-self-at
bounds-self-at c = (is_free c.args.self.now c.requires c.args.batch c.in_ok-at.ensures).small

pub listed-requires : goal.listed-requires
listed-requires c =
    let f = is_free c.args.self.now c.requires c.args.batch c.in_ok-at.ensures in
    let l : length c.args.self.now.lists ≡ 4800 = search rules in
    omega (arith, (list-size c.args.self.now c.requires _ f.inside).1, f.small)

pub returns-then-not-listed : goal.returns-then-not-listed
returns-then-not-listed c =
    edit-answered (move-strange c.args.self.now c.requires c.args.batch c.args.instrument
    (is_free c.args.self.now c.requires c.args.batch c.in_ok-at.ensures) (failed c.listed.ensures c.if-not-listed.true-raw))

pub overflow_cast-self : goal.overflow_cast-self
overflow_cast-self c =
    let f = is_free c.args.self.now c.requires c.args.batch c.in_ok-at.ensures in
    let h : mem c.args.instrument (batch_at c.args.self.now c.in_ok-at.at).list ≡ true = passed c.listed.ensures c.if-not-listed.false-raw in
    omega (arith, small-place c.args.self.now c.requires c.args.batch c.args.instrument f.number (rw f.at at h))

pub bounds-self-at-2 : goal.bounds-self-at-2
bounds-self-at-2 c = (is_free c.args.self.now c.requires c.args.batch c.in_ok-at.ensures).small

pub returns : goal.returns
returns c =
    edit-answered (move-done c.args.self.now c.requires c.args.batch c.args.instrument
    (is_free c.args.self.now c.requires c.args.batch c.in_ok-at.ensures) (passed c.listed.ensures c.if-not-listed.false-raw))
