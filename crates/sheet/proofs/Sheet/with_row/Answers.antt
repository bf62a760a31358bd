-- Refused in the order of a batch line, or the batch is appended.
use mathlib.Core.Path.{ap}
use native.Mathlib.Omega.{arith}
use lib.ListN.{length}
use Rattle.rules.specs.Sheet.{is_instrument}
use Rattle.theory.proofs.Format.{good-list-is}
use Rattle.theory.proofs.Member.{every-mem}
use Rattle.sheet.proofs.Scan.{failed, passed, in-range}
use Rattle.sheet.proofs.Place.{instrument-most}
use Rattle.sheet.proofs.SoundArrays.{book-size, few-instruments, row_fits}
use Rattle.sheet.proofs.Padded.{length-padded}
use Rattle.sheet.proofs.Edits.{row-front, is-fit}
use Rattle.sheet.proofs.Rows.{row-length, row-mark, row-unfit, row-place, row_done}
use Rattle.std.proofs.lemmas.Result.{err_from_is_err_and}
use Rattle.sheet.proofs.Sheet.with_row.Goals as goal

pub returns-then-not-within : goal.returns-then-not-within
returns-then-not-within c = row-length c.args.self.now c.requires.fact_1 _ (failed c.within.ensures c.if-not-within.true-raw)

pub returns-then-mark-gt1 : goal.returns-then-mark-gt1
returns-then-mark-gt1 c =
    row-mark c.args.self.now c.requires.fact_1 _ (passed c.within.ensures c.if-not-within.false-raw) c.if-mark-gt1.true

pub judged_row-requires : goal.judged_row-requires
judged_row-requires c = few-instruments c.args.self.now c.requires.fact_1

pub returns-in_err-row : goal.returns-in_err-row
returns-in_err-row c =
    let p = err_from_is_err_and c.from_residual.result c.from_residual.ensures.1 in
    rw (p.1, p.2)
    (row-unfit c.args.self.now c.requires.fact_1 _ (passed c.within.ensures c.if-not-within.false-raw) (omega arith) c.in_err-row.ensures)

pub listed-requires : goal.listed-requires
listed-requires c =
    let f = is-fit c.args.self.now.m c.args.list.now c.in_ok-row.ensures in
    let l = (row_fits c.args.self.now.m c.args.list.now (few-instruments c.args.self.now c.requires.fact_1) f.good).0 in
    omega (arith, l, ap length f.entered, length-padded 24 c.args.list.now l)

pub returns-then-not-listed : goal.returns-then-not-listed
returns-then-not-listed c =
    row-place c.args.self.now c.requires.fact_1 _ (passed c.within.ensures c.if-not-within.false-raw) (omega arith)
    _ (is-fit c.args.self.now.m c.args.list.now c.in_ok-row.ensures) _ c.place_or-p.ensures
    (failed c.listed.ensures c.if-not-listed.true-raw)

pub overflow_cast-minutes-2 : goal.overflow_cast-minutes-2
overflow_cast-minutes-2 c =
    omega (arith, (in-range c.args.minutes 1440 (passed c.within.ensures c.if-not-within.false-raw)).1)

pub overflow_cast-p : goal.overflow_cast-p
overflow_cast-p c =
    let f = is-fit c.args.self.now.m c.args.list.now c.in_ok-row.ensures in
    let h = passed c.listed.ensures c.if-not-listed.false-raw in
    let r = row-front c.args.list.now _ f.entered in
    let e = every-mem (is_instrument c.args.self.now.m) c.args.list.now c.place_or-p.result
    (good-list-is c.args.self.now.m c.args.list.now f.good).ranged (rw r at h) in
    omega (arith, instrument-most c.args.self.now.m _ e, few-instruments c.args.self.now c.requires.fact_1)

pub overflow_cast-count : goal.overflow_cast-count
overflow_cast-count c =
    let f = is-fit c.args.self.now.m c.args.list.now c.in_ok-row.ensures in
    omega (arith, (row_fits c.args.self.now.m c.args.list.now (few-instruments c.args.self.now c.requires.fact_1) f.good).0)

pub append-requires : goal.append-requires
append-requires c = omega (arith, c.requires.fact_2, book-size c.args.self.now)

pub returns : goal.returns
returns c =
    row_done c.args.self.now c.requires.fact_1 _ (passed c.within.ensures c.if-not-within.false-raw) (omega arith)
    _ (is-fit c.args.self.now.m c.args.list.now c.in_ok-row.ensures) _ c.place_or-p.ensures
    _ (omega (arith, c.requires.fact_2, book-size c.args.self.now)) (passed c.listed.ensures c.if-not-listed.false-raw) c.append.ensures
