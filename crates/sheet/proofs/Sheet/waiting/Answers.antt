-- A batch's number is one more than its index.
use native.Mathlib.Omega.{arith}
use Rattle.sheet.proofs.Scan.{passed, in-range}
use Rattle.sheet.proofs.Sheet.waiting.Goals as goal

pub overflow_sub-b : goal.overflow_sub-b
overflow_sub-b c = (in-range _ _ (passed c.within.ensures c.if-not-within.false-raw)).0

pub bounds-self-b : goal.bounds-self-b
bounds-self-b c =
    let r = in-range c.args.batch c.args.self.now.n (passed c.within.ensures c.if-not-within.false-raw) in
    omega (arith, r.0, r.1, c.requires)

pub overflow_sub-result : goal.overflow_sub-result
overflow_sub-result c = (in-range _ _ (passed c.within.ensures c.if-not-within.false-raw)).0
