-- The numbers of a refusal fit its line, and the answers their buffer.
use native.Mathlib.Omega.{arith}
use Rattle.journal.proofs.Printing.{ran-modest, answers-printed, refusal-printed}
use Rattle.journal.proofs.print.print.Goals as goal

pub returns-then-r-eq0 : goal.returns-then-r-eq0
returns-then-r-eq0 c =
    let a = c.args in
    record {
      upper_bound = (ran-modest a.sheet.now a.journal.now _ c.requires.1 _ _ c.run_into-r.ensures).few;
      out_after = answers-printed a.sheet.now a.journal.now a.out.now c.requires.1 _ _ c.run_into-r.ensures c.if-r-eq0.true;
    }

pub overflow_cast-r : goal.overflow_cast-r
overflow_cast-r c =
    omega (arith, (ran-modest c.args.sheet.now c.args.journal.now _ c.requires.1 _ _ c.run_into-r.ensures).place)

pub put_pair-requires : goal.put_pair-requires
put_pair-requires c =
    let told = ran-modest c.args.sheet.now c.args.journal.now _ c.requires.1 _ _ c.run_into-r.ensures in
    (omega arith, told.number, told.place)

pub returns : goal.returns
returns c =
    let a = c.args in
    record {
      upper_bound = omega (arith, c.requires.0);
      out_after = refusal-printed a.sheet.now a.journal.now a.out.now c.requires.1 _ _ c.run_into-r.ensures c.if-r-eq0.false _ c.put_pair.ensures;
    }
