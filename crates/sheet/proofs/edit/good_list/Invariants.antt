-- The invariant: what is left passes, and names no number twice, exactly where the whole does.
use Rattle.sheet.proofs.Scan.{GoodSo}
use Rattle.sheet.proofs.edit.good_list.Given as goal

abbrev pub invariant-loop-i : goal.invariant-loop-i
invariant-loop-i l = GoodSo l.m l.list l.i
