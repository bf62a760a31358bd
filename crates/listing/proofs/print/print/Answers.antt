-- The buffer is long enough for every listing, so what the host refuses is a sheet.
use native.Mathlib.Omega.{arith}
use Rattle.listing.proofs.Printing.{is-listed, RefusalPrinted, refusal-told, row-printed, program-short}
use Rattle.listing.proofs.print.print.Goals as goal

pub returns-then-h-eq0 : goal.returns-then-h-eq0
returns-then-h-eq0 c =
    let l = is-listed _ _ _ _ c.plan_into-h.ensures c.requires (omega arith) in
    record {
      value = l.count;
      upper_bound = omega (arith, l.count, program-short c.args.sheet.now);
      out_after = l.text;
    }

pub overflow_cast-h : goal.overflow_cast-h
overflow_cast-h c =
    let u : RefusalPrinted c.args.sheet.now c.args.out.now c.plan_into-h.result c.plan_into-h.new.listing =
    refusal-told _ _ _ _ c.plan_into-h.ensures c.requires (λ z. omega arith) in
    omega arith

pub put_pair-requires : goal.put_pair-requires
put_pair-requires c =
    let u : RefusalPrinted c.args.sheet.now c.args.out.now c.plan_into-h.result c.plan_into-h.new.listing =
    refusal-told _ _ _ _ c.plan_into-h.ensures c.requires (λ z. omega arith) in
    (omega arith, omega arith, omega arith)

pub returns : goal.returns
returns c =
    let u : RefusalPrinted c.args.sheet.now c.args.out.now c.plan_into-h.result c.plan_into-h.new.listing =
    refusal-told _ _ _ _ c.plan_into-h.ensures c.requires (λ z. omega arith) in
    let r = row-printed _ _ _ _ _ u c.put_pair.ensures in
    record { value = r.0; upper_bound = omega arith; out_after = r.1 }
