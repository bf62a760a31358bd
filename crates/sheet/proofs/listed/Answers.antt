use Rattle.std.proofs.Common.{◌≡◌, ◌+◌, ◌-◌, ◌≤◌, ◌∙◌, sym, ap, eqb, take, drop, rules, arith}
use lib.Seq.{get_or-take, get_or-drop, length-take-le}
use lib.ListN.{length-drop}
use Rattle.std.specs.List.{list_any}
use Rattle.rules.specs.Fold.{mem}
use Rattle.sheet.proofs.Scan.{mem-any, too-large}
use Rattle.sheet.proofs.listed.Goals as goal

pub returns-in-Ok : goal.returns-in-Ok
returns-in-Ok c =
    let all = drop c.args.from c.args.lists.now in
    let e : c.args.from + c.args.count - c.args.from ≡ c.args.count = omega arith in
    let q : c.in-Ok.x ≡ c.args.x = search rules in
    c.contains.ensures.value
    ∙ ap (λ k. list_any (λ y. eqb y c.in-Ok.x) (take k all)) e
    ∙ sym (mem-any c.in-Ok.x (take c.args.count all))
    ∙ ap (λ x. mem x (take c.args.count all)) q

pub returns-in-Err : goal.returns-in-Err
returns-in-Err c =
    let all = drop c.args.from c.args.lists.now in
    let q : 256 ≤ c.args.x = search rules in
    sym (too-large c.args.x 256 q (take c.args.count all) (λ i h.
    let n = length-take-le c.args.count all (omega (arith, length-drop c.args.from c.args.lists.now)) in
    omega (arith, get_or-take c.args.count all i 0 (omega (arith, n)), get_or-drop c.args.from c.args.lists.now i 0, c.type_inv.lists (c.args.from + i))))
