-- None of the lines has more than 1,555 bytes.
use Rattle.std.proofs.Common.{◌≡◌, sum_by, rules, arith}
use Rattle.std.proofs.lemmas.List.Sums.{sum_by-le}
use Rattle.std.proofs.lemmas.Grind.{get_or_default_zero}
use Rattle.written.specs.Lines.{line_length}
use Rattle.written.proofs.write.lines_length.Goals as goal

pub returns : goal.returns
returns c =
    let counts = c.args.counts.now in
    let e : c.sum.result ≡ sum_by line_length counts = search rules in
    let most = sum_by-le line_length 1555 counts (λ k d h. omega (arith, get_or_default_zero counts k d h, c.type_inv.counts k)) in
    (e, omega arith)
