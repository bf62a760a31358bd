use Rattle.std.proofs.Common.{rules}
use borrow.Author.Tests.{tests}
use Rattle.scans.proofs.MarkWords.{marks-of}
use Rattle.scans.proofs.marks.marks_of.Goals as goal

pub returns : goal.returns
returns c =
    let m = c.from_fn.ensures.items in
    marks-of c.args.x _ m.long (λ k l. let e = m.at k 0 l in search (rules, tests))
