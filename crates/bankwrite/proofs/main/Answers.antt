-- What is answered is in bounds: its numbers fit a line, and its text the buffer.
use Rattle.std.proofs.Common.{◌≡◌, ℕ, ◌≤◌, List, length, take, sym, arith}
use Rattle.std.proofs.lemmas.List.{length-take-le}
use Rattle.text.specs.Answer.{hosted_of}
use Rattle.text.specs.declared.Hosted.{Hosted}
use Rattle.files.proofs.Short.{front-short}
use Rattle.rules.specs.Journal.{write_host}
use Rattle.journal.proofs.Printing.{Modest}
use Rattle.written.proofs.Bounded.{write-modest}
use Rattle.bankwrite.proofs.main.Goals as goal

-- the first n bytes of a journal's buffer, which was read into
modest : (n : ℕ) (old j : List ℕ) → 262144 ≡ length old → length j ≡ length old → n ≤ length old → (r : Hosted) (s before after : List ℕ)
    → hosted_of r after ≡ write_host s (take n j) before → Modest (length before) (hosted_of r after)
modest n old j size same h r s before after e = rw e (write-modest s (take n j) before (front-short n 999999 j (omega arith) (omega arith)))

pub overflow_cast-r : goal.overflow_cast-r
overflow_cast-r c =
    let m =
    modest _ _ _ c.buffer-journal.ensures c.read_both.auto.journal c.in-Some.ensures.1 _ _ _ _ c.write_into-r.ensures in
    omega (arith, m.place)

pub refuse-requires-then-r-ne0 : goal.refuse-requires-then-r-ne0
refuse-requires-then-r-ne0 c =
    let m =
    modest _ _ _ c.buffer-journal.ensures c.read_both.auto.journal c.in-Some.ensures.1 _ _ _ _ c.write_into-r.ensures in
    (m.number, m.place)

pub slice_bounds-text-end : goal.slice_bounds-text-end
slice_bounds-text-end c =
    let m =
    modest _ _ _ c.buffer-journal.ensures c.read_both.auto.journal c.in-Some.ensures.1 _ _ _ _ c.write_into-r.ensures in
    omega (arith, m.few, c.write_into-r.auto.out)

pub slice_bounds-put-end-2 : goal.slice_bounds-put-end-2
slice_bounds-put-end-2 c =
    let m =
    modest _ _ _ c.buffer-journal.ensures c.read_both.auto.journal c.in-Some.ensures.1 _ _ _ _ c.write_into-r.ensures in
    sym (length-take-le _ _ (omega (arith, m.few, c.write_into-r.auto.out)))
