-- What is answered is in bounds: a text fits its buffer, and a refusal's numbers fit a line.
use Rattle.std.proofs.Common.{◌≡◌, ℕ, ◌≤◌, List, length, take, sym, arith}
use Rattle.std.proofs.lemmas.List.{length-take-le}
use Rattle.text.specs.Answer.{hosted_of}
use Rattle.text.specs.declared.Hosted.{Hosted}
use Rattle.files.proofs.Short.{front-short}
use Rattle.rules.specs.Worklist.{take_host}
use Rattle.journal.proofs.Printing.{Modest}
use Rattle.written.proofs.Taken.{take-modest}
use Rattle.banktake.proofs.main.Goals as goal
use Rattle.banktake.proofs.main.Goals.{then-read-eq-JOURNAL, else-read-eq-JOURNAL}

-- the first k bytes of a worklist's buffer are judged
modest : (k : ℕ) (w : List ℕ) → k ≤ length w → k ≤ 262143 → (m : ℕ) (l before after : List ℕ) (r : Hosted)
    → hosted_of r after ≡ take_host m l (take k w) before → Modest (length before) (hosted_of r after)
modest k w h s m l before after r e = rw e (take-modest m l (take k w) before (front-short k 999000 w h (omega arith)))

pub overflow_cast-row : goal.overflow_cast-row
overflow_cast-row c =
    let k = c.fitting.ensures in
    let m = modest _ c.read_file.new.text (omega (arith, k, c.in-Some.ensures)) k.1 _ _ _ _ _ c.take_into-taken.ensures in
    omega (arith, m.place)

pub refuse-requires : goal.refuse-requires
refuse-requires c =
    let k = c.fitting.ensures in
    let m = modest _ c.read_file.new.text (omega (arith, k, c.in-Some.ensures)) k.1 _ _ _ _ _ c.take_into-taken.ensures in (
      m.number,
      elim c.if-read-eq-JOURNAL.branch [
        | then-read-eq-JOURNAL w ↦ omega (arith, w.row-is)
        | else-read-eq-JOURNAL w ↦ omega (arith, w.row-is, m.place)
      ],
    )

pub slice_bounds-text-end : goal.slice_bounds-text-end
slice_bounds-text-end c =
    let k = c.fitting.ensures in
    let m = modest _ c.read_file.new.text (omega (arith, k, c.in-Some.ensures)) k.1 _ _ _ _ _ c.take_into-taken.ensures in
    omega (arith, m.few)

pub slice_bounds-put-end-2 : goal.slice_bounds-put-end-2
slice_bounds-put-end-2 c =
    let k = c.fitting.ensures in
    let m = modest _ c.read_file.new.text (omega (arith, k, c.in-Some.ensures)) k.1 _ _ _ _ _ c.take_into-taken.ensures in
    sym (length-take-le _ _ (omega (arith, m.few)))
