-- A buffer that is too short, or the file from the sheet's arrays.
use Rattle.std.proofs.Common.{ℕ, ◌++◌, drop, arith, ap, sym, ◌∙◌}
use Rattle.rules.specs.Rewrite.{written}
use Rattle.sheet.specs.Represent.{book_of}
use Rattle.sheet.proofs.SoundViews.{view-calibrated}
use Rattle.text.proofs.Answer.{into-short, into-long}
use Rattle.text.proofs.Numbers.{put_line_same}
use Rattle.written.proofs.Writing.{file-length, calibrations-in, calibrations-small, file-wrote}
use Rattle.written.proofs.write.write.Goals as goal

pub returns-then-out-length : goal.returns-then-out-length
returns-then-out-length c =
    let file = file-length c.args.sheet c.requires _ _ _ _ c.instruments-m.ensures c.batches-n.ensures c.counts.ensures c.lines_length.ensures.0 in
    rw c.from.ensures (into-short (written (book_of c.args.sheet)) c.args.out.now (omega (arith, file.0, c.if-out-length.true)))

pub slice_bounds-put_line-end : goal.slice_bounds-put_line-end
slice_bounds-put_line-end c =
    let shown = calibrations-in c.args.sheet c.requires _ _ c.instruments-m.ensures c.calibrations-calibrations.ensures in
    rw shown (c.instruments-m.ensures ∙ sym (view-calibrated c.args.sheet c.requires))

pub put_line-requires-clause-six_columns : goal.put_line-requires-clause-six_columns
put_line-requires-clause-six_columns c =
    calibrations-small c.args.sheet c.requires _ _ c.instruments-m.ensures c.calibrations-calibrations.ensures

pub put_batches-requires-clause-room : goal.put_batches-requires-clause-room
put_batches-requires-clause-room c =
    let file = file-length c.args.sheet c.requires _ _ _ _ c.instruments-m.ensures c.batches-n.ensures c.counts.ensures c.lines_length.ensures.0 in
    omega (arith, file.1)

pub returns : goal.returns
returns c =
    let k = book_of c.args.sheet in
    let m = c.instruments-m.ensures in
    let room = c.if-out-length.false in
    let file = file-length c.args.sheet c.requires _ _ _ _ m c.batches-n.ensures c.counts.ensures c.lines_length.ensures.0 in
    let shown = calibrations-in c.args.sheet c.requires _ _ m c.calibrations-calibrations.ensures in
    let text =
    file-wrote k c.args.out.now _ _ _ (view-calibrated c.args.sheet c.requires) (omega (arith, file.0))
    (rw (m, c.batches-n.ensures) at c.put_pair.ensures)
    (rw shown at (put_line_same c.put_line.ensures))
    (rw m at c.put_batches.ensures) in
    into-long (written k) c.args.out.now _ _ (omega (arith, file.0)) (sym file.0) (text ∙ ap (λ (n : ℕ). written k ++ drop n c.args.out.now) file.0)
