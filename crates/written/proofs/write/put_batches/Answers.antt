use Rattle.std.proofs.Common.{arith}
use Rattle.text.proofs.Pasted.{wrote_none}
use Rattle.written.proofs.Lines.{lines_to, lines_more, line_more, list_length, list-part}
use Rattle.written.proofs.Writing.{held}
use Rattle.written.proofs.write.put_batches.Goals as goal

pub loop-b-init : goal.loop-b-init
unfolding lines_to
loop-b-init c = record {
  written = wrote_none c.args.out.now c.args.start (omega arith);
  end = omega arith;
  arrays =
      held c.args.sheet c.requires.sound _ _ _ _ _ _ c.batches-b-end.ensures c.minutes-minutes.ensures c.places-places.ensures
      c.started-started.ensures c.counts-counts.ensures c.lists-lists.ensures;
}

pub put_batch-requires : goal.put_batch-requires
put_batch-requires c =
    let i = c.loop-b.invariant in
    let h = i.arrays in
    let b = c.loop-b.b in
    let counts = c.counts-counts.result in
    let more = line_more counts b c.batches-b-end.result h.each c.loop-b-test.true in
    rw (c.from.ensures, list-part c.lists-lists.result b _, list_length b h.each c.loop-b-test.true)
    (omega (arith, more.0, more.1, i.end, h.bytes, c.requires.room), h.marks b, h.each.narrow b c.loop-b-test.true)

pub loop-b-preserved : goal.loop-b-preserved
loop-b-preserved c =
    let i = c.loop-b.invariant in
    let h = i.arrays in
    let b = c.loop-b.b in
    let counts = c.counts-counts.result in
    let more = line_more counts b c.batches-b-end.result h.each c.loop-b-test.true in
    record {
      written =
          lines_more c.minutes-minutes.result c.places-places.result c.started-started.result counts c.lists-lists.result b c.loop-b.at h.each
          c.loop-b-test.true i.written i.end (omega (arith, h.bytes, c.requires.room))
          (rw (c.from.ensures, list-part c.lists-lists.result b _) at c.put_batch.ensures);
      end = omega (arith, more.0, i.end, c.line_length-at.ensures.0);
      arrays = h;
    }
