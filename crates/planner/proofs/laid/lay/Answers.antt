-- The arrays say the instance of the sheet's book, its lists as marks too, its places and their loads.
use native.Mathlib.Omega.{arith}
use Rattle.sheet.specs.Represent.{book_of}
use Rattle.sheet.proofs.SoundViews.{view-permitted}
use Rattle.planner.proofs.SheetArrays.{few-machines, few-items, items-wide, view-reads, view-marked, view-place, permitted-at}
use Rattle.planner.proofs.TrialAnswers.{stands}
use Rattle.planner.proofs.laid.lay.Goals as goal

pub masks_of-masks-requires : goal.masks_of-masks-requires
masks_of-masks-requires c =
    let s = c.args.sheet in
    let v = c.requires in
    (few-items s v c.items_of-a.ensures, few-machines s v c.instruments-m.ensures, (items-wide s v c.items_of-a.ensures).2)

pub loads_of-loads-requires : goal.loads_of-loads-requires
loads_of-loads-requires c =
    let s = c.args.sheet in
    let n = few-items s c.requires c.items_of-a.ensures in
    let w = items-wide s c.requires c.items_of-a.ensures in
    (n, omega (arith, n, w.0), omega (arith, n, w.1), few-machines s c.requires c.instruments-m.ensures)

pub returns : goal.returns
returns c =
    let s = c.args.sheet in
    let v = c.requires in
    let r = view-reads s v c.instruments-m.ensures c.items_of-a.ensures c.masks_of-masks.ensures in
    let t = view-place (book_of s) c.items_of-a.ensures in
    record {
      few_machines = r.few;
      few_jobs = r.most;
      each = λ j e. record {
        stands =
            stands (rw (e.m, e.n, e.minutes, e.masks) r) (rw e.n (permitted-at t (view-permitted s v)))
            (rw (e.m, e.n, e.minutes) c.loads_of-loads.ensures.0);
        marked = rw e.n (view-marked (book_of s) _ c.items_of-a.result r.jobs c.items_of-a.ensures);
        shown = rw e.n t;
        rest = rw e.m c.loads_of-loads.ensures.1;
      };
    }
