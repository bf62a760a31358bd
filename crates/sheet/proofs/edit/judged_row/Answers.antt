-- A list that is good fits a row of bytes.
use Rattle.sheet.proofs.Scan.{passed}
use Rattle.sheet.proofs.SoundArrays.{row_fits}
use Rattle.sheet.proofs.edit.judged_row.Goals as goal

pub row_of-row-requires : goal.row_of-row-requires
row_of-row-requires c =
    let f = row_fits c.args.m c.args.list.now c.requires (passed c.good_list.ensures c.if-not-good_list.false-raw) in
    record { fact_1 = f.0; fact_2 = f.1 }
