-- The theorems over the tables of files of RFC 4180, of worklists, of what is taken, and of lent buffers.
use Rattle.std.specs.Prelude.{◌≡◌, refl}
use Rattle.rules.specs.Fold.{◌and◌, ◌or◌, mem, every}
use Rattle.rules.specs.Sheet.{good_instruments, good_minutes, good_calibration, good_calibrations, is_instrument, distinct, good_list, ascending_from, ascending}
use Rattle.rules.specs.Field.{digits, lone_zero, blanks, field}
use Rattle.rules.specs.Read.{number_at, place_at, end_of_line, head_line, calibrations_at, calibration_line, mark_at, instruments_at, good_place, batch_line, batch_lines, lines_after, read}
use Rattle.rules.specs.Render.{columns, fields, render_batches, render}
use Rattle.rules.specs.Rewrite.{written}
use Rattle.rules.specs.Lent.{into_buffer}
use Rattle.rules.specs.Text.{bytes, lines}
use Rattle.rules.specs.Csv.{is_text, is_inside, record_end, fields_from, file_by, csv}
use Rattle.rules.specs.Worklist.{well_formed, value_from, number, number_or_empty, parts, numbers, number_list, row_of, rows_of, worklist, row_lines, sheet_saying, taken, take_host}
use Rattle.rules.specs.WorklistCases.{csv_table, as_csv, csv_said, table, asked, said, again, take_table, taking, due, hosted, hosted-said}

csv-cases : as_csv csv_table ≡ csv_said csv_table
unfolding as_csv csv_said csv_table bytes ◌and◌ ◌or◌ is_text is_inside record_end fields_from file_by csv
csv-cases = refl

-- the grammar with the checks of its fields says what the table says
cases : asked worklist table ≡ said table
unfolding asked said table bytes ◌and◌ ◌or◌ every is_text is_inside record_end fields_from file_by csv well_formed value_from number number_or_empty parts numbers number_list row_of rows_of worklist
cases = refl

take_cases : taking take_table ≡ due take_table
unfolding taking due take_table again bytes lines ◌and◌ ◌or◌ mem every good_instruments good_minutes good_calibration good_calibrations is_instrument distinct good_list ascending_from ascending digits lone_zero blanks field number_at place_at end_of_line head_line calibrations_at calibration_line mark_at instruments_at good_place batch_line batch_lines lines_after read columns fields render_batches render written is_text is_inside record_end fields_from file_by csv well_formed value_from number number_or_empty parts numbers number_list row_of rows_of worklist row_lines sheet_saying taken
take_cases = refl

host-cases : hosted ≡ hosted-said
unfolding hosted hosted-said again bytes lines ◌and◌ ◌or◌ mem every good_instruments good_minutes good_calibration good_calibrations is_instrument distinct good_list ascending_from ascending digits lone_zero blanks field number_at place_at end_of_line head_line calibrations_at calibration_line mark_at instruments_at good_place batch_line batch_lines lines_after read columns fields render_batches render written is_text is_inside record_end fields_from file_by csv well_formed value_from number number_or_empty parts numbers number_list row_of rows_of worklist row_lines sheet_saying taken into_buffer take_host
host-cases = refl
