-- The theorem over the table of cases.
use Rattle.std.specs.Prelude.{◌≡◌, refl}
use Rattle.rules.specs.Fold.{◌and◌, ◌or◌, mem, every, sum_to, most, max_to, or_else, first_to, any_to, all_to, lesser, least_to, greater, greatest_to, those_to, list_to}
use Rattle.rules.specs.Sheet.{is_batch, good_instruments, good_minutes, good_calibration, good_calibrations, is_instrument, distinct, good_list, ascending_from, ascending, good_batch, sound}
use Rattle.rules.specs.Field.{digits, lone_zero, blanks, field}
use Rattle.rules.specs.Read.{number_at, place_at, end_of_line, head_line, calibrations_at, calibration_line, mark_at, instruments_at, good_place, batch_line, batch_lines, lines_after, read}
use Rattle.rules.specs.Render.{columns, fields, render_batches, render, batch_within_limits, within_limits}
use Rattle.rules.specs.Rewrite.{written, open_in_batches, open_columns, alike}
use Rattle.rules.specs.Edit.{kept, edit}
use Rattle.rules.specs.Instance.{calibrations_to, busy}
use Rattle.rules.specs.Load.{load, makespan, longest, total, permitted, elsewhere, improves_at, improves, review}
use Rattle.rules.specs.Settle.{mover, target, moved, squares, settle_by, settle}
use Rattle.rules.specs.Trial.{at_level, underloaded, overloaded, unplaced, machine_arc, job_arc, lift_over, push_or, deed, job_deed, machine_deed, some_underloaded, act_machine, act_job, act, steps_by, lift_bound, push_bound, ended_by}
use Rattle.rules.specs.Group.{overflows, reach, reach_by, closure, group, trial}
use Rattle.rules.specs.Balance.{search_by, balance}
use Rattle.rules.specs.LowerBound.{within, confined, share, lower_bound}
use Rattle.rules.specs.Marks.{marks_of}
use Rattle.rules.specs.Round.{multiples, equal_lengths, close_to}
use Rattle.rules.specs.Plan as P
use Rattle.rules.specs.Moves.{records, move_numbers}
use Rattle.rules.specs.Run.{answer, next, book_after, answers}
use Rattle.rules.specs.Interleave.{independent, all_independent, interleave}
use Rattle.rules.specs.Lent.{into_buffer}
use Rattle.rules.specs.Listing.{batch_listing, listing, program, host}
use Rattle.rules.specs.Journal.{numbers_at, list_at, add_at, withdraw_at, requalify_at, move_at, start_at, trial_at, balance_at, settle_at, call_at, call_line, lines_by, journal, answer_lines, run_host, write_host}
use Rattle.rules.specs.Filed.{filed}
use Rattle.rules.specs.Text.{bytes, lines}
use Rattle.rules.specs.Cases.{table, asked, said}

-- the rules say what the table says
cases : asked table ≡ said table
unfolding table bytes lines ◌and◌ ◌or◌ mem every sum_to most max_to or_else first_to any_to all_to lesser least_to greater greatest_to those_to list_to is_batch good_instruments good_minutes good_calibration good_calibrations is_instrument distinct good_list ascending_from ascending good_batch sound digits lone_zero blanks field number_at place_at end_of_line head_line calibrations_at calibration_line mark_at instruments_at good_place batch_line batch_lines lines_after read columns fields render_batches render written open_in_batches open_columns alike batch_within_limits within_limits kept edit calibrations_to busy load makespan longest total permitted elsewhere improves_at improves review mover target moved squares settle_by settle at_level underloaded overloaded unplaced machine_arc job_arc lift_over push_or deed job_deed machine_deed some_underloaded act_machine act_job act steps_by lift_bound push_bound ended_by overflows reach reach_by closure group trial search_by balance within confined share lower_bound marks_of multiples equal_lengths close_to P.balanced P.rested P.plan records move_numbers answer next book_after answers independent all_independent interleave into_buffer batch_listing listing program host numbers_at list_at add_at withdraw_at requalify_at move_at start_at trial_at balance_at settle_at call_at call_line lines_by journal answer_lines run_host write_host filed
cases = refl
