-- The numbers of refusals.
use Prim.Native.Nat.{◌≤◌}
use native.Mathlib.Omega.{arith}
use Rattle.rules.specs.Refusal.{Refusal, malformed, bad_size, bad_length, bad_list, bad_place, bad_calibration, bad_order, bad_worklist, no_batch, sheet_full, has_started, level_above, buffer_short, number}

pub number-range : (e : Refusal) → (1 ≤ number e) × (number e ≤ 13)
number-range malformed = (omega arith, omega arith)
number-range bad_size = (omega arith, omega arith)
number-range bad_length = (omega arith, omega arith)
number-range bad_list = (omega arith, omega arith)
number-range bad_place = (omega arith, omega arith)
number-range bad_calibration = (omega arith, omega arith)
number-range bad_order = (omega arith, omega arith)
number-range bad_worklist = (omega arith, omega arith)
number-range no_batch = (omega arith, omega arith)
number-range sheet_full = (omega arith, omega arith)
number-range has_started = (omega arith, omega arith)
number-range level_above = (omega arith, omega arith)
number-range buffer_short = (omega arith, omega arith)
