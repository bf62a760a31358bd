-- Document 01, "Refusals": each refusal by name, and its number.
use Rattle.std.specs.Prelude.{ℕ}

pub data Refusal : Type 0 where
  -- whoever wrote the sheet
  malformed : Refusal
  bad_size : Refusal
  bad_length : Refusal
  bad_list : Refusal
  bad_place : Refusal
  -- document 02, C-16
  bad_calibration : Refusal
  -- document 02, C-20
  bad_order : Refusal
  -- whoever exported the worklist; document 02, C-18
  bad_worklist : Refusal
  -- whoever edits
  no_batch : Refusal
  sheet_full : Refusal
  -- document 02, C-17
  has_started : Refusal
  -- the host program
  level_above : Refusal
  -- a buffer, or (document 02, C-14) a list for records
  buffer_short : Refusal

abbrev pub number : Refusal → ℕ
number malformed = 1
number bad_size = 2
number bad_length = 3
number bad_list = 4
number bad_place = 5
number no_batch = 6
number sheet_full = 7
number level_above = 8
number buffer_short = 9
number bad_calibration = 10
number has_started = 11
number bad_worklist = 12
number bad_order = 13
