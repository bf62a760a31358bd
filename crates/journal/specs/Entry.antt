-- A call's line as the reader gives it.
use Rattle.std.specs.Prelude.{ℕ, ◌-◌, List, Option, None, Some, length, take}
use Rattle.rules.specs.Read.{Part, gives, refuses}
use Rattle.rules.specs.Edit.{add, withdraw, requalify, move, start}
use Rattle.rules.specs.Run as R
use Rattle.rules.specs.Journal.{Journal, calls, faulty, lines_by}
use Rattle.sheet.specs.Represent.{firsts}
use Rattle.journal.specs.declared.entry.Instruments.{Instruments}
use Rattle.journal.specs.declared.entry.Call.{Call}
use Rattle.journal.specs.declared.entry.Call.TheVariants.{Add, Withdraw, Requalify, MoveTo, Start, Review, Trial, Balance, Settle}

-- Of a list the first 25 numbers are kept: a longer one is longer than any sheet takes, and so are they.
abbrev pub kept : List ℕ → Instruments
kept l = record { count = length (take 25 l); numbers = firsts l }

-- the numbers that were kept
abbrev pub listed : Instruments → List ℕ
listed l = take l.count l.numbers

abbrev pub call_of : R.Call → Call
call_of (R.editing (add t l)) = Add t (kept l)
call_of (R.editing (withdraw b)) = Withdraw b
call_of (R.editing (requalify b l)) = Requalify b (kept l)
call_of (R.editing (move b i)) = MoveTo b i
call_of (R.editing (start b)) = Start b
call_of R.reviewing = Review
call_of (R.trying a) = Trial a
call_of (R.balancing c) = Balance c
call_of (R.settling c) = Settle c

-- what a line gives, in a text of so many bytes: its call, and where the next line starts
abbrev pub entry_as : ℕ → Part R.Call → Option (Call × ℕ)
entry_as size (gives c r) = Some (call_of c, size - length r)
entry_as size (refuses e) = None

-- what a list gives, likewise
abbrev pub list_as : ℕ → Part (List ℕ) → Option (Instruments × ℕ)
list_as size (gives l r) = Some (kept l, size - length r)
list_as size (refuses e) = None

-- ---- a whole journal

-- the lines of r, the first of which is line j
unfoldable pub lines_from : ℕ → List ℕ → Journal
lines_from j r = lines_by (length r) j r

-- the first line that is not of the form
abbrev pub fault_of : Journal → Option ℕ
fault_of (calls cs) = None
fault_of (faulty j) = Some j
