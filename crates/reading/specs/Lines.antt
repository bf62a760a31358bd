-- What the readers of line 2 and of a batch line answer, by the rules.
use Rattle.std.specs.Prelude.{ℕ, ◌-◌, Bool, List, [], length, Result, Ok, Err}
use Rattle.rules.specs.Fold.{pick}
use Rattle.rules.specs.Refusal.{bad_place, bad_order}
use Rattle.rules.specs.Sheet.{Batch, ascending}
use Rattle.rules.specs.Read.{Part, gives, refuses, and_then, or_refuse, end_of_line, instruments_at, place_or, good_place}
use Rattle.rules.specs.Render.{mark}
use Rattle.sheet.specs.declared.Fault.{Fault}
use Rattle.sheet.specs.declared.Refusal.{Refusal}
use Rattle.sheet.specs.declared.Refusal.TheVariants.{Malformed, BadOrder}
use Rattle.reading.specs.declared.Calibrated.{Calibrated}
use Rattle.reading.specs.declared.Line.{Line}
use Rattle.sheet.specs.Represent.{padded}
use Rattle.sheet.specs.Answers.{coded, fault}

-- line 2 of a sheet of w bytes
abbrev pub calibrated_as : ℕ → Part (List ℕ) → Result Calibrated Fault
calibrated_as w (gives l r) = Ok (record { calibrations = padded 24 l; next = w - length r })
calibrated_as w (refuses e) = Err (fault (coded e) 2)

-- a batch line of a sheet of w bytes, at line j
abbrev pub line_as : ℕ → ℕ → Part Batch → Result Line Fault
line_as w j (gives b r) = Ok (record {
  minutes = b.minutes;
  place = b.place;
  started = mark b.started;
  count = length b.list;
  list = padded 24 b.list;
  next = w - length r;
})
line_as w j (refuses e) = Err (fault (coded e) j)

-- whether a line may end behind a list that ascends or not, where there is an LF or not
abbrev pub bad_end : Bool → Bool → Result Unit Refusal
bad_end ordered ended = pick ordered (pick ended (Ok tt) (Err Malformed)) (Err BadOrder)

-- a batch line of t minutes, place p and mark s, from its list of c instruments on
abbrev pub line_list : ℕ → ℕ → ℕ → Bool → ℕ → List ℕ → Part Batch
line_list m t p s c r =
    and_then (instruments_at m c [] r) (λ l r₁.
    or_refuse (ascending l) bad_order
    (end_of_line r₁ (λ r₂.
    or_refuse (good_place s p l) bad_place
    (gives (record { minutes = t; list = l; place = place_or p l; started = s }) r₂))))
