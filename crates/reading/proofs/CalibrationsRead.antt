-- Line 2, a calibration at a time.
use Prim.Native.Nat.{ℕ, suc, ◌+◌, ◌-◌, ◌≤◌, ◌<◌}
use mathlib.Core.Path.{◌≡◌, refl, sym, ◌∙◌}
use mathlib.Core.Bool.{true, false}
use mathlib.Core.List.{List, [], ◌∷◌, ◌++◌}
use native.Mathlib.Omega.{arith}
use borrow.Author.Tests.{le-leb, lt-leb}
use lib.ListN.{length, set, take, drop, replicate}
use Rattle.std.specs.Prelude.{Result, Ok, Err}
use Rattle.rules.specs.Field.{field}
use Rattle.rules.specs.Refusal.{bad_calibration}
use Rattle.rules.specs.Sheet.{good_calibration}
use Rattle.rules.specs.Read.{gives, and_then, or_refuse, number_at, end_of_line, calibrations_at, calibration_line}
use Rattle.fields.specs.declared.Field.{Field}
use Rattle.fields.specs.declared.Field.TheVariants.{Value}
use Rattle.fields.specs.Columns.{coded_field, ends_line}
use Rattle.fields.proofs.Reading.{NumberRead, field-number, field-none, end-room, end-missing, end-there, next-at}
use Rattle.sheet.specs.declared.Fault.{Fault}
use Rattle.sheet.specs.declared.Refusal.TheVariants.{Malformed, BadCalibration}
use Rattle.sheet.specs.Answers.{fault}
use Rattle.reading.specs.declared.Calibrated.{Calibrated}
use Rattle.reading.specs.Lines.{calibrated_as}
use Rattle.reading.proofs.Rows.{Row, row-padded, row_more, row-take}

-- one more of m calibrations, after i of them are read into l
turn : (m i : ℕ) (l r : List ℕ) → i < m → calibrations_at (m - i) l r ≡
    and_then (number_at r) (λ t u.
    or_refuse (good_calibration t) bad_calibration
    (calibrations_at (m - (i + 1)) (l ++ (t ∷ [])) u))
unfolding calibrations_at
turn m i l r h = let e : m - i ≡ suc (m - (i + 1)) = omega arith in rw e

module _ (s : List ℕ) (at m : ℕ) where
  -- what line 2, which starts at at, gives
  abbrev pub second : Result Calibrated Fault
  second = calibrated_as (length s) (calibration_line m (drop at s))

  -- i of the calibrations are in the row, up to next, and what is left goes on from them as the rules do
  pub record CalibrationsSofar (calibrations : List ℕ) (next i : ℕ) : Type 0 where
    pub room : next ≤ length s
    pub row : Row i calibrations
    pub rest : calibrations_at (m - i) (take i calibrations) (drop next s) ≡ calibrations_at m [] (drop at s)

  pub calibrations-start : at ≤ length s → CalibrationsSofar (replicate 24 0) at 0
  calibrations-start h =
      let e : m - 0 ≡ m = omega arith in record { room = h; row = record { size = refl; rest = refl }; rest = rw e }

  module _ {calibrations : List ℕ} {next i : ℕ} (c : CalibrationsSofar calibrations next i) where
    -- the next field
    module _ (h : i < m) {f : Field} (d : f ≡ coded_field (field (drop next s))) where
      pub calibration-missing : ((v : ℕ) → f ≡ Value v → ⊥) → Err (fault Malformed 2) ≡ second
      unfolding calibration_line
      calibration-missing k = rw (← c.rest, turn m i (take i calibrations) (drop next s) h, field-none s next d k)

      module _ {v : ℕ} (e : f ≡ Value v) where
        number : NumberRead (number_at (drop next s)) s next v
        number = field-number s next d e

        pub calibration-room : next + 6 ≤ length s
        calibration-room = number.room

        pub calibration-bad : 240 < v → Err (fault BadCalibration 2) ≡ second
        unfolding calibration_line good_calibration
        calibration-bad g = rw (← c.rest, turn m i (take i calibrations) (drop next s) h, number.number, lt-leb v 240 g)

        pub calibration-more : m ≤ 24 → v ≤ 240 → CalibrationsSofar (set calibrations i v) (next + 6) (i + 1)
        unfolding good_calibration
        calibration-more u g = record {
          room = number.room;
          row = row_more i calibrations v c.row (omega arith);
          rest =
              rw (row-take i calibrations v c.row (omega arith))
              (sym (rw (turn m i (take i calibrations) (drop next s) h, number.number, le-leb v 240 g)) ∙ c.rest);
        }

    -- the end of the line
    module _ (h : m ≤ i) where
      ending : calibration_line m (drop at s) ≡ end_of_line (drop next s) (λ r. gives (take i calibrations) r)
      unfolding calibration_line calibrations_at
      ending = let e : m - i ≡ 0 = omega arith in rw (← c.rest, e)

      pub calibrations-unended : ends_line (drop next s) ≡ false → Err (fault Malformed 2) ≡ second
      calibrations-unended e = rw (ending, end-missing s next _ e)

      pub calibrations_end : i ≤ 24 → ends_line (drop next s) ≡ true → Ok (record { calibrations = calibrations; next = next + 1 }) ≡ second
      calibrations_end u e =
          rw (ending, end-there s next _ e, row-padded i calibrations c.row u, ← next-at s (next + 1) (end-room s next e))
