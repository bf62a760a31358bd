-- A batch line: length, place, mark and count, each read in its turn and judged, and then the list.
use Prim.Native.Nat.{ℕ, ◌+◌, ◌≤◌, ◌<◌}
use mathlib.Core.Path.{◌≡◌}
use mathlib.Core.Bool.{Bool, true, false}
use mathlib.Core.List.{List}
use native.Mathlib.Omega.{arith}
use borrow.Author.Tests.{le-leb, lt-leb}
use lib.Dec.{leb, eqb}
use lib.ListN.{length, drop}
use Rattle.std.specs.Prelude.{Result, Err}
use Rattle.rules.specs.Fold.{◌and◌}
use Rattle.rules.specs.Field.{field}
use Rattle.rules.specs.Refusal.{bad_list}
use Rattle.rules.specs.Sheet.{Batch, good_minutes}
use Rattle.rules.specs.Read.{Part, and_then, or_refuse, number_at, blank_zero, place_at, mark_at, batch_line}
use Rattle.fields.specs.declared.Field.{Field}
use Rattle.fields.specs.declared.Field.TheVariants.{Value}
use Rattle.fields.specs.Columns.{coded_field}
use Rattle.fields.proofs.Reading.{NumberRead, field-number, field-none, place-number, place_none}
use Rattle.sheet.specs.declared.Fault.{Fault}
use Rattle.sheet.specs.declared.Refusal.TheVariants.{Malformed, BadLength, BadList}
use Rattle.sheet.specs.Answers.{fault}
use Rattle.reading.specs.declared.Line.{Line}
use Rattle.reading.specs.Lines.{line_as, line_list}

-- the line from its count on
abbrev from_count : ℕ → ℕ → ℕ → Bool → List ℕ → Part Batch
from_count m t p b r = and_then (number_at r) (λ n u. or_refuse (leb 1 n and leb n m) bad_list (line_list m t p b n u))

-- and from its mark on
abbrev from_mark : ℕ → ℕ → ℕ → List ℕ → Part Batch
from_mark m t p r = and_then (mark_at r) (λ b u. from_count m t p b u)

module _ (s : List ℕ) (at m j : ℕ) where
  abbrev line : Result Line Fault
  line = line_as (length s) j (batch_line m (drop at s))

  -- its length
  module _ {f : Field} (d : f ≡ coded_field (field (drop at s))) where
    pub length-missing : ((v : ℕ) → f ≡ Value v → ⊥) → Err (fault Malformed j) ≡ line
    unfolding batch_line
    length-missing k = rw (field-none s at d k)

    module _ {t : ℕ} (e : f ≡ Value t) where
      pub length-bad : leb 1 t and leb t 1440 ≡ false → Err (fault BadLength j) ≡ line
      unfolding batch_line good_minutes
      length-bad g = rw ((field-number s at d e).number, g)

      module _ (g : leb 1 t and leb t 1440 ≡ true) where
        from_place : batch_line m (drop at s) ≡ and_then (place_at (drop (at + 6) s)) (λ p u. from_mark m t p u)
        unfolding batch_line good_minutes
        from_place = rw ((field-number s at d e).number, g)

        -- its place
        module _ {f2 : Field} (d2 : f2 ≡ coded_field (blank_zero (field (drop (at + 6) s)))) where
          pub place-missing : ((v : ℕ) → f2 ≡ Value v → ⊥) → Err (fault Malformed j) ≡ line
          place-missing k = rw (from_place, place_none s (at + 6) d2 k)

          module _ {p : ℕ} (e2 : f2 ≡ Value p) where
            marked : batch_line m (drop at s) ≡ from_mark m t p (drop (at + 12) s)
            marked = let z : at + 6 + 6 ≡ at + 12 = omega arith in rw (from_place, (place-number s (at + 6) d2 e2).number, z)

            -- its mark
            module _ {f3 : Field} (d3 : f3 ≡ coded_field (field (drop (at + 12) s))) where
              pub mark-missing : ((v : ℕ) → f3 ≡ Value v → ⊥) → Err (fault Malformed j) ≡ line
              unfolding mark_at
              mark-missing k = rw (marked, field-none s (at + 12) d3 k)

              module _ {v : ℕ} (e3 : f3 ≡ Value v) where
                mark-read : NumberRead (number_at (drop (at + 12) s)) s (at + 12) v
                mark-read = field-number s (at + 12) d3 e3

                pub mark-bad : 1 < v → Err (fault Malformed j) ≡ line
                unfolding mark_at
                mark-bad h = rw (marked, mark-read.number, lt-leb v 1 h)

                module _ (h : v ≤ 1) where
                  counted : batch_line m (drop at s) ≡ from_count m t p (eqb v 1) (drop (at + 18) s)
                  unfolding mark_at
                  counted = let z : at + 12 + 6 ≡ at + 18 = omega arith in rw (marked, mark-read.number, le-leb v 1 h, z)

                  -- its count
                  module _ {f4 : Field} (d4 : f4 ≡ coded_field (field (drop (at + 18) s))) where
                    pub count-missing : ((v : ℕ) → f4 ≡ Value v → ⊥) → Err (fault Malformed j) ≡ line
                    count-missing k = rw (counted, field-none s (at + 18) d4 k)

                    module _ {n : ℕ} (e4 : f4 ≡ Value n) where
                      count-read : NumberRead (number_at (drop (at + 18) s)) s (at + 18) n
                      count-read = field-number s (at + 18) d4 e4

                      pub count-bad : leb 1 n and leb n m ≡ false → Err (fault BadList j) ≡ line
                      count-bad i = rw (counted, count-read.number, i)

                      pub list-room : at + 24 ≤ length s
                      list-room = omega (arith, count-read.room)

                      -- and then its list
                      pub then_list : leb 1 n and leb n m ≡ true
                          → batch_line m (drop at s) ≡ line_list m t p (eqb v 1) n (drop (at + 24) s)
                      then_list i = let z : at + 18 + 6 ≡ at + 24 = omega arith in rw (counted, count-read.number, i, z)
