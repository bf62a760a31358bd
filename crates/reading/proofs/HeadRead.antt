-- Line 1: each field is read in its turn and judged, and then the LF. Then the lines after it.
use Prim.Native.Nat.{ℕ, ◌≤◌, ◌<◌}
use mathlib.Core.Path.{◌≡◌}
use mathlib.Core.Bool.{true, false}
use mathlib.Core.List.{List}
use borrow.Author.Tests.{le-leb, lt-leb}
use lib.Dec.{leb}
use lib.ListN.{drop}
use Rattle.std.specs.Prelude.{Result, Err}
use Rattle.rules.specs.Fold.{◌and◌}
use Rattle.rules.specs.Field.{field}
use Rattle.rules.specs.Refusal.{malformed, bad_size}
use Rattle.rules.specs.Refusal as R
use Rattle.rules.specs.Sheet.{max_batches, good_instruments}
use Rattle.rules.specs.Read.{Part, Head, gives, refuses, and_then, or_refuse, number_at, end_of_line, head_line, lines_after, read}
use Rattle.fields.specs.declared.Field.{Field}
use Rattle.fields.specs.declared.Field.TheVariants.{Value}
use Rattle.fields.specs.Columns.{coded_field, ends_line}
use Rattle.fields.proofs.Reading.{field-number, field-none, end-missing, end-there}
use Rattle.sheet.specs.declared.Fault.{Fault}
use Rattle.sheet.specs.declared.Sheet.{Sheet}
use Rattle.sheet.specs.declared.Refusal.TheVariants.{Malformed, BadSize}
use Rattle.sheet.specs.Answers.{coded, fault, read_as, ReadAnswered}
use Rattle.sheet.proofs.Answered.{read-answered}

module _ (s : List ℕ) where
  -- a refusal of line 1
  refused : (e : R.Refusal) → head_line s ≡ refuses e → ReadAnswered (read s) (Err (fault (coded e) 1))
  unfolding read
  refused e h = read-answered (rw h)

  -- the number of instruments
  module _ {f : Field} (d : f ≡ coded_field (field s)) where
    pub size-missing : ((v : ℕ) → f ≡ Value v → ⊥) → ReadAnswered (read s) (Err (fault Malformed 1))
    unfolding head_line
    size-missing k = refused malformed (rw (field-none s 0 d k))

    module _ {m : ℕ} (e : f ≡ Value m) where
      pub size-bad : leb 1 m and leb m 24 ≡ false → ReadAnswered (read s) (Err (fault BadSize 1))
      unfolding head_line good_instruments
      size-bad g = refused bad_size (rw ((field-number s 0 d e).number, g))

      module _ (g : leb 1 m and leb m 24 ≡ true) where
        -- the end of the line
        abbrev ended : ℕ → List ℕ → Part Head
        ended n r = end_of_line r (λ u. gives (record { m = m; n = n }) u)

        onward : head_line s ≡ and_then (number_at (drop 6 s)) (λ n r. or_refuse (leb n max_batches) bad_size (ended n r))
        unfolding head_line good_instruments
        onward = rw ((field-number s 0 d e).number, g)

        -- the number of batches
        module _ {f2 : Field} (d2 : f2 ≡ coded_field (field (drop 6 s))) where
          pub batches-missing : ((v : ℕ) → f2 ≡ Value v → ⊥) → ReadAnswered (read s) (Err (fault Malformed 1))
          batches-missing k = refused malformed (rw (onward, field-none s 6 d2 k))

          module _ {n : ℕ} (e2 : f2 ≡ Value n) where
            judged : head_line s ≡ or_refuse (leb n max_batches) bad_size (ended n (drop 12 s))
            judged = rw (onward, (field-number s 6 d2 e2).number)

            pub batches-bad : 200 < n → ReadAnswered (read s) (Err (fault BadSize 1))
            batches-bad h = refused bad_size (rw (judged, lt-leb n 200 h))

            module _ (h : n ≤ 200) where
              ending : head_line s ≡ ended n (drop 12 s)
              ending = rw (judged, le-leb n 200 h)

              pub head-unended : ends_line (drop 12 s) ≡ false → ReadAnswered (read s) (Err (fault Malformed 1))
              head-unended i = refused malformed (rw (ending, end-missing s 12 _ i))

              pub then_lines : ends_line (drop 12 s) ≡ true → {r : Result Sheet Fault}
                  → r ≡ read_as (lines_after (record { m = m; n = n }) (drop 13 s)) → ReadAnswered (read s) r
              unfolding read
              then_lines i q = read-answered (rw (ending, end-there s 12 _ i) q)
