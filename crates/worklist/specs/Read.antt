-- What the readers of a row's parts, of a row and of a file answer, as the reader from the front says it.
use Rattle.std.specs.Prelude.{ℕ, ◌-◌, Bool, true, false, List, [], ◌∷◌, eqb, length, take, Option, Some, None, Result, Ok, Err}
use denote.Ref.{Bor}
use Rattle.std.proofs.Math.Option as M
use Rattle.rules.specs.Fold.{pick}
use Rattle.rules.specs.Field.{is_digit}
use Rattle.rules.specs.Worklist.{Worklist, rows, faulty_row}
use Rattle.rules.specs.Worklist as W
use Rattle.sheet.specs.Represent.{firsts}
use Rattle.worklist.specs.declared.row.Members.{Members}
use Rattle.worklist.specs.declared.row.Row.{Row}
use Rattle.worklist.specs.declared.row.FaultyRow.{FaultyRow}
use Rattle.worklist.specs.Rows.{Front, gives, fails, and_then, byte_at, number_at, number_or_nothing_at}

-- what a reader answers: a value and the bytes behind it, or none
abbrev pub front_of : {X : Type 0} → Option (X × Bor (List ℕ)) → Front X
front_of (Some p) = gives p.0 p.1.now
front_of None = fails

-- ---- a byte

-- the bytes behind the byte b in front
abbrev pub behind : ℕ → List ℕ → Option (List ℕ)
behind b [] = None
behind b (x ∷ s) = pick (eqb x b) (Some s) None

-- the digit in front
abbrev pub digit_at : List ℕ → Front ℕ
digit_at [] = fails
digit_at (x ∷ s) = pick (is_digit x) (gives (x - 48) s) fails

-- ---- a part of a row

-- a number, or nothing where that may be
abbrev pub plain_at : Bool → List ℕ → Front ℕ
plain_at true s = number_or_nothing_at s
plain_at false s = number_at s

-- a row's end: the bytes behind it
abbrev pub end_as : M.Option (List ℕ) → Option (List ℕ)
end_as (M.some r) = Some r
end_as M.none = None

-- and then the byte b
abbrev pub then_byte : ℕ → Front ℕ → Front ℕ
then_byte b p = and_then p (λ v r. byte_at b r (λ r₁. gives v r₁))

-- ---- a list, of which the first 25 numbers are kept

abbrev pub kept : Front (List ℕ) → Front Members
kept p = and_then p (λ l r. gives (record { count = length (take 25 l); list = firsts l }) r)

abbrev pub one_number : List ℕ → Front (List ℕ)
one_number s = and_then (number_at s) (λ v r. gives (v ∷ []) r)

-- ---- a row, with the first 25 numbers of its list

abbrev pub kept_row : Front W.Row → Front Row
kept_row p =
    and_then p (λ w r.
    gives (record { minutes = w.minutes; place = w.place; mark = w.mark; count = length (take 25 w.list); list = firsts w.list }) r)

-- ---- a file

abbrev pub rows_as : Worklist → Result ℕ FaultyRow
rows_as (rows ws) = Ok (length ws)
rows_as (faulty_row j) = Err (record { row = j })
