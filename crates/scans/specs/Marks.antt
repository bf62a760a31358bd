-- Marks of lists, a byte each, as words of four; and what the test of confinement answers.
use Rattle.std.specs.Prelude.{ℕ, suc, ◌+◌, ◌*◌, ◌-◌, ◌<◌, ◌≡◌, Bool, true, List, get_or, take, drop, eqb}
use Rattle.std.specs.Int.Bits.{bit_and}
use Rattle.rules.specs.Fold.{at, every, all_to}
use Rattle.rules.specs.Sheet.{is_instrument}
use Rattle.rules.specs.Instance.{Instance, list_of}
use Rattle.rules.specs.LowerBound as Rule
use Rattle.rules.specs.Marks.{marks_of}

-- the word of four bytes, the first of them lowest
abbrev pub word : ℕ → ℕ → ℕ → ℕ → ℕ
word a b c d = ((d * 256 + c) * 256 + b) * 256 + a

-- that of the four from index k on
abbrev pub word_at : List ℕ → ℕ → ℕ
word_at l k = word (get_or l k 0) (get_or l (k + 1) 0) (get_or l (k + 2) 0) (get_or l (k + 3) 0)

-- a byte x has no digit outside the byte y
unfoldable pub clear : ℕ → ℕ → Bool
clear x y = eqb (bit_and x (255 - y)) 0

-- none of the first c bytes of l has a digit outside its fellow in g
unfoldable pub covered : ℕ → List ℕ → List ℕ → Bool
covered c l g = all_to c (λ i. clear (at l i) (at g i))

-- the answer for 24 bytes each: for the marks of a list of instruments and of a group, whether the list lies in the group; and for
-- whatever bytes, whether those of the first are covered
pub record LiesWithin (list group : List ℕ) (r : Bool) : Type 0 where
  pub within : (l g : List ℕ) → every (is_instrument 24) l ≡ true → list ≡ marks_of l → group ≡ marks_of g → r ≡ Rule.within l g
  pub any : r ≡ covered 24 list group

-- 24 entries for each of c jobs, the marks of its list
abbrev pub Marked : Instance → ℕ → List ℕ → Type 0
Marked I c marks = (b : ℕ) → b < c → take 24 (drop (b * 24) marks) ≡ marks_of (list_of I (suc b))
