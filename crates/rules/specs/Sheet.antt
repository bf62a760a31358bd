-- Document 01, "The sheet" and "Runs": the limits, the book that says what a sheet holds, and when a book is sound. Document 02: the
-- calibrations (C-16), whether a batch has started (C-17), and lists that ascend (C-20).
use Rattle.std.specs.Prelude.{ℕ, zero, suc, Bool, true, false, not, List, [], ◌∷◌, length, get_or, leb, eqb}
use Rattle.rules.specs.Fold.{◌and◌, mem, every}

-- ---- the limits

abbrev pub max_instruments : ℕ
max_instruments = 24

abbrev pub max_batches : ℕ
max_batches = 200

abbrev pub max_minutes : ℕ
max_minutes = 1440

abbrev pub max_calibration : ℕ
max_calibration = 240

-- ---- the book

-- a batch: its length in minutes, the instruments that may run it, the instrument it is on, and whether it has started there
pub record Batch : Type 0 where
  pub minutes : ℕ
  pub list : List ℕ
  pub place : ℕ
  pub started : Bool

-- one that has not started
abbrev pub waiting : ℕ → List ℕ → ℕ → Batch
waiting t l p = record { minutes = t; list = l; place = p; started = false }

-- a batch with another place
abbrev pub with_place : Batch → ℕ → Batch
with_place b p = record { minutes = b.minutes; list = b.list; place = p; started = b.started }

-- a batch with another list
abbrev pub with_list : Batch → List ℕ → Batch
with_list b l = record { minutes = b.minutes; list = l; place = b.place; started = b.started }

-- a batch, started where it is
abbrev pub begun : Batch → Batch
begun b = record { minutes = b.minutes; list = b.list; place = b.place; started = true }

-- m instruments, numbered from 1, the length in minutes of each one's calibration, 0 for none, and the batches, numbered from 1 in this
-- order
pub record Book : Type 0 where
  pub m : ℕ
  pub calibrations : List ℕ
  pub batches : List Batch

-- how many batches
abbrev pub size : Book → ℕ
size k = length k.batches

abbrev pub no_batch_here : Batch
no_batch_here = waiting 0 [] 0

-- batch number b
abbrev pub batch : Book → ℕ → Batch
batch k zero = no_batch_here
batch k (suc b) = get_or k.batches b no_batch_here

-- there is a batch of number b
unfoldable pub is_batch : Book → ℕ → Bool
is_batch k b = leb 1 b and leb b (size k)

-- the first listed
abbrev pub head : List ℕ → ℕ
head l = get_or l 0 0

-- ---- what the limits and the form ask of each part

unfoldable pub good_instruments : ℕ → Bool
good_instruments m = leb 1 m and leb m max_instruments

unfoldable pub good_minutes : ℕ → Bool
good_minutes t = leb 1 t and leb t max_minutes

unfoldable pub good_calibration : ℕ → Bool
good_calibration t = leb t max_calibration

-- one for each instrument
unfoldable pub good_calibrations : ℕ → List ℕ → Bool
good_calibrations m l = eqb (length l) m and every good_calibration l

-- i is one of the instruments 1 to m
unfoldable pub is_instrument : ℕ → ℕ → Bool
is_instrument m i = leb 1 i and leb i m

-- no number twice
unfoldable pub distinct : List ℕ → Bool
distinct [] = true
distinct (x ∷ xs) = not (mem x xs) and distinct xs

-- a list of qualified instruments: not empty, at most m long, each an instrument, none twice
unfoldable pub good_list : ℕ → List ℕ → Bool
good_list m l = leb 1 (length l) and leb (length l) m and every (is_instrument m) l and distinct l

-- none of l is smaller than the one before it; p is before the first
unfoldable pub ascending_from : ℕ → List ℕ → Bool
ascending_from p [] = true
ascending_from p (x ∷ xs) = leb p x and ascending_from x xs

-- 0 is before the first, and no number is smaller than that
unfoldable pub ascending : List ℕ → Bool
ascending l = ascending_from 0 l

unfoldable pub good_batch : ℕ → Batch → Bool
good_batch m b = good_minutes b.minutes and good_list m b.list and ascending b.list and mem b.place b.list

-- what every sheet's book meets: all limits, lists that ascend, and each batch on an instrument of its list
unfoldable pub sound : Book → Bool
sound k =
    good_instruments k.m
    and good_calibrations k.m k.calibrations
    and leb (size k) max_batches
    and every (good_batch k.m) k.batches
