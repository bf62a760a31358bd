-- Document 01, "The sheet" and "Refusals": the edits, with their checks in order. Document 02: starting a batch, and what a started one
-- refuses (C-17); lists ascend (C-20).
use Rattle.std.specs.Prelude.{ℕ, zero, suc, ◌-◌, Bool, true, false, not, List, [], ◌∷◌, ◌++◌, set, ltb}
use Rattle.rules.specs.Fold.{pick, mem}
use Rattle.rules.specs.Refusal.{Refusal, bad_length, bad_list, bad_place, bad_order, no_batch, sheet_full, has_started}
use Rattle.rules.specs.Sheet.{Book, Batch, waiting, with_place, with_list, begun, size, batch, is_batch, head, max_batches, good_minutes, good_list, ascending}

pub data Edit : Type 0 where
  -- length, list
  add : ℕ → List ℕ → Edit
  -- number
  withdraw : ℕ → Edit
  -- number, list
  requalify : ℕ → List ℕ → Edit
  -- number, instrument
  move : ℕ → ℕ → Edit
  -- number
  start : ℕ → Edit

pub data Edited : Type 0 where
  refused : Refusal → Edited
  edited : Book → Edited

-- go on where the test passes; the refusal otherwise
abbrev pub unless : Bool → Refusal → Edited → Edited
unless true e o = o
unless false e o = refused e

-- the place p where it is listed, and the first listed otherwise
unfoldable pub kept : ℕ → List ℕ → ℕ
kept p l = pick (mem p l) p (head l)

-- the list without its entry at index k
abbrev pub without : List Batch → ℕ → List Batch
without [] k = []
without (b ∷ bs) zero = bs
without (b ∷ bs) (suc k) = b ∷ without bs k

abbrev pub with_batches : Book → List Batch → Book
with_batches k bs = record { m = k.m; calibrations = k.calibrations; batches = bs }

-- the book with c as batch number b
abbrev pub with_batch : Book → ℕ → Batch → Book
with_batch k b c = with_batches k (set k.batches (b - 1) c)

-- go on where there is a batch of number b, and it has not started
abbrev pub if_waiting : Book → ℕ → Edited → Edited
if_waiting k b o = unless (is_batch k b) no_batch (unless (not (batch k b).started) has_started o)

-- go on where l is a list for a batch on m instruments, and ascends
abbrev pub if_listed : ℕ → List ℕ → Edited → Edited
if_listed m l o = unless (good_list m l) bad_list (unless (ascending l) bad_order o)

unfoldable pub edit : Book → Edit → Edited
edit k (add t l) =
    unless (ltb (size k) max_batches) sheet_full
    (unless (good_minutes t) bad_length
    (if_listed k.m l
    (edited (with_batches k (k.batches ++ (waiting t l (head l) ∷ []))))))
edit k (withdraw b) = if_waiting k b (edited (with_batches k (without k.batches (b - 1))))
edit k (requalify b l) =
    if_waiting k b
    (if_listed k.m l
    (edited (with_batch k b (with_place (with_list (batch k b) l) (kept (batch k b).place l)))))
edit k (move b i) =
    if_waiting k b
    (unless (mem i (batch k b).list) bad_place
    (edited (with_batch k b (with_place (batch k b) i))))
edit k (start b) = if_waiting k b (edited (with_batch k b (begun (batch k b))))
