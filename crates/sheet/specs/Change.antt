-- What an edit does to the arrays of a sheet: a batch taken out, a place entered, a list and a place entered, a batch started; which batches
-- it may not touch, and which lists it may not enter.
use Rattle.std.specs.Prelude.{ℕ, Result, Ok, Err, ◌+◌, ◌-◌, ◌*◌, List, ◌++◌, get_or, set, take, drop, replicate, leb, eqb}
use Rattle.std.proofs.Math.Seq.{paste}
use Rattle.rules.specs.Fold.{◌and◌, pick}
use Rattle.rules.specs.Sheet.{good_list, ascending}
use Rattle.sheet.specs.declared.Sheet.{Sheet}
use Rattle.sheet.specs.declared.Refusal.{Refusal}
use Rattle.sheet.specs.declared.Refusal.TheVariants.{BadList, NoBatch, HasStarted, BadOrder}
use Rattle.sheet.specs.Represent.{padded}

-- xs without its by entries from at on, and as many d at its end
unfoldable pub cut_down : {X : Type 0} → X → ℕ → ℕ → List X → List X
cut_down d at by xs = take at xs ++ (drop (at + by) xs ++ replicate by d)

-- numbers, with 0 at the end
abbrev pub cut : ℕ → ℕ → List ℕ → List ℕ
cut = cut_down 0

-- the batch at the index i taken out, the later ones replaced down
abbrev pub removed : Sheet → ℕ → Sheet
removed s i = record {
  m = s.m;
  n = s.n - 1;
  calibrations = s.calibrations;
  minutes = cut i 1 s.minutes;
  places = cut i 1 s.places;
  started = cut i 1 s.started;
  counts = cut i 1 s.counts;
  lists = cut (i * 24) 24 s.lists;
}

-- the batch at the index i on p
abbrev pub replaced : Sheet → ℕ → ℕ → Sheet
replaced s i p = record {
  m = s.m;
  n = s.n;
  calibrations = s.calibrations;
  minutes = s.minutes;
  places = set s.places i p;
  started = s.started;
  counts = s.counts;
  lists = s.lists;
}

-- the batch at the index i on p, with the list of c instruments that stands at the front of row
abbrev pub requalified : Sheet → ℕ → ℕ → ℕ → List ℕ → Sheet
requalified s i p c row = record {
  m = s.m;
  n = s.n;
  calibrations = s.calibrations;
  minutes = s.minutes;
  places = set s.places i p;
  started = s.started;
  counts = set s.counts i c;
  lists = paste s.lists (i * 24) row 24;
}

-- the batch at the index i started
abbrev pub started_at : Sheet → ℕ → Sheet
started_at s i = record {
  m = s.m;
  n = s.n;
  calibrations = s.calibrations;
  minutes = s.minutes;
  places = s.places;
  started = set s.started i 1;
  counts = s.counts;
  lists = s.lists;
}

-- the index of batch number b of n, those with an entry other than 0 having started, or why it may not be edited
abbrev pub barred : List ℕ → ℕ → ℕ → Result ℕ Refusal
barred started n b =
    pick (leb 1 b and leb b n) (pick (eqb (get_or started (b - 1) 0) 0) (Ok (b - 1)) (Err HasStarted)) (Err NoBatch)

-- the row of the list l of a batch on m instruments, or why it may not have it
abbrev pub judged_list : ℕ → List ℕ → Result (List ℕ) Refusal
judged_list m l = pick (good_list m l) (pick (ascending l) (Ok (padded 24 l)) (Err BadOrder)) (Err BadList)
