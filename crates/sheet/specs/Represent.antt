-- A book as a sheet's arrays, and a sheet's book. Unused entries are 0, so a sheet is a function of its book.
use Rattle.std.specs.Prelude.{ℕ, zero, suc, ◌+◌, ◌-◌, ◌*◌, ◌≡◌, true, List, [], ◌∷◌, ◌++◌, map, length, get_or, set, take, drop, replicate, eqb}
use Rattle.std.proofs.Math.Seq.{paste}
use Rattle.rules.specs.Sheet.{Book, Batch, size, sound}
use Rattle.rules.specs.Render.{mark}
use Rattle.sheet.specs.declared.Sheet.{Sheet}

-- a list in w entries, 0 past its end
abbrev pub padded : ℕ → List ℕ → List ℕ
padded w l = l ++ replicate (w - length l) 0

-- a list's first 25 in 25 entries: one more than any list of a sheet has
abbrev pub firsts : List ℕ → List ℕ
firsts l = padded 25 (take 25 l)

-- the lists of batches, 24 entries each
abbrev pub rows : List Batch → List ℕ
rows [] = []
rows (b ∷ bs) = padded 24 b.list ++ rows bs

unfoldable pub sheet_of : Book → Sheet
sheet_of k = record {
  m = k.m;
  n = size k;
  calibrations = padded 24 k.calibrations;
  minutes = padded 200 (map (λ (b : Batch). b.minutes) k.batches);
  places = padded 200 (map (λ (b : Batch). b.place) k.batches);
  started = padded 200 (map (λ (b : Batch). mark b.started) k.batches);
  counts = padded 200 (map (λ (b : Batch). length b.list) k.batches);
  lists = padded 4800 (rows k.batches);
}

-- the batch at index b of a sheet's arrays
abbrev pub batch_at : Sheet → ℕ → Batch
batch_at s b = record {
  minutes = get_or s.minutes b 0;
  list = take (get_or s.counts b 0) (drop (b * 24) s.lists);
  place = get_or s.places b 0;
  started = eqb (get_or s.started b 0) 1;
}

-- the batches at the indices below c
unfoldable pub batches_to : Sheet → ℕ → List Batch
batches_to s zero = []
batches_to s (suc b) = batches_to s b ++ (batch_at s b ∷ [])

unfoldable pub book_of : Sheet → Book
book_of s = record { m = s.m; calibrations = take s.m s.calibrations; batches = batches_to s s.n }

-- a sheet is sound when it is the sheet of a sound book
pub record Sound (s : Sheet) : Type 0 where
  pub book : sound (book_of s) ≡ true
  pub arrays : sheet_of (book_of s) ≡ s

-- a sheet's arrays with one batch more, whose mark is v and whose list of c instruments stands at the front of row
abbrev pub appended : Sheet → ℕ → ℕ → ℕ → ℕ → List ℕ → Sheet
appended s t p v c row = record {
  m = s.m;
  n = s.n + 1;
  calibrations = s.calibrations;
  minutes = set s.minutes s.n t;
  places = set s.places s.n p;
  started = set s.started s.n v;
  counts = set s.counts s.n c;
  lists = paste s.lists (s.n * 24) row 24;
}

-- the sheet that these arrays make
abbrev pub held : ℕ → ℕ → List ℕ → List ℕ → List ℕ → List ℕ → List ℕ → List ℕ → Sheet
held m n calibrations minutes places started counts lists = record {
  m = m;
  n = n;
  calibrations = calibrations;
  minutes = minutes;
  places = places;
  started = started;
  counts = counts;
  lists = lists;
}

-- that of m instruments with these calibrations, and no batch
abbrev pub empty : ℕ → List ℕ → Sheet
empty m calibrations =
    held m 0 calibrations (replicate 200 0) (replicate 200 0) (replicate 200 0) (replicate 200 0) (replicate 4800 0)

-- the value in the sheet's place where there is none
abbrev pub blank : Sheet
blank = empty 0 (replicate 24 0)
