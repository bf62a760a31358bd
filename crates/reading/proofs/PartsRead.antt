-- What is known of a part that was read: its refusal, or what the rules give there and where they go on.
use Prim.Native.Nat.{ℕ, suc, ◌+◌, ◌-◌, ◌≤◌}
use mathlib.Core.Path.{◌≡◌, refl, sym, ap, ◌∙◌}
use mathlib.Core.List.{List, [], ◌∷◌, ◌++◌}
use native.Mathlib.Omega.{arith}
use lib.ListN.{length, take, drop, replicate, length-drop}
use lib.Seq.{drop-drop, take_at}
use Rattle.std.specs.Prelude.{Ok, Err}
use Rattle.rules.specs.Sheet.{Batch}
use Rattle.rules.specs.Read.{Part, gives, refuses, calibration_line, batch_line, Reading, on_line, batch_lines, lines_after}
use Rattle.rules.specs.Render.{mark}
use Rattle.theory.proofs.Extent.{took, short, batch-near, calibration-near}
use Rattle.sheet.specs.declared.Fault.{Fault}
use Rattle.sheet.specs.Represent.{padded}
use Rattle.sheet.specs.Answers.{coded, fault, read_as}
use Rattle.reading.specs.declared.Calibrated.{Calibrated}
use Rattle.reading.specs.declared.Line.{Line}
use Rattle.reading.specs.Lines.{calibrated_as, line_as}

-- what follows k bytes from at on is found again by its length
pub suffix : (s : List ℕ) (at k : ℕ) (u : List ℕ) → at ≤ length s → k ≤ length (drop at s) → drop k (drop at s) ≡ u
    → drop (length s - length u) s ≡ u
suffix s at k u h l v =
    let a : length (drop k (drop at s)) ≡ length u = ap length v in
    let e : length s - length u ≡ at + k = omega (arith, length-drop at s, length-drop k (drop at s)) in
    ap (λ (i : ℕ). drop i s) e ∙ sym (drop-drop k at s) ∙ v

-- ---- a batch line

-- the batch b, where the next line starts at next
abbrev pub line_of : Batch → ℕ → Line
line_of b next = record {
  minutes = b.minutes;
  place = b.place;
  started = mark b.started;
  count = length b.list;
  list = padded 24 b.list;
  next = next;
}

module _ (s : List ℕ) (at : ℕ) (h : at ≤ length s) where
  pub record LineGiven (m : ℕ) (i : Line) : Type 0 where
    pub batch : Batch
    pub part : batch_line m (drop at s) ≡ gives batch (drop i.next s)
    pub room : i.next ≤ length s
    pub short : short batch
    pub is : i ≡ line_of batch i.next

  pub line-given : (m j : ℕ) {i : Line} → m ≤ 24 → Ok i ≡ line_as (length s) j (batch_line m (drop at s)) → LineGiven m i
  line-given m j {i} g e = from (batch_line m (drop at s)) refl e
    where
      from : (p : Part Batch) → batch_line m (drop at s) ≡ p → Ok i ≡ line_as (length s) j p → LineGiven m i
      from (refuses z) q d = cc
      from (gives b u) q d =
          took (batch-near m 169 (drop at s) g (omega arith)) q (λ a k z v.
          let x : i ≡ line_of b (length s - length u) = cc in
          let f : drop i.next s ≡ u = ap (λ (x : Line). drop x.next s) x ∙ suffix s at k u h z v in
          record {
            batch = b;
            part = q ∙ ap (gives b) (sym f);
            room = omega (arith, ap (λ (x : Line). x.next) x);
            short = a;
            is = x ∙ ap (line_of b) (sym (ap (λ (x : Line). x.next) x));
          })

-- a refusal is handed on
pub line_refused : (s : List ℕ) (at m : ℕ) (l : List ℕ) (c j : ℕ) (bs : List Batch) {f : Fault}
    → Err f ≡ line_as (length s) j (batch_line m (drop at s)) → Err f ≡ read_as (batch_lines m l (suc c) j bs (drop at s))
unfolding batch_lines
line_refused s at m l c j bs {f} e = from (batch_line m (drop at s)) (λ b r. batch_lines m l c (suc j) (bs ++ (b ∷ [])) r) e
  where
    from : (q : Part Batch) (k : Batch → List ℕ → Reading) → Err f ≡ line_as (length s) j q → Err f ≡ read_as (on_line j q k)
    from (gives b r) k d = cc
    from (refuses g) k d = let z : f ≡ fault (coded g) j = cc in ap Err z

-- ---- line 2

module _ (s : List ℕ) (at m : ℕ) where
  pub record CalibrationsGiven (i : Calibrated) : Type 0 where
    pub part : calibration_line m (drop at s) ≡ gives (take m i.calibrations) (drop i.next s)
    pub room : i.next ≤ length s
    pub row : padded 24 (take m i.calibrations) ≡ i.calibrations

  pub calibrations-given : {i : Calibrated} → at ≤ length s → m ≤ 24 → Ok i ≡ calibrated_as (length s) (calibration_line m (drop at s))
      → CalibrationsGiven i
  calibrations-given {i} h g e = from (calibration_line m (drop at s)) refl e
    where
      from : (p : Part (List ℕ)) → calibration_line m (drop at s) ≡ p → Ok i ≡ calibrated_as (length s) p → CalibrationsGiven i
      from (refuses z) q d = cc
      from (gives l u) q d =
          took (calibration-near m 145 (drop at s) g (omega arith)) q (λ a k z v.
          let x : i ≡ record { calibrations = padded 24 l; next = length s - length u } = cc in
          let f : drop i.next s ≡ u = ap (λ (x : Calibrated). drop x.next s) x ∙ suffix s at k u h z v in
          let c : i.calibrations ≡ padded 24 l = ap (λ (x : Calibrated). x.calibrations) x in
          let t : take m i.calibrations ≡ l = ap (take m) c ∙ take_at l (replicate (24 - length l) 0) m a in
          record {
            part = rw (t, f) q;
            room = omega (arith, ap (λ (x : Calibrated). x.next) x);
            row = ap (padded 24) t ∙ sym c;
          })

  -- a refusal is handed on
  pub calibrations-refused : (n : ℕ) {f : Fault} → Err f ≡ calibrated_as (length s) (calibration_line m (drop at s))
      → Err f ≡ read_as (lines_after (record { m = m; n = n }) (drop at s))
  unfolding lines_after
  calibrations-refused n {f} e = from (calibration_line m (drop at s)) (λ l r. batch_lines m l n 3 [] r) e
    where
      from : (q : Part (List ℕ)) (k : List ℕ → List ℕ → Reading) → Err f ≡ calibrated_as (length s) q → Err f ≡ read_as (on_line 2 q k)
      from (gives l r) k d = cc
      from (refuses g) k d = let z : f ≡ fault (coded g) 2 = cc in ap Err z
