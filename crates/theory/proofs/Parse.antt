-- Reading, then writing: what is read without refusal is the file of a description within the limits.
use Prim.Native.Nat.{ℕ, zero, suc}
use mathlib.Core.Path.{◌≡◌, refl, sym, ap, ap₂, ◌∙◌, subst}
use mathlib.Core.Bool.{Bool, true, false, not}
use mathlib.Core.List.{List, [], ◌∷◌, ◌++◌, map, append-nil, append_assoc}
use native.Mathlib.Omega.{arith}
use lib.ListN.{length, drop}
use lib.Dec.{leb, eqb}
use borrow.Author.Tests.{leb-true, eqb-true, eq-eqb, not-true}
use Rattle.rules.specs.Fold.{◌and◌, mem, every}
use Rattle.rules.specs.Refusal.{Refusal}
use Rattle.rules.specs.Sheet.{Book, Batch, max_batches, good_instruments, good_minutes, good_calibration, good_calibrations, is_instrument, distinct, good_list, ascending}
use Rattle.rules.specs.Field.{Field, value, blank, fault, field}
use Rattle.rules.specs.Read.{Part, gives, refuses, and_then, or_refuse, field_part, number_at, blank_zero, place_at, end_of_line, Head, head_line, calibrations_at, calibration_line, mark_at, instruments_at, good_place, batch_line, Reading, accepted, refused_at, on_line, batch_lines, lines_after, read}
use Rattle.rules.specs.Render.{columns, fields, line, Given, numbered, left_blank, given_number, given_columns, mark, Described, Description, render_batch, render_batches, render, batch_within_limits, within_limits, placed, book_said}
use Rattle.theory.proofs.Logic.{and_left, and_right, and-mk}
use Rattle.theory.proofs.Field.{field-value, field-blank}
use Rattle.theory.proofs.Format.{mark-said, distinct_snoc, line-rest, batch-rest}

-- ---- a part that gives, and what the rest of a proof is told of it

no_part {ℓ} : {X : Type 0} {Y : Type ℓ} {e : Refusal} {x : X} {r : List ℕ} → refuses e ≡ gives x r → Y
no_part e = absurd (let z : ◌≡◌ {A = ℕ} 0 1 = cc in omega arith)

pub no-reading {ℓ} : {Y : Type ℓ} {e : Refusal} {j : ℕ} {k : Book} → refused_at e j ≡ accepted k → Y
no-reading e = absurd (let z : ◌≡◌ {A = ℕ} 0 1 = cc in omega arith)

module _ {X C : Type 0} where
  -- what was given
  gave : {x y : X} {r s : List ℕ} → gives x r ≡ gives y s → (x ≡ y → r ≡ s → C) → C
  gave {x} {y} {r} {s} e f = let p : x ≡ y = cc in let q : r ≡ s = cc in f p q

  then-gives : {Y : Type 0} {y : Y} {s : List ℕ} (p : Part X) (next : X → List ℕ → Part Y) → and_then p next ≡ gives y s
      → ((x : X) (r : List ℕ) → p ≡ gives x r → next x r ≡ gives y s → C) → C
  then-gives (gives x r) next e f = f x r refl e
  then-gives (refuses g) next e f = no_part e

  or-gives : {x : X} {s : List ℕ} (t : Bool) (g : Refusal) (p : Part X) → or_refuse t g p ≡ gives x s
      → (t ≡ true → p ≡ gives x s → C) → C
  or-gives true g p e f = f refl e
  or-gives false g p e f = no_part e

  end-gives : {x : X} {s : List ℕ} (r : List ℕ) (next : List ℕ → Part X) → end_of_line r next ≡ gives x s
      → ((u : List ℕ) → r ≡ 10 ∷ u → next u ≡ gives x s → C) → C
  unfolding end_of_line
  end-gives [] next e f = no_part e
  end-gives (z ∷ u) next e f =
      or-gives (eqb z 10) _ (next u) e (λ t h. f u (ap (λ (z : ℕ). z ∷ u) (eqb-true z 10 t)) h)

  line-accepted : {k : Book} (j : ℕ) (p : Part X) (next : X → List ℕ → Reading) → on_line j p next ≡ accepted k
      → ((x : X) (r : List ℕ) → p ≡ gives x r → next x r ≡ accepted k → C) → C
  line-accepted j (gives x r) next e f = f x r refl e
  line-accepted j (refuses g) next e f = no-reading e

-- ---- fields

number-gives : (r : List ℕ) (v : ℕ) (s : List ℕ) → number_at r ≡ gives v s → r ≡ columns 6 v ++ s
unfolding number_at
number-gives r v s e = from (field r) refl e
  where
    from : (f : Field) → field r ≡ f → field_part f (drop 6 r) ≡ gives v s → r ≡ columns 6 v ++ s
    from (value w) q h =
        let a : w ≡ v = cc in
        let b : drop 6 r ≡ s = cc in
        (field-value r w q).1 ∙ ap₂ (λ (x : ℕ) (u : List ℕ). columns 6 x ++ u) a b
    from blank q h = no_part h
    from fault q h = no_part h

-- a mark that is read is written by its number
mark-gives : (r : List ℕ) (s : Bool) (u : List ℕ) → mark_at r ≡ gives s u → number_at r ≡ gives (mark s) u
unfolding mark_at
mark-gives r s u e =
    then-gives (number_at r) _ e (λ v r₁ e₁ h₁.
    or-gives (leb v 1) _ _ h₁ (λ o h₂.
    gave h₂ (λ p q. e₁ ∙ ap₂ (λ (w : ℕ) (z : List ℕ). gives w z) (sym (mark-said v (leb-true v 1 o)) ∙ ap mark p) q)))

-- a place: its columns are those of a number, or blank
place-gives : {Y C : Type 0} {y : Y} {s : List ℕ} (r : List ℕ) (next : ℕ → List ℕ → Part Y) → and_then (place_at r) next ≡ gives y s
    → ((p : Given) (u : List ℕ) → given_columns p ++ u ≡ r → next (given_number p) u ≡ gives y s → C) → C
unfolding place_at
place-gives {C = C} {y = y} {s = s} r next e f = from (field r) refl e
  where
    from : (g : Field) → field r ≡ g → and_then (field_part (blank_zero g) (drop 6 r)) next ≡ gives y s → C
    from (value v) q h = f (numbered v) (drop 6 r) (sym (field-value r v q).1) h
    from blank q h = f left_blank (drop 6 r) (sym (field-blank r q)) h
    from fault q h = no_part h

-- a number before further fields
number-wrote : (r : List ℕ) (v : ℕ) (s xs u : List ℕ) → number_at r ≡ gives v s → fields xs ++ u ≡ s
    → fields (v ∷ xs) ++ u ≡ r
unfolding fields
number-wrote r v s xs u e h =
    append_assoc (columns 6 v) (fields xs) u ∙ ap (λ (z : List ℕ). columns 6 v ++ z) h ∙ sym (number-gives r v s e)

-- ---- a list of instruments

-- the instruments read, after those of l
record Listed (m c : ℕ) (l r k s : List ℕ) : Type 0 where
  xs : List ℕ
  count : length xs ≡ c
  all : l ++ xs ≡ k
  wrote : fields xs ++ s ≡ r
  ranged : every (is_instrument m) xs ≡ true
  apart : distinct k ≡ true

instruments-wrote : (m c : ℕ) (l r k s : List ℕ) → distinct l ≡ true → instruments_at m c l r ≡ gives k s → Listed m c l r k s
unfolding instruments_at fields every
instruments-wrote m zero l r k s d e =
    gave e (λ p q. record { xs = []; count = refl; all = append-nil l ∙ p; wrote = sym q; ranged = refl; apart = rw p at d })
instruments-wrote m (suc c) l r k s d e =
    then-gives (number_at r) _ e (λ i r₁ e₁ h₁.
    or-gives (is_instrument m i and not (mem i l)) _ _ h₁ (λ o h₂.
    let z : mem i l ≡ false = not-true _ (and_right (is_instrument m i) _ o) in
    let t = instruments-wrote m c (l ++ (i ∷ [])) r₁ k s (distinct_snoc l i d z) h₂ in
    record {
      xs = i ∷ t.xs;
      count = ap suc t.count;
      all = sym (append_assoc l (i ∷ []) t.xs) ∙ t.all;
      wrote = number-wrote r i r₁ t.xs s e₁ t.wrote;
      ranged = and-mk _ _ (and_left _ _ o) t.ranged;
      apart = t.apart;
    }))

-- all of them are instruments
pub instruments-ranged : (m c : ℕ) (r l s : List ℕ) → instruments_at m c [] r ≡ gives l s → every (is_instrument m) l ≡ true
unfolding distinct
instruments-ranged m c r l s e =
    let x = instruments-wrote m c [] r l s refl e in
    subst (λ (k : List ℕ). every (is_instrument m) k ≡ true) x.all x.ranged

-- ---- a batch line

-- the description that a batch line is written from
record LineWrote (m : ℕ) (r : List ℕ) (b : Batch) (s : List ℕ) : Type 0 where
  d : Described
  fit : batch_within_limits m d ≡ true
  same : placed d ≡ b
  wrote : render_batch d ++ s ≡ r

good-list : (m : ℕ) (l : List ℕ) → leb 1 (length l) and leb (length l) m ≡ true → every (is_instrument m) l ≡ true
    → distinct l ≡ true → good_list m l ≡ true
unfolding good_list
good-list m l c r d = and-mk _ _ (and_left _ _ c) (and-mk _ _ (and_right (leb 1 (length l)) _ c) (and-mk _ _ r d))

-- the count and the instruments of a line
counted : (m c : ℕ) (r r₁ l s : List ℕ) → number_at r ≡ gives c r₁ → leb 1 c and leb c m ≡ true
    → instruments_at m c [] r₁ ≡ gives l s → (good_list m l ≡ true) × (fields (length l ∷ l) ++ s ≡ r)
unfolding distinct
counted m c r r₁ l s e o h =
    let x = instruments-wrote m c [] r₁ l s refl h in
    let n : c ≡ length l = sym x.count ∙ ap length x.all in (
      good-list m l (subst (λ (i : ℕ). leb 1 i and leb i m ≡ true) n o) (instruments-ranged m c r₁ l s h) x.apart,
      number-wrote r (length l) r₁ l s (e ∙ ap (λ (i : ℕ). gives i r₁) n)
          (ap (λ (k : List ℕ). fields k ++ s) (sym x.all) ∙ x.wrote),
    )

batch-wrote : (m : ℕ) (r : List ℕ) (b : Batch) (s : List ℕ) → batch_line m r ≡ gives b s → LineWrote m r b s
unfolding batch_line batch_within_limits
batch-wrote m r b s e =
    then-gives (number_at r) _ e (λ t r₁ e₁ h₁.
    or-gives (good_minutes t) _ _ h₁ (λ o₁ h₂.
    place-gives r₁ _ h₂ (λ p r₂ e₂ h₃.
    then-gives (mark_at r₂) _ h₃ (λ a r₃ e₃ h₄.
    then-gives (number_at r₃) _ h₄ (λ c r₄ e₄ h₅.
    or-gives (leb 1 c and leb c m) _ _ h₅ (λ o₂ h₆.
    then-gives (instruments_at m c [] r₄) _ h₆ (λ l r₅ e₅ h₇.
    or-gives (ascending l) _ _ h₇ (λ o₃ h₈.
    end-gives r₅ _ h₈ (λ r₆ e₆ h₉.
    or-gives (good_place a (given_number p) l) _ _ h₉ (λ o₄ h₁₀.
    gave h₁₀ (λ same z.
    let g = counted m c r₃ r₄ l r₅ e₄ o₂ e₅ in
    let w : 10 ∷ s ≡ r₅ = ap (λ (u : List ℕ). 10 ∷ u) (sym z) ∙ sym e₆ in
    let x : fields (length l ∷ l) ++ (10 ∷ s) ≡ r₃ = ap (λ (u : List ℕ). fields (length l ∷ l) ++ u) w ∙ g.1 in
    let y = number-wrote r₂ (mark a) r₃ (length l ∷ l) (10 ∷ s) (mark-gives r₂ a r₃ e₃) x in
    record {
      d = record { minutes = t; list = l; place = p; started = a };
      fit = and-mk _ _ o₁ (and-mk _ _ g.0 (and-mk _ _ o₃ o₄));
      same = same;
      wrote =
          batch-rest (record { minutes = t; list = l; place = p; started = a }) s
          ∙ ap (λ (u : List ℕ). columns 6 t ++ u) (ap (λ (u : List ℕ). given_columns p ++ u) y ∙ e₂)
          ∙ sym (number-gives r t r₁ e₁);
    })))))))))))

-- ---- the batch lines

-- the descriptions that batch lines are written from, after the calibrations l and the batches bs
record Lines (m : ℕ) (l : List ℕ) (c : ℕ) (bs : List Batch) (r : List ℕ) (k : Book) : Type 0 where
  ds : List Described
  count : length ds ≡ c
  fit : every (batch_within_limits m) ds ≡ true
  same : record { m = m; calibrations = l; batches = bs ++ map placed ds } ≡ k
  wrote : render_batches ds ≡ r

batches-wrote : (m : ℕ) (l : List ℕ) (c j : ℕ) (bs : List Batch) (r : List ℕ) (k : Book) → batch_lines m l c j bs r ≡ accepted k
    → Lines m l c bs r k
unfolding batch_lines render_batches every
batches-wrote m l zero j bs [] k e =
    let q : record { m = m; calibrations = l; batches = bs } ≡ k = cc in
    record {
      ds = [];
      count = refl;
      fit = refl;
      same = ap (λ (u : List Batch). record { m = m; calibrations = l; batches = u }) (append-nil bs) ∙ q;
      wrote = refl;
    }
batches-wrote m l zero j bs (x ∷ r) k e = no-reading e
batches-wrote m l (suc c) j bs r k e =
    line-accepted j (batch_line m r) _ e (λ b r₁ e₁ h₁.
    let x = batch-wrote m r b r₁ e₁ in
    let t = batches-wrote m l c (suc j) (bs ++ (b ∷ [])) r₁ k h₁ in
    record {
      ds = x.d ∷ t.ds;
      count = ap suc t.count;
      fit = and-mk _ _ x.fit t.fit;
      same =
          ap (λ (u : List Batch). record { m = m; calibrations = l; batches = u })
          (ap (λ (h : Batch). bs ++ (h ∷ map placed t.ds)) x.same ∙ sym (append_assoc bs (b ∷ []) (map placed t.ds)))
          ∙ t.same;
      wrote = ap (λ (u : List ℕ). render_batch x.d ++ u) t.wrote ∙ x.wrote;
    })

-- ---- line 2: the calibrations

-- the calibrations read, after those of l
record Calibrated (c : ℕ) (l r k s : List ℕ) : Type 0 where
  xs : List ℕ
  count : length xs ≡ c
  all : l ++ xs ≡ k
  wrote : fields xs ++ s ≡ r
  fit : every good_calibration xs ≡ true

calibrations-wrote : (c : ℕ) (l r k s : List ℕ) → calibrations_at c l r ≡ gives k s → Calibrated c l r k s
unfolding calibrations_at fields every
calibrations-wrote zero l r k s e =
    gave e (λ p q. record { xs = []; count = refl; all = append-nil l ∙ p; wrote = sym q; fit = refl })
calibrations-wrote (suc c) l r k s e =
    then-gives (number_at r) _ e (λ v r₁ e₁ h₁.
    or-gives (good_calibration v) _ _ h₁ (λ o h₂.
    let t = calibrations-wrote c (l ++ (v ∷ [])) r₁ k s h₂ in
    record {
      xs = v ∷ t.xs;
      count = ap suc t.count;
      all = sym (append_assoc l (v ∷ []) t.xs) ∙ t.all;
      wrote = number-wrote r v r₁ t.xs s e₁ t.wrote;
      fit = and-mk _ _ o t.fit;
    }))

calibration-line-wrote : (m : ℕ) (r l s : List ℕ) → calibration_line m r ≡ gives l s
    → (good_calibrations m l ≡ true) × (line l ++ s ≡ r)
unfolding calibration_line good_calibrations
calibration-line-wrote m r l s e =
    then-gives (calibrations_at m [] r) _ e (λ k r₁ e₁ h₁.
    end-gives r₁ _ h₁ (λ r₂ e₂ h₂.
    gave h₂ (λ p z.
    let x = calibrations-wrote m [] r k r₁ e₁ in
    let q : x.xs ≡ l = x.all ∙ p in
    let w : 10 ∷ s ≡ r₁ = ap (λ (u : List ℕ). 10 ∷ u) (sym z) ∙ sym e₂ in
    subst (λ (i : List ℕ). (good_calibrations m i ≡ true) × (line i ++ s ≡ r)) q (
      and-mk _ _ (eq-eqb _ _ x.count) x.fit,
      line-rest x.xs s ∙ ap (λ (u : List ℕ). fields x.xs ++ u) w ∙ x.wrote,
    ))))

-- ---- the file

-- line 1 is within the limits, and written from what it gives
record Headed (r : List ℕ) (h : Head) (s : List ℕ) : Type 0 where
  instruments : good_instruments h.m ≡ true
  room : leb h.n max_batches ≡ true
  wrote : line (h.m ∷ h.n ∷ []) ++ s ≡ r

head-wrote : (r : List ℕ) (h : Head) (s : List ℕ) → head_line r ≡ gives h s → Headed r h s
unfolding head_line fields
head-wrote r h s e =
    then-gives (number_at r) _ e (λ m r₁ e₁ h₁.
    or-gives (good_instruments m) _ _ h₁ (λ o₁ h₂.
    then-gives (number_at r₁) _ h₂ (λ n r₂ e₂ h₃.
    or-gives (leb n max_batches) _ _ h₃ (λ o₂ h₄.
    end-gives r₂ _ h₄ (λ r₃ e₃ h₅.
    gave h₅ (λ q z.
    subst (λ (i : Head). Headed r i s) q
    (record {
      instruments = o₁;
      room = o₂;
      wrote =
          line-rest (m ∷ n ∷ []) s
          ∙ number-wrote r m r₁ (n ∷ []) (10 ∷ s) e₁
          (number-wrote r₁ n r₂ [] (10 ∷ s) e₂ (ap (λ (u : List ℕ). 10 ∷ u) (sym z) ∙ sym e₃));
    })))))))

pub read-is-render : (s : List ℕ) (k : Book) → read s ≡ accepted k
    → (d : Description) × (within_limits d ≡ true) × (book_said d ≡ k) × (render d ≡ s)
unfolding read lines_after within_limits render
read-is-render s k e =
    line-accepted 1 (head_line s) _ e (λ h r e₁ h₁.
    line-accepted 2 (calibration_line h.m r) _ h₁ (λ l r₁ e₂ h₂.
    let g = head-wrote s h r e₁ in
    let c = calibration-line-wrote h.m r l r₁ e₂ in
    let t = batches-wrote h.m l h.n 3 [] r₁ k h₂ in
    let n : leb (length t.ds) max_batches ≡ true = subst (λ (i : ℕ). leb i max_batches ≡ true) (sym t.count) g.room in (
      record { m = h.m; calibrations = l; batches = t.ds },
      and-mk _ _ g.instruments (and-mk _ _ c.0 (and-mk _ _ n t.fit)),
      t.same,
      ap₂ (λ (i : ℕ) (u : List ℕ). line (h.m ∷ i ∷ []) ++ u) t.count (ap (λ (u : List ℕ). line l ++ u) t.wrote ∙ c.1)
          ∙ g.wrote,
    )))
