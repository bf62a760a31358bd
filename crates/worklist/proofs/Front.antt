-- Laws of going on with what was read, and of where a field of the grammar ends.
use Prim.Native.Nat.{ℕ}
use mathlib.Core.Path.{◌≡◌, refl}
use mathlib.Core.Bool.{Bool, true, false}
use mathlib.Core.List.{List, [], ◌∷◌}
use mathlib.Core.Option.{Option, some, none}
use lib.Dec.{eqb}
use Rattle.rules.specs.Fold.{pick}
use Rattle.rules.specs.Csv.{is_text, Rest, rest, broken, grow, another, last, record_end, record_at}
use Rattle.rules.specs.Worklist.{when_some}
use Rattle.worklist.specs.Rows.{Front, gives, fails, and_then, or_fail}
use Rattle.worklist.proofs.Bytes.{text-comma, text-cr, no_end}

-- go on with the rest of a record: the field at hand, the fields after it, the bytes after the record
abbrev pub on_rest : {Y : Type 0} → Rest → (List ℕ → List (List ℕ) → List ℕ → Front Y) → Front Y
on_rest (rest f fs r) k = k f fs r
on_rest broken k = fails

module _ {Y : Type 0} where
  pub rest-grow : (x : ℕ) (p : Rest) (k : List ℕ → List (List ℕ) → List ℕ → Front Y)
      → on_rest (grow x p) k ≡ on_rest p (λ f fs r. k (x ∷ f) fs r)
  rest-grow x (rest f fs r) k = refl
  rest-grow x broken k = refl

  pub rest-fails : (p : Rest) (k : List ℕ → List (List ℕ) → List ℕ → Front Y)
      → ((f : List ℕ) (fs : List (List ℕ)) (r : List ℕ) → k f fs r ≡ fails) → on_rest p k ≡ fails
  rest-fails (rest f fs r) k h = h f fs r
  rest-fails broken k h = refl

  pub rest-same : (p : Rest) (k h : List ℕ → List (List ℕ) → List ℕ → Front Y)
      → ((f : List ℕ) (fs : List (List ℕ)) (r : List ℕ) → k f fs r ≡ h f fs r) → on_rest p k ≡ on_rest p h
  rest-same (rest f fs r) k h e = e f fs r
  rest-same broken k h e = refl

  rest-another : (p : Rest) (k : List ℕ → List (List ℕ) → List ℕ → Front Y)
      → on_rest (another p) k ≡ on_rest p (λ f fs r. k [] (f ∷ fs) r)
  rest-another (rest f fs r) k = refl
  rest-another broken k = refl

  rest-last : (o : Option (List ℕ)) (k : List ℕ → List (List ℕ) → List ℕ → Front Y)
      → on_rest (last o) k ≡ or_fail o (λ r. k [] [] r)
  rest-last (some r) k = refl
  rest-last none k = refl

  pub then_same : {X : Type 0} (p : Front X) (k h : X → List ℕ → Front Y) → ((x : X) (r : List ℕ) → k x r ≡ h x r)
      → and_then p k ≡ and_then p h
  then_same (gives x r) k h e = e x r
  then_same fails k h e = refl

  pub or_same : {X : Type 0} (o : Option X) (k h : X → Front Y) → ((x : X) → k x ≡ h x) → or_fail o k ≡ or_fail o h
  or_same (some x) k h e = e x
  or_same none k h e = refl

  pub or-fails : {X : Type 0} (o : Option X) (k : X → Front Y) → ((x : X) → k x ≡ fails) → or_fail o k ≡ fails
  or-fails (some x) k h = h x
  or-fails none k h = refl

  pub or-when : {X Z : Type 0} (o : Option X) (k : X → Option Z) (h : Z → Front Y)
      → or_fail (when_some o k) h ≡ or_fail o (λ x. or_fail (k x) h)
  or-when (some x) k h = refl
  or-when none k h = refl

-- ---- after a field

-- a field has ended: the record's other fields follow, or the record ends
abbrev pub after : {Y : Type 0} → (List (List ℕ) → List ℕ → Front Y) → List ℕ → Front Y
after k [] = or_fail (record_end []) (λ r. k [] r)
after k (x ∷ s) =
    pick (eqb x 44) (on_rest (record_at s) (λ f fs r. k (f ∷ fs) r)) (or_fail (record_end (x ∷ s)) (λ r. k [] r))

module _ {Y : Type 0} where
  pub after_same : (s : List ℕ) (k h : List (List ℕ) → List ℕ → Front Y) → ((fs : List (List ℕ)) (r : List ℕ) → k fs r ≡ h fs r)
      → after k s ≡ after h s
  after_same [] k h e = or_same (record_end []) _ _ (λ r. e [] r)
  after_same (x ∷ s) k h e = by (eqb x 44)
    where
      by : (t : Bool)
          → pick t (on_rest (record_at s) (λ f fs r. k (f ∷ fs) r)) (or_fail (record_end (x ∷ s)) (λ r. k [] r))
          ≡ pick t (on_rest (record_at s) (λ f fs r. h (f ∷ fs) r)) (or_fail (record_end (x ∷ s)) (λ r. h [] r))
      by true = rest-same (record_at s) _ _ (λ f fs r. e (f ∷ fs) r)
      by false = or_same (record_end (x ∷ s)) _ _ (λ r. e [] r)

  -- where a field ends in the grammar
  pub field-ends : (x : ℕ) (s : List ℕ) (k : List ℕ → List (List ℕ) → List ℕ → Front Y)
      → on_rest (pick (eqb x 44) (another (record_at s)) (last (record_end (x ∷ s)))) k ≡ after (λ fs r. k [] fs r) (x ∷ s)
  field-ends x s k = by (eqb x 44)
    where
      by : (t : Bool)
          → on_rest (pick t (another (record_at s)) (last (record_end (x ∷ s)))) k
          ≡ pick t (on_rest (record_at s) (λ f fs r. k [] (f ∷ fs) r)) (or_fail (record_end (x ∷ s)) (λ r. k [] [] r))
      by true = rest-another (record_at s) k
      by false = rest-last (record_end (x ∷ s)) k

  pub after-fails : (s : List ℕ) (k : List (List ℕ) → List ℕ → Front Y) → ((fs : List (List ℕ)) (r : List ℕ) → k fs r ≡ fails)
      → after k s ≡ fails
  after-fails [] k h = or-fails (record_end []) _ (λ r. h [] r)
  after-fails (x ∷ s) k h = by (eqb x 44)
    where
      by : (t : Bool)
          → pick t (on_rest (record_at s) (λ f fs r. k (f ∷ fs) r)) (or_fail (record_end (x ∷ s)) (λ r. k [] r)) ≡ fails
      by true = rest-fails (record_at s) _ (λ f fs r. h (f ∷ fs) r)
      by false = or-fails (record_end (x ∷ s)) _ (λ r. h [] r)

  -- neither a comma nor the record's end
  pub after-not : (x : ℕ) (s : List ℕ) (k : List (List ℕ) → List ℕ → Front Y) → eqb x 44 ≡ false → eqb x 13 ≡ false
      → after k (x ∷ s) ≡ fails
  after-not x s k c e = rw (c, no_end x s e)

  pub after_text : (x : ℕ) (s : List ℕ) (k : List (List ℕ) → List ℕ → Front Y) → is_text x ≡ true → after k (x ∷ s) ≡ fails
  after_text x s k t = after-not x s k (text-comma x t) (text-cr x t)
