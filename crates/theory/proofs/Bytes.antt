-- The first 33,959 bytes decide: line 1 has 13 bytes, line 2 at most 145 and a batch line at most 169, so the longest sheet has
-- 33,958 bytes, and one byte more shows that a file is longer. And a refusal's line is at most 203.
use Prim.Native.Nat.{ℕ, zero, suc, ◌+◌, ◌-◌, ◌*◌, ◌≤◌}
use mathlib.Core.Path.{◌≡◌, refl}
use mathlib.Core.List.{List, [], ◌∷◌, ◌++◌}
use native.Mathlib.Omega.{arith}
use lib.ListN.{take, drop}
use Rattle.rules.specs.Sheet.{Batch}
use Rattle.rules.specs.Refusal.{Refusal}
use Rattle.rules.specs.Read.{Part, Head, Reading, refused_at, on_line, batch_lines, lines_after, read}
use Rattle.theory.proofs.Extent.{Near, refuse, give, Sizes, head_near, calibration-near, batch-near}

line-near : {X : Type 0} {P : X → Type 0} {b w : ℕ} {r : List ℕ} {p q : Part X} (j : ℕ) (f : X → List ℕ → Reading)
    → Near P b w r p q
    → ((x : X) (k : ℕ) → P x → k ≤ b → f x (take (w - k) (drop k r)) ≡ f x (drop k r))
    → on_line j q f ≡ on_line j p f
line-near j f (refuse e) n = refl
line-near j f (give x k a i l) n = n x k a i

lines-near : (m : ℕ) (l : List ℕ) (c j : ℕ) (bs : List Batch) (w : ℕ) (r : List ℕ) → m ≤ 24 → 169 * c + 1 ≤ w
    → batch_lines m l c j bs (take w r) ≡ batch_lines m l c j bs r
unfolding batch_lines
lines-near m l zero j bs zero r g h = absurd (omega arith)
lines-near m l zero j bs (suc w) [] g h = refl
lines-near m l zero j bs (suc w) (x ∷ r) g h = refl
lines-near m l (suc c) j bs w r g h =
    line-near j _ (batch-near m w r g (omega arith))
    (λ b k a i. lines-near m l c (suc j) (bs ++ (b ∷ [])) (w - k) (drop k r) g (omega arith))

after-near : (h : Head) (w : ℕ) (r : List ℕ) → Sizes h → 145 + 169 * 200 + 1 ≤ w → lines_after h (take w r) ≡ lines_after h r
unfolding lines_after
after-near h w r a g =
    line-near 2 _ (calibration-near h.m w r a.instruments (omega arith))
    (λ l k b i. lines-near h.m l h.n 3 [] (w - k) (drop k r) a.instruments (omega (arith, a.batches)))

pub read-bounded : (s : List ℕ) → read (take 33959 s) ≡ read s
unfolding read
read-bounded s =
    line-near 1 _ (head_near 33959 s (omega arith)) (λ h k a i. after-near h (33959 - k) (drop k s) a (omega arith))

-- ---- the line of a refusal

line-most : {X : Type 0} {P : X → Type 0} {b w : ℕ} {r : List ℕ} {p q : Part X} {g : Refusal} {i : ℕ} (j c : ℕ)
    (f : X → List ℕ → Reading) → Near P b w r p q → on_line j p f ≡ refused_at g i → j ≤ c
    → ((x : X) (k : ℕ) → P x → f x (drop k r) ≡ refused_at g i → i ≤ c) → i ≤ c
line-most {i = i} j c f (refuse g) e l n = let z : j ≡ i = cc in omega arith
line-most j c f (give x k a u v) e l n = n x k a e

lines-most : (m : ℕ) (l : List ℕ) (c j : ℕ) (bs : List Batch) (r : List ℕ) (g : Refusal) (i : ℕ) → m ≤ 24
    → batch_lines m l c j bs r ≡ refused_at g i → i ≤ j + c
unfolding batch_lines
lines-most m l zero j bs [] g i h e = absurd (let z : ◌≡◌ {A = ℕ} 0 1 = cc in omega arith)
lines-most m l zero j bs (x ∷ r) g i h e = let z : j ≡ i = cc in omega arith
lines-most m l (suc c) j bs r g i h e =
    line-most j (j + suc c) _ (batch-near m 169 r h (omega arith)) e (omega arith)
    (λ b k a d. omega (arith, lines-most m l c (suc j) (bs ++ (b ∷ [])) (drop k r) g i h d))

after-most : (h : Head) (r : List ℕ) (g : Refusal) (i : ℕ) → Sizes h → lines_after h r ≡ refused_at g i → i ≤ 203
unfolding lines_after
after-most h r g i a e =
    line-most 2 203 _ (calibration-near h.m 145 r a.instruments (omega arith)) e (omega arith)
    (λ l k b d. omega (arith, a.batches, lines-most h.m l h.n 3 [] (drop k r) g i a.instruments d))

pub refused-line : (s : List ℕ) (g : Refusal) (i : ℕ) → read s ≡ refused_at g i → i ≤ 203
unfolding read
refused-line s g i e =
    line-most 1 203 _ (head_near 13 s (omega arith)) e (omega arith) (λ h k a d. after-most h (drop k s) g i a d)
