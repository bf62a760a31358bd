-- Laws of a list made of its entries, and of zeros behind a list.
use Prim.Native.Nat.{ℕ, zero, suc, ◌≤◌, ◌<◌}
use mathlib.Core.Path.{◌≡◌, refl, ◌∙◌}
use mathlib.Core.List.{List, [], ◌∷◌, ◌++◌}
use native.Mathlib.Nat.{le_refl}
use native.Mathlib.Omega.{arith}
use lib.ListN.{length, get_or, take, replicate, length-append, get_or-append}
use lib.Seq.{take-suc, get_or_at}
use lib.Dec.{ltb}
use borrow.Author.Tests.{ltb-true, ltb-false}
use Rattle.rules.specs.Fold.{at, list_to}
use Rattle.theory.proofs.Logic.{by_test}

pub length-list_to : (n : ℕ) (f : ℕ → ℕ) → length (list_to n f) ≡ n
unfolding list_to
length-list_to zero f = refl
length-list_to (suc n) f = omega (arith, length-append (list_to n f) (f (suc n) ∷ []), length-list_to n f)

pub get_d-list_to : (n : ℕ) (f : ℕ → ℕ) (k : ℕ) → k < n → get_or (list_to n f) k 0 ≡ f (suc k)
unfolding list_to
get_d-list_to zero f k h = absurd (omega arith)
get_d-list_to (suc n) f k h =
    by_test (ltb k n)
    (λ t. let g : k < n = ltb-true k n t in
    get_or-append (list_to n f) (f (suc n) ∷ []) 0 k (omega (arith, length-list_to n f)) ∙ get_d-list_to n f k g)
    (λ t. let g : k ≡ n = omega (arith, ltb-false k n t) in
    rw g (get_or_at (list_to n f) (f (suc n)) [] 0 n (length-list_to n f)))

pub list_to-ext : (n : ℕ) (f g : ℕ → ℕ) → ((i : ℕ) → 0 < i → i ≤ n → f i ≡ g i) → list_to n f ≡ list_to n g
unfolding list_to
list_to-ext zero f g h = refl
list_to-ext (suc n) f g h = rw (list_to-ext n f g (λ i l u. h i l (omega arith)), h (suc n) (omega arith) (le_refl (suc n)))

-- a list's front part, by its entries
pub take-list : (k : ℕ) (l : List ℕ) (f : ℕ → ℕ) → k ≤ length l → ((i : ℕ) → 0 < i → i ≤ k → at l i ≡ f i) → take k l ≡ list_to k f
unfolding list_to
take-list zero l f u h = refl
take-list (suc k) l f u h =
    rw (take-suc l k 0, take-list k l f (omega arith) (λ i l u. h i l (omega arith)), h (suc k) (omega arith) (le_refl (suc k)))

zeros : (k n : ℕ) → ◌≡◌ {A = ℕ} (get_or (replicate k 0) n 0) 0
zeros zero n = refl
zeros (suc k) zero = refl
zeros (suc k) (suc n) = zeros k n

pub get_d-zeros : (l : List ℕ) (k n : ℕ) → get_or (l ++ replicate k 0) n 0 ≡ get_or l n 0
get_d-zeros [] k n = zeros k n
get_d-zeros (x ∷ l) k zero = refl
get_d-zeros (x ∷ l) k (suc n) = get_d-zeros l k n
