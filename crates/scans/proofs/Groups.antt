-- Groups of machines as lists and as words say the same.
use Prim.Native.Nat.{ℕ, zero, suc, ◌-◌, ◌*◌, ◌/◌, ◌%◌, ◌^◌, ◌≤◌, ◌<◌}
use mathlib.Core.Path.{◌≡◌, refl, sym, ap, ◌∙◌}
use mathlib.Core.Bool.{Bool, true, false}
use mathlib.Core.List.{List, [], ◌∷◌, ◌++◌, append-nil, append_assoc}
use native.Mathlib.Nat.{pow-suc, mod-eq_of_lt, one-mul}
use native.Mathlib.Omega.{arith}
use lib.ListN.{length, take, set, replicate, length-append}
use lib.Seq.{take_at, set_at}
use lib.Pow.{pow_pos, pow_mono}
use lib.Dec.{leb}
use borrow.Author.Tests.{eq-eqb, le-leb, lt-leb, leb-true, leb-false}
use Rattle.rules.specs.Fold.{mem, those_to}
use Rattle.rules.specs.Instance.{Instance, Assignment}
use Rattle.rules.specs.Group.{closure}
use Rattle.theory.proofs.Logic.{by_test}
use Rattle.theory.proofs.Those.{those-mem, those-range}
use Rattle.arrays.specs.Sets.{SetOf}
use Rattle.scans.specs.Grouping.{group_by, HoldsList}
use Rattle.arrays.proofs.Bits.{bit, bit-zero}
use Rattle.arrays.proofs.Words.{has-bit}
use Rattle.arrays.proofs.Masks.{set_same}

-- ---- all machines

ones : (m k : ℕ) → bit (2 ^ m - 1) k ≡ leb (suc k) m
unfolding bit
ones zero k = bit-zero k ∙ sym (lt-leb (suc k) 0 (omega arith))
ones (suc m) zero =
    let p = pow-suc 2 m in
    let q = pow_pos m in
    eq-eqb ((2 ^ suc m - 1) % 2) 1 (omega arith) ∙ sym (le-leb 1 (suc m) (omega arith))
ones (suc m) (suc k) =
    let p = pow-suc 2 m in
    let e : (2 ^ suc m - 1) / 2 ≡ 2 ^ m - 1 = omega arith in
    ap (λ (x : ℕ). bit x k) e ∙ ones m k ∙ leb-suc (suc k) m
  where
    leb-suc : (a b : ℕ) → leb a b ≡ leb (suc a) (suc b)
    leb-suc a b =
        by_test (leb a b)
        (λ t. t ∙ sym (le-leb (suc a) (suc b) (omega (arith, leb-true a b t))))
        (λ t. t ∙ sym (lt-leb (suc a) (suc b) (omega (arith, leb-false a b t))))

pow-few : (m : ℕ) → m ≤ 24 → (0 < 2 ^ m) × (2 ^ m ≤ 2 ^ 24)
pow-few m h = (pow_pos m, pow_mono {i = m} {j = 24} h)

-- as the shift leaves it
all-word : (m : ℕ) → m ≤ 24 → 1 * 2 ^ m % 4294967296 ≡ 2 ^ m
all-word m h = let w = pow-few m h in rw (one-mul (2 ^ m)) (mod-eq_of_lt (omega arith))

pub all_set : (m : ℕ) → m ≤ 24 → SetOf (λ i. leb i m) (1 * 2 ^ m % 4294967296 - 1)
all_set m h = rw (all-word m h) record {
  small = let w = pow-few m h in omega arith;
  each = λ i l u. has-bit (2 ^ m - 1) i ∙ ones m (i - 1) ∙ (let e : suc (i - 1) ≡ i = omega arith in rw e);
}

-- the list of all machines names exactly 1 to m
all-mem : (m i : ℕ) → 0 < i → mem i (those_to m (λ j. true)) ≡ leb i m
all-mem m i i0 =
    by_test (leb i m)
    (λ t. those-mem m (λ j. true) i i0 (leb-true _ _ t) ∙ sym t)
    (λ t. by_test (mem i (those_to m (λ j. true))) (λ u. absurd (omega (arith, those-range m _ i u, leb-false i m t))) (λ u. u ∙ sym t))

-- ---- the group of a failure

module _ (I : Instance) (x : Assignment) (i : ℕ) {some : Bool} {r : ℕ} where
  pub group-some : some ≡ true → SetOf (λ j. mem j (closure I x i)) r → SetOf (λ j. mem j (group_by I x i some)) r
  group-some e s = rw e s

  pub group-all : {m : ℕ} → I.m ≡ m → some ≡ false → SetOf (λ j. leb j m) r → SetOf (λ j. mem j (group_by I x i some)) r
  group-all f e s = rw (e, f) (set_same _ (λ j l u. sym (all-mem _ j l)) s)

-- ---- the list, in an array of 24 with zeros after it

pub holds-none : HoldsList [] (replicate 24 0) 0
holds-none = record { front = refl; count = refl; few = omega arith; padded = refl }

holds_more : (g array : List ℕ) (size v : ℕ) → size < 24 → HoldsList g array size → HoldsList (g ++ (v ∷ [])) (set array size v) (suc size)
holds_more g array size v l h = record {
  front = ap (take (suc size)) stored ∙ take_at _ _ (suc size) long;
  count = sym long;
  few = l;
  padded = stored;
}
  where
    long : length (g ++ (v ∷ [])) ≡ suc size
    long = length-append g (v ∷ []) ∙ (let e = h.count in omega arith)

    left : 24 - size ≡ suc (24 - suc size)
    left = omega arith

    stored : set array size v ≡ (g ++ (v ∷ [])) ++ replicate (24 - suc size) 0
    stored =
        ap (λ (a : List ℕ). set a size v) (h.padded ∙ ap (λ (k : ℕ). g ++ replicate k 0) left)
        ∙ set_at g 0 (replicate (24 - suc size) 0) v size (sym h.count)
        ∙ sym (append_assoc g (v ∷ []) (replicate (24 - suc size) 0))

module _ (p : ℕ → Bool) (array : List ℕ) (size i : ℕ) (h : HoldsList (those_to i p) array size) where
  pub holds-in : p (suc i) ≡ true → size < 24 → HoldsList (those_to (suc i) p) (set array size (suc i)) (suc size)
  unfolding those_to
  holds-in e l = rw e (holds_more (those_to i p) array size (suc i) l h)

  pub holds-out : p (suc i) ≡ false → HoldsList (those_to (suc i) p) array size
  unfolding those_to
  holds-out e = rw (e, append-nil (those_to i p)) h
