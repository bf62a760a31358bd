-- A part entered in an array, one store at a time.
use Prim.Native.Nat.{ℕ, ◌+◌, ◌≤◌, ◌<◌}
use mathlib.Core.Path.{◌≡◌, refl, sym, ap, ◌∙◌, subst}
use mathlib.Core.List.{List}
use native.Mathlib.Omega.{arith}
use native.Mathlib.Numerals.{add-one}
use lib.ListN.{length, get_or, set, length-set}
use lib.Seq.{paste, paste-zero, paste-suc, drop-paste, get_or-drop, set-get_or}

-- a is d with the first j entries of s at at; n are to be entered
pub record Entered (d : List ℕ) (at : ℕ) (s : List ℕ) (n : ℕ) (a : List ℕ) (j : ℕ) : Type 0 where
  pub few : j ≤ n
  pub long : length a ≡ length d
  pub same : a ≡ paste d at s j

pub entered-start : {d : List ℕ} {at : ℕ} {s : List ℕ} {n : ℕ} → Entered d at s n d 0
entered-start {d} {at} {s} = record { few = omega arith; long = refl; same = paste-zero d at s }

pub entered-step : {d : List ℕ} {at : ℕ} {s : List ℕ} {n : ℕ} {a : List ℕ} {j : ℕ} → Entered d at s n a j → at + n ≤ length d →
    n ≤ length s → j < n →
    Entered d at s n (set a (at + j) (get_or s j 0)) (j + 1)
entered-step {d} {at} {s} {n} {a} {j} e f g h = record {
  few = omega arith;
  long = length-set a (at + j) (get_or s j 0) ∙ e.long;
  same =
      ap (λ (x : List ℕ). set x (at + j) (get_or s j 0)) e.same
      ∙ paste-suc d at s j 0 (omega arith) (omega arith)
      ∙ ap (paste d at s) (sym (add-one j));
}

-- an entry that is there already need not be stored
pub entered-skip : {d : List ℕ} {at : ℕ} {s : List ℕ} {n : ℕ} {a : List ℕ} {j : ℕ} → Entered d at s n a j → at + n ≤ length d →
    n ≤ length s → j < n → get_or s j 0 ≡ get_or d (at + j) 0 →
    Entered d at s n a (j + 1)
entered-skip {d} {at} {s} {n} {a} {j} e f g h q =
    let z : at + j + 0 ≡ at + j = omega arith in
    let same : get_or a (at + j) 0 ≡ get_or s j 0 =
    ap (λ (x : List ℕ). get_or x (at + j) 0) e.same
    ∙ ap (λ (i : ℕ). get_or (paste d at s j) i 0) (sym z)
    ∙ sym (get_or-drop (at + j) (paste d at s j) 0 0)
    ∙ ap (λ (x : List ℕ). get_or x 0 0) (drop-paste d at s j (omega arith) (omega arith))
    ∙ get_or-drop (at + j) d 0 0
    ∙ ap (λ (i : ℕ). get_or d i 0) z
    ∙ sym q in
    subst (λ (x : List ℕ). Entered d at s n x (j + 1))
    (ap (set a (at + j)) (sym same) ∙ set-get_or a (at + j) 0)
    (entered-step e f g h)

pub entered-end : {d : List ℕ} {at : ℕ} {s : List ℕ} {n : ℕ} {a : List ℕ} {j : ℕ} → Entered d at s n a j → n ≤ j → a ≡ paste d at s n
entered-end {d} {at} {s} {n} {a} {j} e h = let t : j ≡ n = omega (arith, e.few) in e.same ∙ ap (paste d at s) t
