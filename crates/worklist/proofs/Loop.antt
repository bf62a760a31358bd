-- The rows as a loop reads them: a row, and then the rows after it. Each row takes some bytes, so the loop ends.
use Prim.Native.Nat.{ℕ, suc, ◌-◌, ◌≤◌, ◌<◌}
use mathlib.Core.Path.{◌≡◌, refl, ap, ◌∙◌}
use mathlib.Core.List.{List, [], ◌∷◌}
use mathlib.Core.Option.{Option, some, none}
use native.Mathlib.Omega.{arith}
use lib.ListN.{length}
use Rattle.rules.specs.Csv.{Rest, before}
use Rattle.rules.specs.Worklist.{Row, row_of, Worklist, row_first}
use Rattle.worklist.specs.Rows.{Front, gives, fails, or_fail, number_at, row_at, row_then, rows_by, rows_from}
use Rattle.worklist.proofs.Front.{on_rest}
use Rattle.worklist.proofs.SameRow.{checked, row_same}
use Rattle.worklist.proofs.Fuel.{Short, record-short, enough-rows}

no-gives {ℓ} : {X : Type 0} {Y : Type ℓ} {x : X} {r : List ℕ} → fails ≡ gives x r → Y
no-gives e = absurd (let z : ◌≡◌ {A = ℕ} 0 1 = cc in omega arith)

-- what comes after a row is what comes after its record
row-rest : {n : ℕ} {p : Rest} (w : Row) (r : List ℕ) → Short n p → on_rest p (λ f fs u. checked row_of (f ∷ fs) u) ≡ gives w r → length r ≤ n
row-rest {n} w r (Short.short {f} {fs} u h) e = by (row_of (f ∷ fs)) e
  where
    by : (o : Option Row) → or_fail o (λ v. gives v u) ≡ gives w r → length r ≤ n
    by (some v) g = let q : u ≡ r = cc in omega (arith, ap length q)
    by none g = no-gives g
row-rest w r Short.nothing e = no-gives e

-- a row takes some bytes
pub row-shorter : (s : List ℕ) (w : Row) (r : List ℕ) → row_at s ≡ gives w r → length r < length s
unfolding row_at number_at
row-shorter [] w r e = no-gives e
row-shorter (x ∷ s) w r e =
    let l : length r ≤ length (x ∷ s) - 1 = row-rest w r (record-short (x ∷ s) before) (row_same (x ∷ s) ∙ e) in
    omega arith

pub rows-loop : (j : ℕ) (s : List ℕ) → rows_from (suc j) s ≡ row_then (suc j) (row_at s) (λ r. rows_from (suc (suc j)) r)
unfolding rows_from rows_by
rows-loop j s = from (row_at s) refl
  where
    from : (p : Front Row) → row_at s ≡ p
        → row_then (suc j) p (λ r. rows_by (length s) (suc (suc j)) r) ≡ row_then (suc j) p (λ r. rows_from (suc (suc j)) r)
    from (gives w []) e = refl
    from (gives w (x ∷ t)) e =
        let l = row-shorter s w (x ∷ t) e in
        ap (λ (k : Worklist). row_first w k) (enough-rows (length s) (suc (length (x ∷ t))) (suc j) (x ∷ t) l (omega arith))
    from fails e = refl
