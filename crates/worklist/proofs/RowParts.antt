-- A row part by part, as the code reads it.
use Prim.Native.Nat.{ℕ}
use mathlib.Core.Path.{◌≡◌, refl, sym, ap, ◌∙◌}
use mathlib.Core.Bool.{Bool, true, false}
use mathlib.Core.List.{List, [], ◌∷◌}
use mathlib.Core.Option as M
use lib.Dec.{eqb}
use lib.ListN.{length, take}
use Rattle.std.specs.Prelude.{Some, None}
use Rattle.rules.specs.Csv.{record_end}
use Rattle.rules.specs.Worklist.{Row}
use Rattle.theory.proofs.Logic.{by_test}
use Rattle.worklist.specs.declared.row.Members.{Members}
use Rattle.worklist.specs.Rows.{Front, gives, fails, and_then, or_fail, byte_at, quoted_or, list_at, row_at}
use Rattle.sheet.specs.Represent.{firsts}
use Rattle.worklist.specs.Read.{plain_at, end_as, then_byte, kept, kept_row}
use Rattle.worklist.proofs.Front.{then_same}
use Rattle.worklist.proofs.Listing.{KeptOf, kept-none, kept-some}

-- a field that is a number, with its comma
abbrev pub field_at : Bool → List ℕ → Front ℕ
field_at empty r = then_byte 44 (quoted_or (plain_at empty) r)

-- the rest of a row, after what is read of it
abbrev pub ending : ℕ → ℕ → ℕ → List ℕ → List ℕ → Front Row
ending t p k l r = or_fail (record_end r) (λ u. gives (record { minutes = t; place = p; mark = k; list = l }) u)

abbrev pub from_list : ℕ → ℕ → ℕ → List ℕ → Front Row
from_list t p k r = and_then (list_at r) (λ l u. ending t p k l u)

abbrev pub from_mark : ℕ → ℕ → List ℕ → Front Row
from_mark t p r = and_then (field_at false r) (λ k u. from_list t p k u)

abbrev pub from_place : ℕ → List ℕ → Front Row
from_place t r = and_then (field_at true r) (λ p u. from_mark t p u)

abbrev pub from_minutes : List ℕ → Front Row
from_minutes r = and_then (field_at false r) (λ t u. from_place t u)

-- going on after a byte
byte-then : {Y : Type 0} (b v : ℕ) (r : List ℕ) (next : ℕ → List ℕ → Front Y)
    → byte_at b r (λ u. next v u) ≡ and_then (byte_at b r (λ u. gives v u)) next
byte-then b v [] next = refl
byte-then b v (x ∷ r) next = by_test (eqb x b) (λ t. rw t) (λ t. rw t)

then-byte : {Y : Type 0} (b : ℕ) (p : Front ℕ) (f next : ℕ → List ℕ → Front Y) → ((v : ℕ) (u : List ℕ) → f v u ≡ next v u)
    → and_then p (λ v r. byte_at b r (λ u. f v u)) ≡ and_then (then_byte b p) next
then-byte b (gives v r) f next h = byte-then b v r f ∙ then_same (byte_at b r (λ u. gives v u)) f next h
then-byte b fails f next h = refl

row-parts : (s : List ℕ) → row_at s ≡ from_minutes s
unfolding row_at
row-parts s =
    then-byte 44 (quoted_or (plain_at false) s) _ _ (λ t r₂.
    then-byte 44 (quoted_or (plain_at true) r₂) _ _ (λ p r₄.
    then-byte 44 (quoted_or (plain_at false) r₄) _ _ (λ k r₆. refl)))

-- the row's end is the last part
module _ (t p k : ℕ) (l : List ℕ) where
  unended : (o : M.Option (List ℕ)) → None ≡ end_as o
      → fails ≡ kept_row (or_fail o (λ u. gives (record { minutes = t; place = p; mark = k; list = l }) u))
  unended (M.some r) e = absurd (let z : None ≡ Some r = e in cc)
  unended M.none e = refl

  ended : (count : ℕ) (list r : List ℕ) → count ≡ length (take 25 l) → list ≡ firsts l → (o : M.Option (List ℕ)) → Some r ≡ end_as o
      → gives (record { minutes = t; place = p; mark = k; count = count; list = list }) r
      ≡ kept_row (or_fail o (λ u. gives (record { minutes = t; place = p; mark = k; list = l }) u))
  ended count list r c f (M.some u) e = let q : r ≡ u = cc in rw (q, c, f)
  ended count list r c f M.none e = absurd (let z : Some r ≡ None = e in cc)

-- ---- the parts one after the other: what is left of a row s says the rest of it

module _ (s : List ℕ) where
  no-row : fails ≡ row_at s → fails ≡ kept_row (row_at s)
  no-row e = ap kept_row e

  pub no-minutes : fails ≡ field_at false s → fails ≡ kept_row (row_at s)
  no-minutes e = no-row (ap (λ (p : Front ℕ). and_then p from_place) e ∙ sym (row-parts s))

  module _ (t : ℕ) (r₁ : List ℕ) (et : gives t r₁ ≡ field_at false s) where
    minutes-read : from_place t r₁ ≡ row_at s
    minutes-read = ap (λ (p : Front ℕ). and_then p from_place) et ∙ sym (row-parts s)

    pub no-place : fails ≡ field_at true r₁ → fails ≡ kept_row (row_at s)
    no-place e = no-row (ap (λ (p : Front ℕ). and_then p (from_mark t)) e ∙ minutes-read)

    module _ (p : ℕ) (r₂ : List ℕ) (ep : gives p r₂ ≡ field_at true r₁) where
      place-read : from_mark t p r₂ ≡ row_at s
      place-read = ap (λ (x : Front ℕ). and_then x (from_mark t)) ep ∙ minutes-read

      pub no-mark : fails ≡ field_at false r₂ → fails ≡ kept_row (row_at s)
      no-mark e = no-row (ap (λ (x : Front ℕ). and_then x (from_list t p)) e ∙ place-read)

      module _ (k : ℕ) (r₃ : List ℕ) (ek : gives k r₃ ≡ field_at false r₂) where
        mark-read : from_list t p k r₃ ≡ row_at s
        mark-read = ap (λ (x : Front ℕ). and_then x (from_list t p)) ek ∙ place-read

        pub no-list : fails ≡ kept (list_at r₃) → fails ≡ kept_row (row_at s)
        no-list e = no-row (ap (λ (x : Front (List ℕ)). and_then x (ending t p k)) (kept-none (list_at r₃) e) ∙ mark-read)

        module _ (m : Members) (r₄ : List ℕ) (em : gives m r₄ ≡ kept (list_at r₃)) where
          listed : KeptOf (list_at r₃) m r₄
          listed = kept-some (list_at r₃) m r₄ em

          list-read : ending t p k listed.numbers r₄ ≡ row_at s
          list-read = ap (λ (x : Front (List ℕ)). and_then x (ending t p k)) (sym listed.all) ∙ mark-read

          pub no-end : None ≡ end_as (record_end r₄) → fails ≡ kept_row (row_at s)
          no-end e = unended t p k listed.numbers (record_end r₄) e ∙ ap kept_row list-read

          pub row-read : (r₅ : List ℕ) → Some r₅ ≡ end_as (record_end r₄)
              → gives (record { minutes = t; place = p; mark = k; count = m.count; list = m.list }) r₅ ≡ kept_row (row_at s)
          row-read r₅ e = ended t p k listed.numbers m.count m.list r₅ listed.count listed.same (record_end r₄) e ∙ ap kept_row list-read
