-- A good row holds digits, commas and quotes and nothing else, so no CR or LF stands in it, and it ends at the first CR.
use Prim.Native.Nat.{ℕ, zero, suc, ◌+◌, ◌-◌, ◌*◌}
use mathlib.Core.Path.{◌≡◌, refl, ap, ◌∙◌}
use mathlib.Core.Bool.{Bool, true}
use mathlib.Core.List.{List, [], ◌∷◌}
use mathlib.Core.Option.{Option, some, none}
use lib.Dec.{eqb}
use borrow.Author.Tests.{eqb-true}
use Rattle.rules.specs.Fold.{◌or◌}
use Rattle.rules.specs.Field.{is_digit}
use Rattle.theory.proofs.Logic.{by_test, or_left, or_right}
use Rattle.rules.specs.Csv.{record_end}
use Rattle.rules.specs.Grammar.{Ends}
use Rattle.rules.specs.Worklist.{Row}
use Rattle.worklist.specs.Rows.{Front, gives, fails, and_then, or_fail, byte_at, quoted_or, room, digits_at, number_at, number_or_nothing_at, Spot, start, within, onto, numbers_from, list_at, row_at}
use Rattle.worklist.proofs.Grammar.{end_is}

unfoldable pub is_row_byte : ℕ → Bool
is_row_byte x = is_digit x or eqb x 44 or eqb x 34

-- s is such bytes, and then r
pub data Clean (r : List ℕ) : List ℕ → Type 0 where
  stop : Clean r r
  byte : {s : List ℕ} (x : ℕ) → is_row_byte x ≡ true → Clean r s → Clean r (x ∷ s)

clean-both : {t r s : List ℕ} → Clean t r → Clean r s → Clean t s
clean-both a Clean.stop = a
clean-both a (Clean.byte x h b) = Clean.byte x h (clean-both a b)

digit-byte : (x : ℕ) → is_digit x ≡ true → is_row_byte x ≡ true
unfolding is_row_byte
digit-byte x i = or_left _ _ i

comma-byte : (x : ℕ) → eqb x 44 ≡ true → is_row_byte x ≡ true
unfolding is_row_byte
comma-byte x i = or_right (is_digit x) _ (or_left _ _ i)

quote-byte : (x : ℕ) → eqb x 34 ≡ true → is_row_byte x ≡ true
unfolding is_row_byte
quote-byte x i = or_right (is_digit x) _ (or_right (eqb x 44) _ i)

-- ---- what is read

pub data Same : List ℕ → List ℕ → Type 0 where
  same : {r : List ℕ} → Same r r

-- what is read from s is such bytes, up to e; and e leaves r, by q
pub data Reads {X : Type 0} (q : List ℕ → List ℕ → Type 0) (s : List ℕ) : Front X → Type 0 where
  reads : {x : X} {e r : List ℕ} → Clean e s → q e r → Reads q s (gives x r)
  nothing : Reads q s fails

module _ {X : Type 0} where
  here : {x : X} {s : List ℕ} → Reads Same s (gives x s)
  here = Reads.reads Clean.stop Same.same

  more : {q : List ℕ → List ℕ → Type 0} {s : List ℕ} {p : Front X} (x : ℕ) → is_row_byte x ≡ true → Reads q s p → Reads q (x ∷ s) p
  more x h (Reads.reads c e) = Reads.reads (Clean.byte x h c) e
  more x h Reads.nothing = Reads.nothing

  both : {q : List ℕ → List ℕ → Type 0} {r s : List ℕ} {p : Front X} → Clean r s → Reads q r p → Reads q s p
  both c (Reads.reads d e) = Reads.reads (clean-both d c) e
  both c Reads.nothing = Reads.nothing

module _ {X Y : Type 0} {q : List ℕ → List ℕ → Type 0} where
  then-reads : {s : List ℕ} {p : Front X} (next : X → List ℕ → Front Y) → Reads Same s p → ((x : X) (r : List ℕ) → Reads q r (next x r))
      → Reads q s (and_then p next)
  then-reads next (Reads.reads {x} {e} c Same.same) f = both c (f x e)
  then-reads next Reads.nothing f = Reads.nothing

module _ {Y : Type 0} {q : List ℕ → List ℕ → Type 0} where
  byte_reads : (b : ℕ) → is_row_byte b ≡ true → (s : List ℕ) (next : List ℕ → Front Y) → ((r : List ℕ) → Reads q r (next r))
      → Reads q s (byte_at b s next)
  byte_reads b h [] next f = Reads.nothing
  byte_reads b h (x ∷ s) next f =
      by_test (eqb x b)
      (λ t. rw t (more x (ap is_row_byte (eqb-true x b t) ∙ h) (f s)))
      (λ t. rw t Reads.nothing)

comma-is : is_row_byte 44 ≡ true
comma-is = comma-byte 44 refl

quote-is : is_row_byte 34 ≡ true
quote-is = quote-byte 34 refl

-- ---- fields

pub digits-reads : (j v : ℕ) (s : List ℕ) → Reads Same s (digits_at j v s)
unfolding digits_at
digits-reads j v [] = here
digits-reads zero v (x ∷ s) = here
digits-reads (suc j) v (x ∷ s) =
    by_test (is_digit x)
    (λ i. rw i (more x (digit-byte x i) (digits-reads j (10 * v + (x - 48)) s)))
    (λ n. rw n here)

pub number-reads : (s : List ℕ) → Reads Same s (number_at s)
unfolding number_at
number-reads [] = Reads.nothing
number-reads (x ∷ s) =
    by_test (is_digit x)
    (λ i. rw i (more x (digit-byte x i) (digits-reads (room x) (x - 48) s)))
    (λ n. rw n Reads.nothing)

pub place-reads : (s : List ℕ) → Reads Same s (number_or_nothing_at s)
unfolding number_or_nothing_at
place-reads [] = here
place-reads (x ∷ s) =
    by_test (is_digit x)
    (λ i. rw i (more x (digit-byte x i) (digits-reads (room x) (x - 48) s)))
    (λ n. rw n here)

-- and the closing quote
close-reads : {X : Type 0} {s : List ℕ} {p : Front X} → Reads Same s p → Reads Same s (and_then p (λ v r. byte_at 34 r (λ r₁. gives v r₁)))
close-reads h = then-reads _ h (λ v r. byte_reads 34 quote-is r _ (λ r₁. here))

pub quoted-reads : {X : Type 0} (p : List ℕ → Front X) → ((s : List ℕ) → Reads Same s (p s)) → (s : List ℕ) → Reads Same s (quoted_or p s)
quoted-reads p h [] = h []
quoted-reads p h (x ∷ s) =
    by_test (eqb x 34)
    (λ q. rw q (more x (quote-byte x q) (close-reads (h s))))
    (λ q. rw q (h (x ∷ s)))

onto-reads : {s : List ℕ} {p : Front (List ℕ)} (v : ℕ) → Reads Same s p → Reads Same s (onto v p)
onto-reads v (Reads.reads c e) = Reads.reads c e
onto-reads v Reads.nothing = Reads.nothing

pub numbers-reads : (t : Spot) (s : List ℕ) → Reads Same s (numbers_from t s)
unfolding numbers_from
numbers-reads start [] = Reads.nothing
numbers-reads start (x ∷ s) =
    by_test (is_digit x)
    (λ i. rw i (more x (digit-byte x i) (numbers-reads (within (room x) (x - 48)) s)))
    (λ n. rw n Reads.nothing)
numbers-reads (within j v) [] = here
numbers-reads (within zero v) (x ∷ s) =
    by_test (eqb x 44)
    (λ c. rw c (onto-reads v (more x (comma-byte x c) (numbers-reads start s))))
    (λ c. rw c here)
numbers-reads (within (suc j) v) (x ∷ s) =
    by_test (is_digit x)
    (λ i. rw i (more x (digit-byte x i) (numbers-reads (within j (10 * v + (x - 48))) s)))
    (λ n. by_test (eqb x 44)
    (λ c. rw (n, c) (onto-reads v (more x (comma-byte x c) (numbers-reads start s))))
    (λ c. rw (n, c) here))

pub list-reads : (s : List ℕ) → Reads Same s (list_at s)
unfolding list_at
list-reads [] = Reads.nothing
list-reads (x ∷ s) =
    by_test (eqb x 34)
    (λ q. rw q (more x (quote-byte x q) (close-reads (numbers-reads start s))))
    (λ q. rw q (then-reads _ (number-reads (x ∷ s)) (λ v r. here)))

-- ---- the row

end_reads : (w : Row) (s : List ℕ) → Reads Ends s (or_fail (record_end s) (λ r. gives w r))
end_reads w s = by (record_end s) refl
  where
    by : (o : Option (List ℕ)) → record_end s ≡ o → Reads Ends s (or_fail o (λ r. gives w r))
    by (some r) h = Reads.reads Clean.stop (end_is s r h)
    by none h = Reads.nothing

-- a row that is read: such bytes, and then a CRLF or the end
pub row_reads : (s : List ℕ) → Reads Ends s (row_at s)
unfolding row_at
row_reads s =
    then-reads _ (quoted-reads number_at number-reads s) (λ t r₁. byte_reads 44 comma-is r₁ _ (λ r₂.
    then-reads _ (quoted-reads number_or_nothing_at place-reads r₂) (λ p r₃. byte_reads 44 comma-is r₃ _ (λ r₄.
    then-reads _ (quoted-reads number_at number-reads r₄) (λ k r₅. byte_reads 44 comma-is r₅ _ (λ r₆.
    then-reads _ (list-reads r₆) (λ l r₇. end_reads (record { minutes = t; place = p; mark = k; list = l }) r₇)))))))
