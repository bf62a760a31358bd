-- RFC 4180's grammar rule by rule, as relations: the bytes s begin so and then have e behind them, and what stands there
-- says f. It is proved that Csv reads just this.
use Rattle.std.specs.Prelude.{ℕ, ◌≡◌, true, List, [], ◌∷◌}
use Rattle.rules.specs.Csv.{is_text, is_inside}

-- non-escaped = *TEXTDATA
pub data NonEscaped (e : List ℕ) : List ℕ → List ℕ → Type 0 where
  stop : NonEscaped e e []
  text : {s f : List ℕ} (x : ℕ) → is_text x ≡ true → NonEscaped e s f → NonEscaped e (x ∷ s) (x ∷ f)

-- *(TEXTDATA / COMMA / CR / LF / 2DQUOTE)
pub data Quoted (e : List ℕ) : List ℕ → List ℕ → Type 0 where
  stop : Quoted e e []
  byte : {s f : List ℕ} (x : ℕ) → is_inside x ≡ true → Quoted e s f → Quoted e (x ∷ s) (x ∷ f)
  two_quotes : {s f : List ℕ} → Quoted e s f → Quoted e (34 ∷ 34 ∷ s) (34 ∷ f)

-- field = escaped / non-escaped, escaped = DQUOTE .. DQUOTE
pub data Field (e : List ℕ) : List ℕ → List ℕ → Type 0 where
  non_escaped : {s f : List ℕ} → NonEscaped e s f → Field e s f
  escaped : {s f : List ℕ} → Quoted (34 ∷ e) s f → Field e (34 ∷ s) f

-- record = field *(COMMA field): its first field and those after it
pub data Record (e : List ℕ) : List ℕ → List ℕ → List (List ℕ) → Type 0 where
  last_field : {s f : List ℕ} → Field e s f → Record e s f []
  comma : {s f t g : List ℕ} {gs : List (List ℕ)} → Field (44 ∷ t) s f → Record e t g gs → Record e s f (g ∷ gs)

-- file = record *(CRLF record) [CRLF]; a CRLF that ends the file is the one in brackets
pub data File : List ℕ → List (List (List ℕ)) → Type 0 where
  last_record : {s f : List ℕ} {fs : List (List ℕ)} → Record [] s f fs → File s ((f ∷ fs) ∷ [])
  last_crlf : {s f : List ℕ} {fs : List (List ℕ)} → Record (13 ∷ 10 ∷ []) s f fs → File s ((f ∷ fs) ∷ [])
  crlf : {s f t : List ℕ} {fs : List (List ℕ)} {rs : List (List (List ℕ))} {x : ℕ}
      → Record (13 ∷ 10 ∷ x ∷ t) s f fs → File (x ∷ t) rs → File s ((f ∷ fs) ∷ rs)

-- a record ends here, and r is left
pub data Ends : List ℕ → List ℕ → Type 0 where
  end_of_file : Ends [] []
  end_of_line : {r : List ℕ} → Ends (13 ∷ 10 ∷ r) r

-- the records rs, and then none
pub data Breaks : List ℕ → List (List (List ℕ)) → Type 0 where
  here : {s : List ℕ} → ((e r f : List ℕ) (fs : List (List ℕ)) → Ends e r → Record e s f fs → ⊥) → Breaks s []
  later : {s f t : List ℕ} {fs : List (List ℕ)} {rs : List (List (List ℕ))} {x : ℕ}
      → Record (13 ∷ 10 ∷ x ∷ t) s f fs → Breaks (x ∷ t) rs → Breaks s ((f ∷ fs) ∷ rs)
