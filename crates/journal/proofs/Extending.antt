-- Numbers behind those that an answer has already.
use Prim.Native.Nat.{ℕ, ◌+◌, ◌-◌, ◌≤◌, ◌<◌}
use mathlib.Core.Path.{◌≡◌, refl, sym, ap, ◌∙◌}
use mathlib.Core.Bool.{Bool}
use mathlib.Core.List.{List, ◌++◌, [], ◌∷◌}
use native.Mathlib.Omega.{arith}
use lib.ListN.{length, take, set, replicate, length-append}
use lib.Seq.{take_at, length-take-le}
use Rattle.std.specs.List.{AllZip, each_same}
use Rattle.std.proofs.lemmas.Slice.Zip.{AllZip-long}
use Rattle.sheet.specs.Represent.{padded}
use Rattle.sheet.proofs.Padded.{set-append}
use Rattle.journal.specs.declared.answer.Answer.{Answer}
use Rattle.journal.specs.Answering.{answer_with, said, Whole, Extends}

-- an answer's numbers, and the zeros after them
pub said-with : (l : List ℕ) (p : Bool) → said (answer_with l p) ≡ l
said-with l p = take_at l (replicate (632 - length l) 0) (length l) refl

pub whole-with : (l : List ℕ) (p : Bool) → Whole (answer_with l p)
whole-with l p = ap (λ (x : List ℕ). answer_with x p) (sym (said-with l p))

pub whole : (l : List ℕ) (p : Bool) (a : Answer) → a ≡ answer_with l p → Whole a
whole l p a e = rw e (whole-with l p)

-- one number more
pub one-more : (l : List ℕ) (p : Bool) (a : Answer) (x : ℕ) → a ≡ answer_with l p → length l < 632
    → record { size = a.size + 1; numbers = set a.numbers a.size x; settle = a.settle } ≡ answer_with (l ++ (x ∷ [])) p
one-more l p a x e h =
    rw (e, set-append 632 l (length l) x refl h)
    (ap (λ (n : ℕ). record { size = n; numbers = padded 632 (l ++ (x ∷ [])); settle = p }) (sym (length-append l (x ∷ []))))

-- there is room for it
pub more-room : {T : Type 0} (converts : T → ℕ → Type 0) (part : List T) (a b : Answer) (values : List ℕ) (i : ℕ) → Whole a
    → a.size + length part ≤ 632 → i < length part → AllZip converts (take i part) values → b ≡ answer_with (said a ++ values) a.settle
    → (b.size < 632) × (length (said a ++ values) < 632)
more-room converts part a b values i w r h z e =
    let n = length-append (said a) values in
    let j = AllZip-long converts (take i part) values z in
    let k = length-take-le i part (omega arith) in
    (omega (arith, ap (λ (x : Answer). x.size) w, ap (λ (x : Answer). x.size) e, n, j, k), omega (arith, ap (λ (x : Answer). x.size) w, n, j, k))

-- numbers of any type, that are what they convert to
pub extended : (l part : List ℕ) (p : Bool) (a b : Answer) → a ≡ answer_with l p → Extends (λ x v. v ≡ x) part a b → b ≡ answer_with (l ++ part) p
extended l part p a b e x =
    x.after
    ∙ ap (λ (v : List ℕ). answer_with (said a ++ v) a.settle) (each_same part x.values x.each)
    ∙ ap (λ (y : Answer). answer_with (said y ++ part) y.settle) e
    ∙ ap (λ (y : List ℕ). answer_with (y ++ part) p) (said-with l p)

-- a list that stands there already
pub added : (l t : List ℕ) (p : Bool) (a b : Answer) → a ≡ answer_with l p → b ≡ answer_with (said a ++ t) a.settle → b ≡ answer_with (l ++ t) p
added l t p a b e q =
    q ∙ ap (λ (y : Answer). answer_with (said y ++ t) y.settle) e ∙ ap (λ (y : List ℕ). answer_with (y ++ t) p) (said-with l p)

-- n more fit
pub fits : (l : List ℕ) (p : Bool) (a : Answer) (n : ℕ) → a ≡ answer_with l p → length l + n ≤ 632 → (a.size + n ≤ 632) × Whole a
fits l p a n e h = (omega (arith, ap (λ (x : Answer). x.size) e), whole l p a e)
