-- Numbers in a row, a field each: the next one, and the whole row at a type whose numbers are what they convert to.
use Rattle.std.proofs.Common.{ℕ, ◌≡◌, ◌+◌, ◌*◌, ◌≤◌, ◌<◌, List, [], ◌∷◌, ◌++◌, length, take, get_or, refl, sym, ap, subst, ◌∙◌, arith}
use Rattle.std.specs.List.{AllZip, each_same}
use Rattle.std.proofs.lemmas.List.{take_more}
use Rattle.std.proofs.lemmas.Slice.Zip.{all_zipped_more, AllZip-long}
use Rattle.std.proofs.Math.Seq.{paste}
use Rattle.rules.specs.Render.{columns, fields, line}
use Rattle.theory.proofs.Fields.{field-length, fields_snoc, fields-length, line-length}
use Rattle.text.specs.Puts.{Puts}
use Rattle.text.proofs.Pasted.{Wrote, wrote_one, wrote-more, wrote_as}

-- the next field
pub fields_more : {d e f : List ℕ} {p : ℕ} (i : ℕ) (values : List ℕ) (x : ℕ) → Wrote d p (fields values) (6 * i) e → p + 6 * (i + 1) ≤ length d
    → f ≡ paste e (p + 6 * i) (columns 6 x) 6 → Wrote d p (fields (values ++ (x ∷ []))) (6 * (i + 1)) f
fields_more {d} {e} {f} {p} i values x w r g =
    wrote_as
    (wrote-more (columns 6 x) (p + 6 * i) 6 (6 * (i + 1)) w (omega arith) (omega arith) (field-length x) (omega arith) g)
    (sym (fields_snoc values x))

-- the next of numbers of any type
pub each_more : {T : Type 0} (converts : T → ℕ → Type 0) (numbers : List T) (values : List ℕ) (i : ℕ) (x : T) (v : ℕ) → i < length numbers
    → x ≡ get_or numbers i x → AllZip converts (take i numbers) values → converts x v → AllZip converts (take (i + 1) numbers) (values ++ (v ∷ []))
each_more {T} converts numbers values i x v h e a r =
    subst (λ (xs : List T). AllZip converts xs (values ++ (v ∷ [])))
    (ap (λ (y : T). take i numbers ++ (y ∷ [])) e ∙ sym (take_more numbers i x h))
    (all_zipped_more converts (take i numbers) values x v a r)

-- the row of numbers that are what they convert to
pub put_fields_same : {xs old new : List ℕ} {at : ℕ} → Puts (λ x v. v ≡ x) fields xs old at new → new ≡ paste old at (fields xs) (6 * length xs)
put_fields_same {xs} {old} {new} {at} p =
    p.after
    ∙ ap (λ (values : List ℕ). paste old at (fields values) (length (fields values))) (each_same xs p.values p.each)
    ∙ ap (paste old at (fields xs)) (fields-length xs)

pub put_line_same : {xs old new : List ℕ} {at : ℕ} → Puts (λ x v. v ≡ x) line xs old at new → new ≡ paste old at (line xs) (6 * length xs + 1)
put_line_same {xs} {old} {new} {at} p =
    p.after
    ∙ ap (λ (values : List ℕ). paste old at (line values) (length (line values))) (each_same xs p.values p.each)
    ∙ ap (paste old at (line xs)) (line-length xs)

-- an end behind a row
pub line_ended : {T : Type 0} {converts : T → ℕ → Type 0} {numbers : List T} {d e f : List ℕ} {p : ℕ} → Puts converts fields numbers d p e
    → p + (6 * length numbers + 1) ≤ length d → f ≡ paste e (p + 6 * length numbers) (10 ∷ []) 1 → Puts converts line numbers d p f
line_ended {T} {converts} {numbers} {d} {e} {f} {p} w r g =
    let values = w.values in
    let n : length values ≡ length numbers = AllZip-long converts numbers values w.each in
    let row = wrote_one d p (fields values) (length (fields values)) {e = e} refl (omega (arith, fields-length values)) w.after in
    record {
      values = values;
      each = w.each;
      after =
          (wrote-more (10 ∷ []) (p + 6 * length numbers) 1 (length (line values)) row (omega (arith, fields-length values))
          (omega (arith, fields-length values, line-length values)) refl (omega arith) g).text;
    }
