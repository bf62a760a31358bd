-- Laws of a list in w entries, 0 past its end: an entry read, a store, a row pasted, a part taken out.
use Prim.Native.Nat.{ℕ, ◌+◌, ◌-◌, ◌≤◌, ◌<◌}
use mathlib.Core.Path.{◌≡◌, sym, ap, ◌∙◌}
use mathlib.Core.List.{List, [], ◌∷◌, ◌++◌, append_assoc}
use native.Mathlib.Omega.{arith}
use lib.ListN.{length, set, drop, replicate, length-append, length-replicate, replicate-append-replicate}
use lib.Seq.{take_all, take_at, drop_at, set_at, paste}
use Rattle.sheet.specs.Represent.{padded}
use Rattle.sheet.specs.Change.{cut_down, cut}

-- ---- reading

pub length-padded : (w : ℕ) (l : List ℕ) → length l ≤ w → length (padded w l) ≡ w
length-padded w l h = simp (length-append, length-replicate) (omega arith)

-- ---- lists in parts

-- s pasted over q
pub paste-at : (p q r s : List ℕ) (at n : ℕ) → length p ≡ at → length q ≡ n → length s ≡ n →
    paste (p ++ (q ++ r)) at s n ≡ p ++ (s ++ r)
paste-at p q r s at n a b c =
    let d : drop (at + n) (p ++ (q ++ r)) ≡ r =
    ap (drop (at + n)) (sym (append_assoc p q r)) ∙ drop_at (p ++ q) r (at + n) (omega (arith, length-append p q)) in
    rw (take_at p (q ++ r) at a, take_all n s (omega arith), d) (append_assoc p s r)

in_parts : (p q r z : List ℕ) → (p ++ (q ++ r)) ++ z ≡ p ++ (q ++ (r ++ z))
in_parts p q r z = append_assoc p (q ++ r) z ∙ ap (λ (d : List ℕ). p ++ d) (append_assoc q r z)

-- the zeros behind a list, the first n apart
pub padded-room : (w n : ℕ) (l : List ℕ) → length l + n ≤ w → padded w l ≡ l ++ (replicate n 0 ++ replicate (w - (length l + n)) 0)
padded-room w n l h =
    let e : w - length l ≡ n + (w - (length l + n)) = omega arith in
    rw e (ap (λ (z : List ℕ). l ++ z) (sym (replicate-append-replicate n (w - (length l + n)) 0)))

-- ---- one entry more, and a row more

pub set-append : (w : ℕ) (p : List ℕ) (at v : ℕ) → length p ≡ at → at < w → set (padded w p) at v ≡ padded w (p ++ (v ∷ []))
set-append w p at v e h =
    let n : length (p ++ (v ∷ [])) ≡ length p + 1 = length-append p (v ∷ []) in
    rw (padded-room w 1 p (omega arith)) (set_at p 0 (replicate (w - (length p + 1)) 0) v at e
    ∙ rw n (sym (append_assoc p (v ∷ []) (replicate (w - (length p + 1)) 0))))

pub paste-append : (w : ℕ) (p s : List ℕ) (at n : ℕ) → length p ≡ at → length s ≡ n → at + n ≤ w →
    paste (padded w p) at s n ≡ padded w (p ++ s)
paste-append w p s at n a b h =
    let z : List ℕ = replicate (w - (length p + n)) 0 in
    let f : w - length (p ++ s) ≡ w - (length p + n) = omega (arith, length-append p s) in
    ap (λ (d : List ℕ). paste d at s n) (padded-room w n p (omega arith))
    ∙ paste-at p (replicate n 0) z s at n a (length-replicate n 0) b
    ∙ sym (ap (λ (k : ℕ). (p ++ s) ++ replicate k 0) f ∙ append_assoc p s z)

-- ---- an entry or a row replaced

pub set-replace : (w : ℕ) (p : List ℕ) (x : ℕ) (r : List ℕ) (at v : ℕ) → length p ≡ at →
    set (padded w (p ++ x ∷ r)) at v ≡ padded w (p ++ v ∷ r)
set-replace w p x r at v e =
    let z : List ℕ = replicate (w - length (p ++ x ∷ r)) 0 in
    let f : w - length (p ++ x ∷ r) ≡ w - length (p ++ v ∷ r) =
    ap (λ (k : ℕ). w - k) (length-append p (x ∷ r) ∙ sym (length-append p (v ∷ r))) in
    ap (λ (d : List ℕ). set d at v) (append_assoc p (x ∷ r) z)
    ∙ set_at p x (r ++ z) v at e
    ∙ sym (append_assoc p (v ∷ r) z)
    ∙ ap (λ (k : ℕ). (p ++ v ∷ r) ++ replicate k 0) f

pub paste-replace : (w : ℕ) (p q r s : List ℕ) (at n : ℕ) → length p ≡ at → length q ≡ n → length s ≡ n →
    paste (padded w (p ++ (q ++ r))) at s n ≡ padded w (p ++ (s ++ r))
paste-replace w p q r s at n a b c =
    let z : List ℕ = replicate (w - length (p ++ (q ++ r))) 0 in
    let f : w - length (p ++ (q ++ r)) ≡ w - length (p ++ (s ++ r)) =
    omega (arith, length-append p (q ++ r), length-append p (s ++ r), length-append q r, length-append s r) in
    ap (λ (d : List ℕ). paste d at s n) (in_parts p q r z)
    ∙ paste-at p q (r ++ z) s at n a b c
    ∙ sym (in_parts p s r z)
    ∙ ap (λ (k : ℕ). (p ++ (s ++ r)) ++ replicate k 0) f

-- ---- a part taken out

-- q taken out
cut_at : (p q r : List ℕ) (at n : ℕ) → length p ≡ at → length q ≡ n → cut at n (p ++ (q ++ r)) ≡ p ++ (r ++ replicate n 0)
unfolding cut_down
cut_at p q r at n a b =
    let d : drop (at + n) (p ++ (q ++ r)) ≡ r =
    ap (drop (at + n)) (sym (append_assoc p q r)) ∙ drop_at (p ++ q) r (at + n) (omega (arith, length-append p q)) in
    rw (take_at p (q ++ r) at a, d)

-- q taken out, with zeros behind
cut-zeros : (p q r : List ℕ) (k at n : ℕ) → length p ≡ at → length q ≡ n →
    cut at n ((p ++ (q ++ r)) ++ replicate k 0) ≡ (p ++ r) ++ replicate (k + n) 0
cut-zeros p q r k at n a b =
    ap (cut at n) (in_parts p q r (replicate k 0))
    ∙ cut_at p q (r ++ replicate k 0) at n a b
    ∙ ap (λ (x : List ℕ). p ++ x) (append_assoc r (replicate k 0) (replicate n 0))
    ∙ ap (λ (x : List ℕ). p ++ (r ++ x)) (replicate-append-replicate k n 0)
    ∙ sym (append_assoc p r (replicate (k + n) 0))

pub cut_out : (w : ℕ) (p q r : List ℕ) (at n : ℕ) → length p ≡ at → length q ≡ n → length (p ++ (q ++ r)) ≤ w →
    cut at n (padded w (p ++ (q ++ r))) ≡ padded w (p ++ r)
cut_out w p q r at n a b h =
    let f : w - length (p ++ (q ++ r)) + n ≡ w - length (p ++ r) =
    omega (arith, length-append p (q ++ r), length-append q r, length-append p r) in
    cut-zeros p q r (w - length (p ++ (q ++ r))) at n a b ∙ ap (λ (j : ℕ). (p ++ r) ++ replicate j 0) f
