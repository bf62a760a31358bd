-- Laws of a text pasted into a list: one more entry in front, one more text behind.
use Prim.Native.Nat.{ℕ, ◌+◌, ◌≤◌, ◌<◌}
use mathlib.Core.Path.{◌≡◌, refl, sym, ap, ap₂, ◌∙◌}
use mathlib.Core.List.{List, [], ◌∷◌, ◌++◌, append_assoc}
use native.Mathlib.Numerals.{add-one}
use native.Mathlib.Omega.{arith}
use lib.ListN.{length, take, drop, get_or, set, length-append}
use lib.Seq.{paste, paste-zero, take_all, length-paste, length-take-le, take-suc, set_at, take-paste, drop-paste, drop-drop}

-- the list of d with the text s, of n entries, from index p
pub record Wrote (d : List ℕ) (p : ℕ) (s : List ℕ) (n : ℕ) (e : List ℕ) : Type 0 where
  pub size : length s ≡ n
  pub room : p + n ≤ length d
  pub text : e ≡ paste d p s n

-- its length is as it was
pub wrote-length : {d s e : List ℕ} {p n : ℕ} → Wrote d p s n e → length e ≡ length d
wrote-length {d} {s} {e} {p} {n} w =
    ap length w.text ∙ length-paste d p s n w.room (omega (arith, w.size))

-- nothing written
pub wrote_none : (d : List ℕ) (p : ℕ) → p ≤ length d → Wrote d p [] 0 d
wrote_none d p h = record { size = refl; room = omega arith; text = paste-zero d p [] }

-- one text
pub wrote_one : (d : List ℕ) (p : ℕ) (s : List ℕ) (n : ℕ) {e : List ℕ} → length s ≡ n → p + n ≤ length d
    → e ≡ paste d p s n → Wrote d p s n e
wrote_one d p s n h r t = record { size = h; room = r; text = t }

-- a whole text is taken whole
pub paste-whole : (d : List ℕ) (p : ℕ) (s : List ℕ) (n : ℕ) → length s ≡ n
    → paste d p s n ≡ take p d ++ s ++ drop (p + n) d
paste-whole d p s n h = ap (λ (x : List ℕ). take p d ++ x ++ drop (p + n) d) (take_all n s (omega arith))

-- a text pasted right behind another
paste-join : (d : List ℕ) (p : ℕ) (s : List ℕ) (n : ℕ) (t : List ℕ) (m : ℕ) → p + n ≤ length d
    → length s ≡ n → length t ≡ m → paste (paste d p s n) (p + n) t m ≡ paste d p (s ++ t) (n + m)
paste-join d p s n t m h k l =
    let e : List ℕ = paste d p s n in
    let a : take (p + n) e ≡ take p d ++ s =
    take-paste d p s n (omega arith) (omega arith) ∙ ap (λ (x : List ℕ). take p d ++ x) (take_all n s (omega arith)) in
    let j : p + n + m ≡ p + (n + m) = omega arith in
    let b : drop (p + n + m) e ≡ drop (p + (n + m)) d =
    sym (drop-drop m (p + n) e) ∙ ap (drop m) (drop-paste d p s n (omega arith) (omega arith)) ∙ drop-drop m (p + n) d
    ∙ ap (λ (i : ℕ). drop i d) j in
    paste-whole e (p + n) t m l
    ∙ ap₂ (λ (x y : List ℕ). x ++ t ++ y) a b
    ∙ ap (λ (x : List ℕ). x ++ drop (p + (n + m)) d) (append_assoc (take p d) s t)
    ∙ sym (paste-whole d p (s ++ t) (n + m) (omega (arith, length-append s t)))

-- one more text behind
pub wrote-more : {d s e f : List ℕ} {p n : ℕ} (t : List ℕ) (q m k : ℕ) → Wrote d p s n e → q ≡ p + n → k ≡ n + m
    → length t ≡ m → q + m ≤ length d → f ≡ paste e q t m → Wrote d p (s ++ t) k f
wrote-more {d} {s} {e} {f} {p} {n} t q m k w a b l r g = record {
  size = omega (arith, length-append s t, w.size);
  room = omega arith;
  text =
      g
      ∙ ap₂ (λ (x : List ℕ) (i : ℕ). paste x i t m) w.text a
      ∙ paste-join d p s n t m w.room w.size l
      ∙ ap (paste d p (s ++ t)) (sym b);
}

-- one more entry in front
pub wrote-front : {d s e : List ℕ} {p n : ℕ} (q x k : ℕ) → Wrote d p s n e → p ≡ q + 1 → k ≡ n + 1
    → Wrote d q (x ∷ s) k (set e q x)
wrote-front {d} {s} {e} {p} {n} q x k w a b =
    let size : length (x ∷ s) ≡ k = omega (arith, w.size) in
    let room : q + k ≤ length d = omega (arith, w.room) in
    let inside : q < length d = omega (arith, w.room) in
    let rest : List ℕ = drop (q + k) d in
    let past : p + n ≡ q + k = omega arith in
    let was : e ≡ take q d ++ (get_or d q 0 ∷ (s ++ rest)) =
    w.text
    ∙ paste-whole d p s n w.size
    ∙ ap₂ (λ (i j : ℕ). take i d ++ s ++ drop j d) (a ∙ add-one q) past
    ∙ ap (λ (y : List ℕ). y ++ s ++ rest) (take-suc d q 0 inside)
    ∙ append_assoc (take q d ++ (get_or d q 0 ∷ [])) s rest
    ∙ append_assoc (take q d) (get_or d q 0 ∷ []) (s ++ rest) in
    record {
      size = size;
      room = room;
      text =
          ap (λ (y : List ℕ). set y q x) was
          ∙ set_at (take q d) (get_or d q 0) (s ++ rest) x q (length-take-le q d (omega arith))
          ∙ sym (append_assoc (take q d) (x ∷ s) rest)
          ∙ sym (paste-whole d q (x ∷ s) k size);
    }

-- the text by another name
pub wrote_as : {d s t e : List ℕ} {p n : ℕ} → Wrote d p s n e → s ≡ t → Wrote d p t n e
wrote_as {d} {s} {t} {e} {p} {n} w h = record {
  size = ap length (sym h) ∙ w.size;
  room = w.room;
  text = w.text ∙ ap (λ (x : List ℕ). paste d p x n) h;
}

-- a text at the front of a list
pub wrote-start : {d s t e : List ℕ} {n : ℕ} → Wrote d 0 s n e → s ≡ t → e ≡ t ++ drop n d
wrote-start {d} {s} {t} {e} {n} w h =
    let z : 0 + n ≡ n = omega arith in
    w.text ∙ paste-whole d 0 s n w.size ∙ ap₂ (λ (x : List ℕ) (i : ℕ). x ++ drop i d) h z

-- and such a list has the text written
pub start-wrote : {d s e : List ℕ} {n : ℕ} → length s ≡ n → n ≤ length d → e ≡ s ++ drop n d → Wrote d 0 s n e
start-wrote {d} {s} {e} {n} h r f =
    let z : n ≡ 0 + n = omega arith in
    wrote_one d 0 s n h (omega arith) (f ∙ ap (λ (i : ℕ). s ++ drop i d) z ∙ sym (paste-whole d 0 s n h))
