-- The entries of an array moved down: what a copy within it leaves, with its end filled.
use Prim.Native.Nat.{ℕ, ◌+◌, ◌-◌, ◌≤◌}
use mathlib.Core.Path.{◌≡◌, ap, ◌∙◌}
use mathlib.Core.List.{List, [], ◌++◌, append_assoc, append-nil}
use native.Mathlib.Omega.{arith}
use borrow.Rule.Slice.PartMut.{put_mid}
use lib.ListN.{length, take, drop, replicate, length-append, length-drop, drop_of_length-le}
use lib.Seq.{paste, take_all, take_at, length-take-le}
use Rattle.sheet.specs.Change.{cut_down}

module _ {X : Type 0} (none : X) (at by : ℕ) (xs : List X) (fits : at + by ≤ length xs) where
  -- xs with the rest copied down
  moved : List X
  moved = paste xs at (drop (at + by) xs) (length xs - (at + by))

  front : List X
  front = take at xs ++ drop (at + by) xs

  moved-is : moved ≡ front ++ drop (at + (length xs - (at + by))) xs
  unfolding moved front
  moved-is =
      let z : List X = drop (at + (length xs - (at + by))) xs in
      let t : take (length xs - (at + by)) (drop (at + by) xs) ≡ drop (at + by) xs =
      take_all (length xs - (at + by)) (drop (at + by) xs) (omega (arith, length-drop (at + by) xs)) in
      ap (λ (q : List X). take at xs ++ q ++ z) t

  front-long : length front ≡ length xs - by
  unfolding front
  front-long = omega (arith, length-append (take at xs) (drop (at + by) xs), length-take-le at xs (omega arith), length-drop (at + by) xs)

  moved-long : length moved ≡ length xs
  moved-long =
      omega (arith, ap length moved-is, length-append front (drop (at + (length xs - (at + by))) xs), front-long, length-drop (at + (length xs - (at + by))) xs)

  -- s is that, and ys the fill of its last entries
  pub shifted : (s ys : List X) → s ≡ paste xs at (drop (at + by) xs) (length xs - (at + by))
      → ys ≡ replicate (length (take (length s - (length xs - by)) (drop (length xs - by) s))) none
      → put_mid (length xs - by) (length s - (length xs - by)) s ys ≡ cut_down none at by xs
  unfolding cut_down moved front
  shifted s ys e f =
      let n : ℕ = length xs - by in
      let k : ℕ = length s - n in
      let long : length s ≡ length xs = omega (arith, ap length e, moved-long) in
      let room : length (drop n s) ≡ by = omega (arith, length-drop n s) in
      let full : length (take k (drop n s)) ≡ by = ap length (take_all k (drop n s) (omega arith)) ∙ room in
      let t : take n s ≡ front = ap (take n) (e ∙ moved-is) ∙ take_at front (drop (at + (length xs - (at + by))) xs) n front-long in
      let z : drop k (drop n s) ≡ [] = drop_of_length-le (drop n s) (omega arith) in
      ap (λ (q : List X). q ++ (ys ++ drop k (drop n s))) t
      ∙ ap (λ (q : List X). front ++ (ys ++ q)) z
      ∙ ap (λ (q : List X). front ++ q) (append-nil ys ∙ f ∙ ap (λ (i : ℕ). replicate i none) full)
      ∙ append_assoc (take at xs) (drop (at + by) xs) (replicate by none)
