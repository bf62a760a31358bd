-- Laws of batch lines over plain lists: how long they are, and one more of them.
use Rattle.std.proofs.Common.{ℕ, zero, suc, ◌≡◌, ◌+◌, ◌-◌, ◌*◌, ◌≤◌, ◌<◌, List, [], ◌∷◌, ◌++◌, length, get_or, take, drop, sum_by}
use Rattle.std.proofs.Common.{append_assoc, add-one, length-append, length-drop, refl, sym, ap, ◌∙◌, arith}
use Rattle.std.proofs.lemmas.List.{append-nil, length-take-le, take-take}
use Rattle.std.proofs.lemmas.List.Sums.{sum_by_more, sum_by-take-le}
use Rattle.std.proofs.Math.Seq.{paste}
use Rattle.rules.specs.Render.{fields, line, Described, render_batch}
use Rattle.theory.proofs.Format.{mark-said}
use Rattle.theory.proofs.Rewrite.{batch-length}
use Rattle.text.proofs.Pasted.{Wrote, wrote-more, wrote_as}
use Rattle.written.specs.Lines.{numbered_batch, line_length}

-- the batch at index b: its list starts at 24 b in lists
abbrev pub batch_in : List ℕ → List ℕ → List ℕ → List ℕ → List ℕ → ℕ → Described
batch_in minutes places started counts lists b =
    numbered_batch (get_or minutes b 0) (get_or places b 0) (get_or started b 0) (take (get_or counts b 0) (drop (b * 24) lists))

-- the lines of the first n
unfoldable pub lines_to : List ℕ → List ℕ → List ℕ → List ℕ → List ℕ → ℕ → List ℕ
lines_to minutes places started counts lists zero = []
lines_to minutes places started counts lists (suc b) =
    lines_to minutes places started counts lists b ++ render_batch (batch_in minutes places started counts lists b)

-- how many bytes they have
abbrev pub bytes_to : List ℕ → ℕ → ℕ
bytes_to counts n = sum_by line_length (take n counts)

-- the first n lists have at most 24 instruments, and 24 entries each
pub record Rows (counts lists : List ℕ) (n : ℕ) : Type 0 where
  pub counted : n ≤ length counts
  pub narrow : (b : ℕ) → b < n → get_or counts b 0 ≤ 24
  pub long : 24 * n ≤ length lists

-- fewer lines have no more bytes
part : (counts : List ℕ) (b n : ℕ) → b ≤ n → bytes_to counts b ≤ bytes_to counts n
part counts b n h = rw (take-take b n counts h) at (sum_by-take-le line_length (take n counts) b)

-- the next line's bytes are in what n lines have
pub line_more : (counts : List ℕ) {lists : List ℕ} (b n : ℕ) → Rows counts lists n → b < n
    → (bytes_to counts (b + 1) ≡ bytes_to counts b + line_length (get_or counts b 0)) × (bytes_to counts (b + 1) ≤ bytes_to counts n)
line_more counts b n r h =
    (sum_by_more line_length counts b 0 (omega (arith, r.counted)), part counts (b + 1) n (omega arith))

-- a line is three fields, the last of them the mark, and the list
pub batch-parts : (t p v : ℕ) (l : List ℕ) → v ≤ 1
    → fields (t ∷ p ∷ v ∷ []) ++ line (length l ∷ l) ≡ render_batch (numbered_batch t p v l)
unfolding fields
batch-parts t p v l h = rw (mark-said v h) (simp (append_assoc, append-nil))

pub list_length : {counts lists : List ℕ} {n : ℕ} (b : ℕ) → Rows counts lists n → b < n
    → length (take (get_or counts b 0) (drop (b * 24) lists)) ≡ get_or counts b 0
list_length {counts} {lists} {n} b r h =
    length-take-le (get_or counts b 0) (drop (b * 24) lists) (omega (arith, r.narrow b h, r.long, length-drop (b * 24) lists))

lines_snoc : (minutes places started counts lists : List ℕ) (b : ℕ)
    → lines_to minutes places started counts lists b ++ render_batch (batch_in minutes places started counts lists b)
    ≡ lines_to minutes places started counts lists (b + 1)
unfolding lines_to
lines_snoc minutes places started counts lists b = ap (lines_to minutes places started counts lists) (sym (add-one b))

pub lines-length : {counts lists : List ℕ} {n : ℕ} (minutes places started : List ℕ) (b : ℕ) → Rows counts lists n → b ≤ n
    → length (lines_to minutes places started counts lists b) ≡ bytes_to counts b
unfolding lines_to
lines-length minutes places started zero r h = refl
lines-length {counts} {lists} {n} minutes places started (suc b) r h =
    let x = batch_in minutes places started counts lists b in
    length-append (lines_to minutes places started counts lists b) (render_batch x)
    ∙ omega (
      arith,
      rw (add-one b) at (line_more counts b n r (omega arith)).0,
      lines-length minutes places started b r (omega arith),
      batch-length x,
      list_length b r (omega arith),
    )

-- a list as the part of lists from its start to its end
pub list-part : (lists : List ℕ) (b count : ℕ) → take (b * 24 + count - b * 24) (drop (b * 24) lists) ≡ take count (drop (b * 24) lists)
list-part lists b count =
    let e : b * 24 + count - b * 24 ≡ count = omega arith in
    ap (λ (i : ℕ). take i (drop (b * 24) lists)) e

-- the next line
pub lines_more : {d e f : List ℕ} {p n : ℕ} (minutes places started counts lists : List ℕ) (b q : ℕ) → Rows counts lists n → b < n
    → Wrote d p (lines_to minutes places started counts lists b) (bytes_to counts b) e → q ≡ p + bytes_to counts b
    → p + bytes_to counts n ≤ length d
    → f ≡ paste e q (render_batch (batch_in minutes places started counts lists b))
    (line_length (length (take (get_or counts b 0) (drop (b * 24) lists))))
    → Wrote d p (lines_to minutes places started counts lists (b + 1)) (bytes_to counts (b + 1)) f
lines_more {e = e} {n = n} minutes places started counts lists b q r h w a room g =
    let x = batch_in minutes places started counts lists b in
    let l = list_length b r h in
    let m = line_more counts b n r h in
    wrote_as
    (wrote-more (render_batch x) q (line_length (get_or counts b 0)) (bytes_to counts (b + 1)) w a m.0
    (batch-length x ∙ ap line_length l)
    (omega (arith, m.0, m.1))
    (g ∙ ap (λ (i : ℕ). paste e q (render_batch x) (line_length i)) l))
    (lines_snoc minutes places started counts lists b)
