-- A sound sheet's arrays: the instance that they say, its placement, and answers as the rules give them.
use Prim.Native.Nat.{ℕ, zero, suc, ◌+◌, ◌-◌, ◌*◌, ◌≤◌, ◌<◌, ◌^◌}
use mathlib.Core.Path.{◌≡◌, refl, sym, ap, ◌∙◌}
use mathlib.Core.Bool.{Bool, true, false}
use mathlib.Core.List.{List, [], ◌∷◌, map}
use native.Mathlib.Omega.{arith}
use lib.ListN.{length, get_or, take, drop, replicate, length-drop, length-map, take-append-drop, get_or-map}
use lib.Seq.{get_or-drop, get_or-take, length-take-le, take_at}
use native.Mathlib.Numerals.{add-one}
use lib.Dec.{leb, eqb}
use borrow.Author.Tests.{le-leb}
use Rattle.rules.specs.Fold.{◌and◌, pick, at}
use Rattle.rules.specs.Instance.{Instance, Job, no_job, n, job_of, items, instance, places, minutes_of, list_of, eligible}
use Rattle.rules.specs.Marks.{marks_of}
use Rattle.rules.specs.Load.{review}
use Rattle.theory.proofs.Valid.{Valid, Permitted}
use Rattle.theory.proofs.Logic.{by_test}
use Rattle.theory.proofs.Entries.{get_d-zeros}
use Rattle.theory.proofs.Marks.{mark-at}
use Rattle.theory.proofs.Jobs.{jobs-count}
use Rattle.sheet.specs.declared.Sheet.{Sheet}
use Rattle.sheet.specs.Represent.{padded, book_of, Sound}
use Rattle.sheet.specs.View.{mark_rows}
use Rattle.sheet.proofs.Padded.{length-padded}
use Rattle.sheet.proofs.Marks.{length-mark-rows}
use Rattle.sheet.proofs.SoundViews.{view-instruments, view-valid, view-small, marks-row}
use Rattle.arrays.specs.Sets.{has, SetsOf}
use Rattle.rules.specs.Sheet.{Book, Batch, no_batch_here}
use Rattle.scans.specs.Marks.{Marked}
use Rattle.arrays.specs.Reads.{Reads}
use Rattle.arrays.specs.declared.Jobs.{Jobs}
use Rattle.planner.specs.declared.items.Items.{Items}
use Rattle.planner.specs.declared.laid.Laid.{Laid}
use Rattle.planner.specs.Items.{items_of}
use Rattle.planner.specs.Laid.{LaidAs}
use Rattle.arrays.specs.Found.{found}
use Rattle.std.specs.Prelude.{Option}
use Rattle.std.specs.Option.{option_map}
use Rattle.settling.specs.Settling.{ReviewIs}
use Rattle.planner.specs.Calls.{numbered, review_of}

-- ---- a list in w entries

all-zeros : (l : List ℕ) → ((k : ℕ) → k < length l → get_or l k 0 ≡ 0) → l ≡ replicate (length l) 0
all-zeros [] h = refl
all-zeros (x ∷ l) h =
    ap (λ (y : ℕ). y ∷ l) (h 0 (omega arith)) ∙ ap (λ (t : List ℕ). 0 ∷ t) (all-zeros l (λ k p. h (suc k) (omega arith)))

-- a list whose first m entries are x and whose others are 0
pub padded-by : (w m : ℕ) (l x : List ℕ) → length l ≡ w → m ≤ w → take m l ≡ x → ((i : ℕ) → m < i → i ≤ w → at l i ≡ 0) → l ≡ padded w x
padded-by w m l x e f g h =
    let rest : drop m l ≡ replicate (length (drop m l)) 0 =
    all-zeros (drop m l) (λ k p. get_or-drop m l k 0 ∙ h (suc (m + k)) (omega arith) (omega (arith, length-drop m l))) in
    let size : length (drop m l) ≡ w - length x = omega (arith, length-drop m l, length-take-le m l (omega arith), ap length g) in
    sym (take-append-drop m l) ∙ (rw (g, rest, size) refl)

-- ---- the instance

flag_is : (b : Bool) → eqb (pick b 1 0) 1 ≡ b
flag_is true = refl
flag_is false = refl

both : (I : Instance) (b i : ℕ) → Valid I → (leb i I.m and eligible I b i) ≡ eligible I b i
unfolding ◌and◌
both I b i v =
    by_test (eligible I b i)
    (λ t. rw (le-leb i I.m (v.ranged b i t).1) refl)
    (λ t. rw t (by_test (leb i I.m) (λ u. rw u refl) (λ u. rw u refl)))

-- the job at an index, and the item there
job-of : (k : Book) (b : ℕ) → get_or (instance k).jobs b no_job ≡ job_of (get_or (items k) b no_batch_here)
job-of k b = get_or-map job_of (items k) b no_batch_here

minutes-at : (k : Book) (b : ℕ) → at (items_of (items k)).minutes b ≡ minutes_of (instance k) b
minutes-at k zero = refl
minutes-at k (suc b) =
    let l = map (λ (c : Batch). c.minutes) (items k) in
    get_d-zeros l (224 - length l) b
    ∙ get_or-map (λ (c : Batch). c.minutes) (items k) b no_batch_here
    ∙ ap (λ (j : Job). j.minutes) (sym (job-of k b))

-- the marks of its lists
item-marks : (k : Book) (b : ℕ) → b < n (instance k) → take 24 (drop (b * 24) (items_of (items k)).marks) ≡ marks_of (list_of (instance k) (suc b))
item-marks k b h =
    marks-row (items k) _ b (omega (arith, jobs-count k)) ∙ ap (λ (j : Job). marks_of j.list) (sym (job-of k b))

pub view-marked : (k : Book) (c : ℕ) (a : Items) → n (instance k) ≡ c → a ≡ items_of (items k) → Marked (instance k) c a.marks
view-marked k c a e h b l = rw h (item-marks k b (omega arith))

mark-is : (k : Book) (b i : ℕ) → b < n (instance k) → 0 < i → i ≤ 24
    → get_or (items_of (items k)).marks (b * 24 + (i - 1)) 0 ≡ pick (eligible (instance k) (suc b) i) 1 0
mark-is k b i h p q =
    let flags = (items_of (items k)).marks in
    let z : suc (i - 1) ≡ i = omega arith in
    sym (get_or-take 24 (drop (b * 24) flags) (i - 1) 0 (omega arith) ∙ get_or-drop (b * 24) flags (i - 1) 0)
    ∙ ap (λ (l : List ℕ). get_or l (i - 1) 0) (item-marks k b h)
    ∙ mark-at (list_of (instance k) (suc b)) (i - 1) (omega arith)
    ∙ (rw z)

item_count : (k : Book) {a : Items} → a ≡ items_of (items k) → a.n ≡ n (instance k)
item_count k e = ap (λ (r : Items). r.n) e ∙ sym (jobs-count k)

-- at most 24 machines, and at most 224 items
pub few-machines : (s : Sheet) → Sound s → {m : ℕ} → m ≡ (book_of s).m → m ≤ 24
few-machines s v e = omega (arith, e, view-instruments s v)

pub few-items : (s : Sheet) → Sound s → {a : Items} → a ≡ items_of (items (book_of s)) → a.n ≤ 224
few-items s v e = omega (arith, item_count (book_of s) e, (view-small s v).jobs)

pub items-wide : (s : Sheet) → Sound s → {a : Items} → a ≡ items_of (items (book_of s))
    → (length a.minutes ≡ 224) × (length a.places ≡ 224) × (length a.marks ≡ 5376)
items-wide s v e =
    let bs = items (book_of s) in
    let few : length bs ≤ 224 = omega (arith, jobs-count (book_of s), (view-small s v).jobs) in
    let t = length-map bs (λ (b : Batch). b.minutes) in
    let p = length-map bs (λ (b : Batch). b.place) in
    rw e (
      length-padded 224 (map (λ (b : Batch). b.minutes) bs) (omega arith),
      length-padded 224 (map (λ (b : Batch). b.place) bs) (omega arith),
      length-padded 5376 (mark_rows bs) (omega (arith, length-mark-rows bs)),
    )

-- a sound sheet's items, with their marks as sets
module _ (s : Sheet) (v : Sound s) {m : ℕ} {a : Items} {sets : List ℕ} (e : m ≡ (book_of s).m) (f : a ≡ items_of (items (book_of s)))
    (w : SetsOf a.marks m a.n sets) where
  mask_is : (b i : ℕ) → 0 < b → b ≤ a.n → 0 < i → i ≤ 24 → has (at sets b) i ≡ eligible (instance (book_of s)) b i
  mask_is zero i p q r t = absurd (omega arith)
  mask_is (suc b) i p q r t =
      let I = instance (book_of s) in
      let flag : get_or a.marks (b * 24 + (i - 1)) 0 ≡ pick (eligible I (suc b) i) 1 0 =
      ap (λ (x : Items). get_or x.marks (b * 24 + (i - 1)) 0) f ∙ mark-is (book_of s) b i (omega (arith, item_count (book_of s) f)) r t in
      (w.each b (omega arith)).each i r t ∙ (rw (flag, flag_is (eligible I (suc b) i), e) (both I (suc b) i (view-valid s v)))

  word : (b : ℕ) → at sets b < 2 ^ 24
  word zero = omega arith
  word (suc b) = w.small b

  pub view-reads : Reads (instance (book_of s)) m a.n a.minutes sets
  view-reads = record {
    machines = sym e;
    jobs = sym (item_count (book_of s) f);
    few = few-machines s v e;
    most = few-items s v f;
    minutes = λ b p q. ap (λ (x : Items). at x.minutes b) f ∙ minutes-at (book_of s) b;
    masks = mask_is;
    words = word;
    small = view-small s v;
    valid = view-valid s v;
  }

-- its placement
pub view-place : (k : Book) {a : Items} → a ≡ items_of (items k) → take a.n a.places ≡ places k
view-place k e =
    rw e (take_at (places k) (replicate (224 - length (places k)) 0) (length (items k)) (length-map (items k) (λ (b : Batch). b.place)))

pub permitted-at : {I : Instance} {x y : List ℕ} → x ≡ y → Permitted I y → Permitted I x
permitted-at e w = rw e w

-- ---- what is shown

-- a number and its index
numbered-found : (b : ℕ) → option_map (λ i. i + 1) (found b) ≡ numbered b
numbered-found zero = refl
numbered-found (suc b) = rw add-one refl

pub review-shown : (k : Book) {j : Jobs} {a : Laid} {makespan : ℕ} {improving : Option ℕ} → LaidAs k j a → length a.start.loads ≡ 24
    → ReviewIs (instance k) j a.start makespan improving → {number : Option ℕ} → number ≡ option_map (λ i. i + 1) improving
    → record { loads = a.start.loads; makespan = makespan; improving = number } ≡ review_of k
unfolding review_of
review-shown k {j} {a} {makespan} {improving} v e h {number} q =
    let I = instance k in
    let t = v.shown in
    let each : a.start.loads ≡ padded 24 (review I (places k)).loads =
    padded-by 24 j.m a.start.loads _ e v.stands.reads.few (h.each ∙ ap (λ (y : List ℕ). (review I y).loads) t) v.rest in
    let greatest : makespan ≡ (review I (places k)).makespan = h.greatest ∙ ap (λ (y : List ℕ). (review I y).makespan) t in
    let lowest : number ≡ numbered (review I (places k)).improving =
    q ∙ ap (option_map (λ i. i + 1)) h.lowest ∙ numbered-found _ ∙ ap (λ (y : List ℕ). numbered (review I y).improving) t in
    rw (each, greatest, lowest) refl
