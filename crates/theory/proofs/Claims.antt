-- What is claimed on the book before each call of a list, and after the last (documents 01 and 02): of reviews, trials, balance, settle, the
-- plans compared with, started batches, edits in either order, lists and files.
use Prim.Native.Nat.{ℕ, suc, ◌-◌, ◌*◌, ◌≤◌, ◌<◌}
use mathlib.Core.Path.{◌≡◌}
use mathlib.Core.Bool.{true, false}
use mathlib.Core.List.{List, [], ◌∷◌, ◌++◌, map}
use lib.ListN.{length, take, drop}
use lib.Dec.{ltb}
use Rattle.rules.specs.Fold.{pick, at, mem, first_to}
use Rattle.rules.specs.Refusal.{buffer_short}
use Rattle.rules.specs.Sheet.{Book, Batch, size, batch, is_batch, head, sound}
use Rattle.rules.specs.Read.{read, accepted}
use Rattle.rules.specs.Rewrite.{written, SameContents}
use Rattle.rules.specs.Edit.{Edited, refused, edited, add, withdraw, requalify, move, start, edit}
use Rattle.rules.specs.Instance.{Assignment, calibrations_to, busy, instance, places, n}
use Rattle.rules.specs.Load.{makespan, equilibrium, review}
use Rattle.rules.specs.Trial.{ended, lift_bound, push_bound}
use Rattle.rules.specs.Group.{passed, trial}
use Rattle.rules.specs.Settle.{squares}
use Rattle.rules.specs.LowerBound.{witnessed}
use Rattle.rules.specs.Round.{multiples, close_to}
use Rattle.rules.specs.Moves.{Move, follow}
use Rattle.rules.specs.Run.{Call, editing, reviewing, trying, balancing, settling, Answer, balanced, settled, answer, next, book_after, answers, balance_book, settle_book, records_to, with_places}
use Rattle.rules.specs.Interleave.{independent, all_independent, Interleaving, turns, answers_by_turns}
use Rattle.rules.specs.Run as R
use Rattle.rules.specs.Listing.{plan_book}
use Rattle.theory.proofs.Valid.{Valid, Permitted}
use Rattle.theory.proofs.Review.{Improves}
use Rattle.theory.proofs.Trial.{Outcome}
use Rattle.theory.proofs.Balancing.{Counts}

-- ---- what the claims speak of

-- where the calibrations stand, each on its instrument
abbrev pub homes : Book → Assignment
homes k = map (λ (b : Batch). b.place) (calibrations_to k.calibrations k.m)

-- a plan of the batches: each on an instrument of its list, and each started one where it stands
pub record LeavesPut (k : Book) (x : Assignment) : Type 0 where
  pub listed : (b : ℕ) → b < size k → mem (at x (suc b)) (batch k (suc b)).list ≡ true
  pub put : (b : ℕ) → b < size k → (batch k (suc b)).started ≡ true → at x (suc b) ≡ (batch k (suc b)).place

-- the lowest of the instruments 1 to m that a list names
abbrev pub lowest : ℕ → List ℕ → ℕ
lowest m l = first_to m (λ i. mem i l)

-- the number of batch b after a withdrawal of batch j that ends so: one less where j stood before it
abbrev pub fallen : Edited → ℕ → ℕ → ℕ
fallen (refused e) j b = b
fallen (edited k) j b = pick (ltb j b) (b - 1) b

-- the number that batch b has after a call
abbrev pub renumbered : Book → Call → ℕ → ℕ
renumbered k (editing (withdraw j)) b = fallen (edit k (withdraw j)) j b
renumbered k (editing (add t l)) b = b
renumbered k (editing (requalify j l)) b = b
renumbered k (editing (move j i)) b = b
renumbered k (editing (start j)) b = b
renumbered k reviewing b = b
renumbered k (trying a) b = b
renumbered k (balancing c) b = b
renumbered k (settling c) b = b

-- and after a list of calls
unfoldable pub number_after : Book → List Call → ℕ → ℕ
number_after k [] b = b
number_after k (c ∷ cs) b = number_after (next k c) cs (renumbered k c b)

-- ---- the claims on a book

-- Of every trial, whatever its level, whether balance makes it or the host asks for it. The places that a passed one shows, those of the
-- batches, make its assignment with the calibrations where they stand, and leave started batches put.
pub record Trials (k : Book) : Type 0 where
  pub lifts : (a : ℕ) → (ended (instance k) (places k) a).lifts ≤ lift_bound (instance k)
  pub pushes : (a : ℕ) → (ended (instance k) (places k) a).pushes ≤ push_bound (instance k)
  pub valid : Valid (instance k)
  pub permitted : Permitted (instance k) (places k)
  pub outcomes : (a : ℕ) → Outcome (instance k) (places k) valid permitted a (trial (instance k) (places k) a)
  pub shows : (a : ℕ) (x : Assignment) (r b : ℕ) → trial (instance k) (places k) a ≡ passed x r b → take (size k) x ++ homes k ≡ x
  pub leaves : (a : ℕ) (x : Assignment) (r b : ℕ) → trial (instance k) (places k) a ≡ passed x r b → LeavesPut k x

-- Of a call with a list lent for its records that leaves the assignment x. With an entry for each batch it answers its figures, with the
-- records that lead from the book's places to x; the book after it has the places of x, and differs in nothing else that plans look at.
-- With fewer it is refused, and the book stays.
pub record Lends (k : Book) (call : ℕ → Call) (said : List Move → Answer) (x : Assignment) : Type 0 where
  pub answers : (c : ℕ) → size k ≤ c → answer k (call c) ≡ said (records_to k x)
  pub leads : follow (records_to k x) (places k) ≡ x
  pub entered : (c : ℕ) → size k ≤ c → places (next k (call c)) ≡ x
  pub same : (c : ℕ) → instance (next k (call c)) ≡ instance k
  pub short : (c : ℕ) → c < size k → answer k (call c) ≡ R.refused buffer_short
  pub stays : (c : ℕ) → c < size k → next k (call c) ≡ k

-- of balance, on any book; the counts it shows are those that the trial of its level made
pub record Balances (k : Book) : Type 0 where
  pub no_later : (balance_book k).makespan ≤ makespan (instance k) (places k)
  pub permitted : Permitted (instance k) (balance_book k).assignment
  pub makespan : (balance_book k).makespan ≡ makespan (instance k) (balance_book k).assignment
  pub counts : Counts (instance k) (places k) (balance_book k).level (balance_book k).lifts (balance_book k).pushes
  pub lends : Lends k balancing (balanced (balance_book k)) (balance_book k).assignment

-- of settle, on any book; its moves are at most half the sum of squared loads
pub record Settles (k : Book) : Type 0 where
  pub lends : Lends k settling (settled (settle_book k)) (settle_book k).assignment
  pub no_later : (settle_book k).makespan ≤ makespan (instance k) (places k)
  pub permitted : Permitted (instance k) (settle_book k).assignment
  pub makespan : (settle_book k).makespan ≡ makespan (instance k) (settle_book k).assignment
  pub settled : equilibrium (instance k) (settle_book k).assignment ≡ true
  pub moves : 2 * (settle_book k).moves ≤ squares (instance k) (places k)

-- Of permitted assignments: they are the plans of the batches that leave the started ones put, each with the calibrations where they stand.
pub record Permits (k : Book) : Type 0 where
  pub every : (x : Assignment) → length x ≡ size k → LeavesPut k x → Permitted (instance k) (x ++ homes k)
  pub leaves : (y : Assignment) → Permitted (instance k) y → LeavesPut k y
  pub only : (y : Assignment) → Permitted (instance k) y → drop (size k) y ≡ homes k
  -- there is a job just where the book is busy
  pub some : 0 < n (instance k) → busy k ≡ true

-- Of a started batch: balance and settle leave it as it is, and so does every list of calls; its number alone falls by one where an earlier
-- batch is withdrawn.
pub record Starts (k : Book) : Type 0 where
  pub balanced : (c b : ℕ) → (batch k b).started ≡ true → batch (next k (balancing c)) b ≡ batch k b
  pub settled : (c b : ℕ) → (batch k b).started ≡ true → batch (next k (settling c)) b ≡ batch k b
  pub stays : (cs : List Call) (b : ℕ) → (batch k b).started ≡ true → batch (book_after k cs) (number_after k cs b) ≡ batch k b

-- On a book with a batch, or a calibration above 0, of a finish after balance: for each g of which all lengths are multiples, those of
-- calibrations too, at most longest − g above any permitted plan, which leaves started batches put and has each calibration on its
-- instrument; and at most longest − 1 above the lower bound, which no permitted plan is below, and which has its witness.
pub record Bounds (k : Book) (finish : ℕ) : Type 0 where
  pub close : (g : ℕ) → multiples (instance k) g ≡ true → (y : Assignment) → Permitted (instance k) y
      → close_to (instance k) g finish (makespan (instance k) y) ≡ true
  pub below : (y : Assignment) → Permitted (instance k) y → (balance_book k).lower_bound ≤ makespan (instance k) y
  pub near : close_to (instance k) 1 finish (balance_book k).lower_bound ≡ true
  pub witness : witnessed (instance k) (balance_book k).group (balance_book k).lower_bound ≡ true

-- Of settle straight after balance, whatever lists of enough entries are lent: what planning had. The makespan and the moves are settle's,
-- and the rest is balance's.
pub record Plans (k : Book) : Type 0 where
  pub said : (c d : ℕ) → size k ≤ c → size k ≤ d → answer (next k (balancing c)) (settling d)
      ≡ settled (record { makespan = (plan_book k).makespan; moves = (plan_book k).moves; assignment = (plan_book k).assignment })
      (records_to (next k (balancing c)) (plan_book k).assignment)
  pub lower_bound : (plan_book k).lower_bound ≡ (balance_book k).lower_bound
  pub level : (plan_book k).level ≡ (balance_book k).level
  pub lifts : (plan_book k).lifts ≡ (balance_book k).lifts
  pub pushes : (plan_book k).pushes ≡ (balance_book k).pushes
  pub group : (plan_book k).group ≡ (balance_book k).group
  pub book : (c d : ℕ) → size k ≤ c → size k ≤ d → next (next k (balancing c)) (settling d) ≡ with_places k (plan_book k).assignment
  pub no_later : (plan_book k).makespan ≤ makespan (instance k) (places k)
  pub permitted : Permitted (instance k) (plan_book k).assignment
  pub settled : equilibrium (instance k) (plan_book k).assignment ≡ true
  pub bounds : busy k ≡ true → Bounds k (plan_book k).makespan
  pub makespan : (plan_book k).makespan ≡ makespan (instance k) (plan_book k).assignment

-- of review: settled is answered exactly when no batch improves, and what improves is a batch that has not started, and no calibration
pub record Reviews (k : Book) : Type 0 where
  pub settled : (review (instance k) (places k)).improving ≡ 0 → (b : ℕ) → 0 < b → b ≤ n (instance k) → Improves (instance k) (places k) b → ⊥
  pub unsettled : ((b : ℕ) → 0 < b → b ≤ n (instance k) → Improves (instance k) (places k) b → ⊥)
      → (review (instance k) (places k)).improving ≡ 0
  pub few : (review (instance k) (places k)).improving ≤ size k
  pub waits : (batch k (review (instance k) (places k)).improving).started ≡ false

-- Of lists, which ascend: the first listed is the lowest, and so is a place not given. An edit that adds gives none, and one that
-- requalifies gives none where the place is not in the new list.
pub record Lists (k : Book) : Type 0 where
  pub first : (b : ℕ) → is_batch k b ≡ true → head (batch k b).list ≡ lowest k.m (batch k b).list
  pub added : (t : ℕ) (l : List ℕ) (j : Book) → edit k (add t l) ≡ edited j → (batch j (size j)).place ≡ lowest k.m l
  pub requalified : (b : ℕ) (l : List ℕ) (j : Book) → edit k (requalify b l) ≡ edited j → mem (batch k b).place l ≡ false
      → (batch j b).place ≡ lowest k.m l

-- Of the file written from it: it is read as the very same book, has at most 33,958 bytes, and is the file of another sheet's book if that
-- has the same contents, and only then.
pub record Files (k : Book) : Type 0 where
  pub same : read (written k) ≡ accepted k
  pub equal : (j : Book) → sound j ≡ true → SameContents k j → written k ≡ written j
  pub only : (j : Book) → sound j ≡ true → written k ≡ written j → SameContents k j
  pub few : length (written k) ≤ 33958

-- Of two calls, whichever comes first: each has the same answer, and the book after both is the same.
pub record Commutes (k : Book) (c d : Call) : Type 0 where
  pub first : answer (next k d) c ≡ answer k c
  pub second : answer (next k c) d ≡ answer k d
  pub book : next (next k c) d ≡ next (next k d) c

-- Of calls that move, requalify or start different batches, refused or not: any two of them commute. And of two lists of them, interleaved in
-- whatever way, with any calls before and after: each call is answered as if the other list were not there, those after both lists as after
-- the one list and then the other, and the book at the end is that one too.
pub record Interleaves (k : Book) : Type 0 where
  pub pairs : (c d : Call) → independent c d ≡ true → Commutes k c d
  pub replies : {xs ys ws : List Call} (h : Interleaving xs ys ws) → all_independent xs ys ≡ true → (cs zs : List Call)
      → answers k (cs ++ (ws ++ zs)) ≡ answers_by_turns k (turns h) cs xs ys zs
  pub book : {xs ys ws : List Call} → Interleaving xs ys ws → all_independent xs ys ≡ true → (cs zs : List Call)
      → book_after k (cs ++ (ws ++ zs)) ≡ book_after k (cs ++ (xs ++ ys ++ zs))

pub record Claims (k : Book) : Type 0 where
  pub sound : sound k ≡ true
  pub lists : Lists k
  pub files : Files k
  pub reviews : Reviews k
  pub permits : Permits k
  pub starts : Starts k
  pub interleaves : Interleaves k
  pub trials : Trials k
  pub balances : Balances k
  pub bounds : busy k ≡ true → Bounds k (balance_book k).makespan
  pub settles : Settles k
  pub plans : Plans k
