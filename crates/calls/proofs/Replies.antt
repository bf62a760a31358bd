-- The replies of the cores, and what balance and settle make of them.
use Prim.Native.Nat.{ℕ, ◌-◌, ◌≤◌, ◌<◌}
use mathlib.Core.Path.{◌≡◌, refl, ap, ◌∙◌}
use mathlib.Core.Bool.{Bool, true, false}
use mathlib.Core.List.{List, [], ◌∷◌, map}
use native.Mathlib.Omega.{arith}
use lib.ListN.{length, take, replicate, length-map}
use lib.Seq.{take_at}
use borrow.Author.Tests.{le-leb, lt-leb}
use Rattle.rules.specs.Fold.{those_to}
use Rattle.rules.specs.Sheet.{Book, size}
use Rattle.rules.specs.Lent.{at_front}
use Rattle.rules.specs.Moves as M
use Rattle.rules.specs.Moves.{records, move_numbers}
use Rattle.rules.specs.Run.{Answer, answer, next, answer_numbers, roomy, records_to, balance_book, settle_book, balance_answer, settle_answer, records_in}
use Rattle.rules.specs.Run as R
use Rattle.sheet.specs.declared.Sheet.{Sheet}
use Rattle.sheet.specs.declared.Refusal.TheVariants.{BufferShort}
use Rattle.sheet.specs.Represent.{Sound, book_of}
use Rattle.sheet.proofs.SoundViews.{view-batches}
use Rattle.moves.specs.declared.Move.{Move}
use Rattle.moves.specs.declared.Change.{Change}
use Rattle.moves.specs.Filled.{move_as}
use Rattle.planner.specs.declared.Balanced.{Balanced}
use Rattle.planner.specs.declared.Settled.{Settled}
use Rattle.planner.specs.Calls.{balance_of, settle_of}
use Rattle.planner.proofs.Changes.{places_in, balance-change, settle-change}
use Rattle.std.specs.Prelude.{Result, Ok, Err}
use Rattle.sheet.specs.declared.Refusal.{Refusal}
use Rattle.calls.specs.declared.Reply.{Reply}
use Rattle.calls.specs.declared.cores.Planning.{Planning}
use Rattle.calls.specs.Lent.{balance_reply, settle_reply, balance_as, settle_as, list_numbers, balance_numbers, settle_numbers, lent_after, BalanceAnswered, SettleAnswered, ChangeIs, PlanningIs}

-- ---- the cores

module _ (s : Sheet) (v : Sound s) (c : ℕ) where
  abbrev k : Book
  k = book_of s

  few : size k ≤ 200
  few = view-batches s v

  -- no record at all
  none : (old new : List ℕ) → records 0 old new ≡ []
  unfolding records those_to
  none old new = refl

  module _ (h : c < size k) where
    short : roomy k c ≡ false
    short = lt-leb (size k) c h

    pub balance-short : PlanningIs (balance_reply k c) (answer k (R.balancing c)) c (Err BufferShort)
    unfolding balance_reply answer
    balance-short = record {
      reply = rw short;
      change = λ p q. cc;
      refused = λ e q. rw short;
    }

    pub settle-short : PlanningIs (settle_reply k c) (answer k (R.settling c)) c (Err BufferShort)
    unfolding settle_reply answer
    settle-short = record {
      reply = rw short;
      change = λ p q. cc;
      refused = λ e q. rw short;
    }

  module _ (i : ℕ) (old new : List ℕ) (e : i ≡ size k) (f : old ≡ places_in s) (h : i ≤ c) (count : ℕ) (q : count ≡ length (records i old new)) where
    abbrev change : Change
    change = record { old = old; new = new; n = i }

    enough : roomy k c ≡ true
    enough = le-leb (size k) c (omega arith)

    pub balance-long : (b : Balanced) → b ≡ balance_of k → new ≡ places_in b.sheet
        → PlanningIs (balance_reply k c) (answer k (R.balancing c)) c
        (Ok (record { reply = record { planned = b; records = count }; change = change }))
    unfolding balance_reply answer next balance_of
    balance-long b g d =
        let l = balance-change s v b g i old new e f d in
        let is : ChangeIs (answer k (R.balancing c)) c change =
        record { few = omega (arith, view-batches s v); room = h; records = rw enough l } in
        record {
          reply = rw (q, l, g, enough);
          change = λ p u. let w : p.change ≡ change = cc in rw w is;
          refused = λ r u. cc;
        }

    pub settle-long : (z : Settled) → z ≡ settle_of k → new ≡ places_in z.sheet
        → PlanningIs (settle_reply k c) (answer k (R.settling c)) c
        (Ok (record { reply = record { planned = z; records = count }; change = change }))
    unfolding settle_reply answer next settle_of
    settle-long z g d =
        let l = settle-change s v z g i old new e f d in
        let is : ChangeIs (answer k (R.settling c)) c change =
        record { few = omega (arith, view-batches s v); room = h; records = rw enough l } in
        record {
          reply = rw (q, l, g, enough);
          change = λ p u. let w : p.change ≡ change = cc in rw w is;
          refused = λ r u. cc;
        }

-- ---- the lent list

numbers_as : (l : List M.Move) → list_numbers (map move_as l) ≡ move_numbers l
unfolding list_numbers move_numbers
numbers_as [] = refl
numbers_as (v ∷ l) = ap (λ (d : List ℕ). v.batch ∷ v.from ∷ v.to ∷ d) (numbers_as l)

-- the records at the front
front-numbers : (l : List M.Move) (list : List Move) → list_numbers (take (length l) (at_front (map move_as l) list)) ≡ move_numbers l
front-numbers l list = ap list_numbers (take_at (map move_as l) _ (length l) (length-map l move_as)) ∙ numbers_as l

-- what balance and settle make of the cores' answers and of the list that is filled
module _ (k : Book) (before after : List Move) where
  filled : (a : Answer) (d : Change) → ChangeIs a (length before) d
      → after ≡ at_front (map move_as (records d.n d.old d.new)) before → after ≡ lent_after a before
  filled a d h e = rw h.records at e

  balance-numbers : (t : Bool) (s : Sheet) (list : List Move) → list ≡ lent_after (balance_answer t k) before
      → balance_numbers (balance_as (balance_answer t k) s) list ≡ answer_numbers (balance_answer t k)
  balance-numbers true s list e =
      let b = balance_book k in
      let l = records_to k b.assignment in
      rw (e, take_at b.group (replicate (24 - length b.group) 0) (length b.group) refl, front-numbers l before)
  balance-numbers false s list e = refl

  settle-numbers : (t : Bool) (s : Sheet) (list : List Move) → list ≡ lent_after (settle_answer t k) before
      → settle_numbers (settle_as (settle_answer t k) s) list ≡ answer_numbers (settle_answer t k)
  settle-numbers true s list e = rw (e, front-numbers (records_to k (settle_book k).assignment) before)
  settle-numbers false s list e = refl

  balance-answered : (r : Result (Reply Balanced) Refusal) → r ≡ balance_reply k (length before)
      → after ≡ lent_after (answer k (R.balancing (length before))) before → BalanceAnswered k before r after
  unfolding balance_reply answer
  balance-answered r h l = record {
    is = h;
    list = l;
    numbers = rw h (balance-numbers (roomy k (length before)) _ after l);
  }

  settle-answered : (r : Result (Reply Settled) Refusal) → r ≡ settle_reply k (length before)
      → after ≡ lent_after (answer k (R.settling (length before))) before → SettleAnswered k before r after
  unfolding settle_reply answer
  settle-answered r h l = record {
    is = h;
    list = l;
    numbers = rw h (settle-numbers (roomy k (length before)) _ after l);
  }

module _ (k : Book) (before : List Move) where
  -- a refusal leaves the list as it was
  kept : (a : Answer) → records_in a ≡ [] → before ≡ lent_after a before
  kept a f = rw f

  pub balance-refused : (e : Refusal)
      → PlanningIs (balance_reply k (length before)) (answer k (R.balancing (length before))) (length before) (Err e)
      → BalanceAnswered k before (Err e) before
  balance-refused e h =
      balance-answered k before before (Err e) h.reply (kept (answer k (R.balancing (length before))) (h.refused e refl))

  pub settle-refused : (e : Refusal)
      → PlanningIs (settle_reply k (length before)) (answer k (R.settling (length before))) (length before) (Err e)
      → SettleAnswered k before (Err e) before
  settle-refused e h =
      settle-answered k before before (Err e) h.reply (kept (answer k (R.settling (length before))) (h.refused e refl))

  -- otherwise it is filled from the change
  pub balance-made : (after : List Move) (p : Planning Balanced)
      → PlanningIs (balance_reply k (length before)) (answer k (R.balancing (length before))) (length before) (Ok p)
      → after ≡ at_front (map move_as (records p.change.n p.change.old p.change.new)) before
      → BalanceAnswered k before (Ok p.reply) after
  balance-made after p h e =
      balance-answered k before after (Ok p.reply) h.reply
      (filled k before after (answer k (R.balancing (length before))) p.change (h.change p refl) e)

  pub settle-made : (after : List Move) (p : Planning Settled)
      → PlanningIs (settle_reply k (length before)) (answer k (R.settling (length before))) (length before) (Ok p)
      → after ≡ at_front (map move_as (records p.change.n p.change.old p.change.new)) before
      → SettleAnswered k before (Ok p.reply) after
  settle-made after p h e =
      settle-answered k before after (Ok p.reply) h.reply
      (filled k before after (answer k (R.settling (length before))) p.change (h.change p refl) e)
