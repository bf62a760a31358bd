-- What the cores make of the replies to balance and settle.
use Prim.Native.Nat.{ℕ}
use mathlib.Core.Path.{◌≡◌, refl, sym, ap, ◌∙◌}
use mathlib.Core.Bool.{Bool, true, false}
use mathlib.Core.List.{List, map}
use lib.ListN.{length}
use Rattle.std.specs.Prelude.{Result, Ok, Err}
use Rattle.rules.specs.Lent.{at_front, into_buffer}
use Rattle.rules.specs.Lent as L
use Rattle.rules.specs.Sheet.{Book}
use Rattle.rules.specs.Read.{read, accepted}
use Rattle.rules.specs.Refusal.{buffer_short}
use Rattle.rules.specs.Moves.{records}
use Rattle.rules.specs.Rewrite.{written}
use Rattle.rules.specs.Run.{Answer, refused, answer, next, records_to, roomy, balance_answer, settle_answer, balance_book, settle_book}
use Rattle.rules.specs.Run as R
use Rattle.rules.specs.Filed.{Filed, filed}
use Rattle.theory.proofs.Runs.{next-sound}
use Rattle.sheet.specs.declared.Sheet.{Sheet}
use Rattle.sheet.specs.declared.Fault.{Fault}
use Rattle.sheet.specs.declared.Refusal.{Refusal}
use Rattle.sheet.specs.declared.Refusal.TheVariants.{BufferShort}
use Rattle.sheet.specs.Represent.{Sound, sheet_of, book_of}
use Rattle.sheet.specs.Answers.{number_of, hosted_as, fault}
use Rattle.sheet.proofs.Represent.{book-sheet, sheet-sound}
use Rattle.moves.specs.declared.Move.{Move}
use Rattle.moves.specs.declared.Change.{Change}
use Rattle.moves.specs.Filled.{move_as}
use Rattle.planner.specs.declared.Balanced.{Balanced}
use Rattle.planner.specs.declared.Settled.{Settled}
use Rattle.calls.specs.declared.Reply.{Reply}
use Rattle.calls.specs.declared.cores.Planning.{Planning}
use Rattle.calls.specs.Lent.{balance_reply, settle_reply, balance_as, settle_as, balance_left, settle_left, ChangeIs, PlanningIs}
use Rattle.calls.proofs.Runs.{balance-next, settle-next}
use Rattle.filing.specs.declared.Filing.{Filing}
use Rattle.filing.specs.Filed.{balance_with, settle_with, filed_balance, filed_settle, BalanceIs, SettleIs, BalanceFilingIs, SettleFilingIs}
use Rattle.filing.proofs.Cases.{Nothing, left_alone, not_written, out-is, all_done, not_made}

-- a list of records that is filled from a change
filled : {a : Answer} {c : ℕ} {d : Change} (before after : List Move) → ChangeIs a c d
    → after ≡ at_front (map move_as (records d.n d.old d.new)) before → after ≡ at_front (map move_as (R.records_in a)) before
filled before after h e = rw h.records at e

-- a core's answer with that reply
abbrev shown_as : {P : Type 0} → ℕ → Change → Result (Reply P) Refusal → Result (Filing P) Fault
shown_as n d (Ok r) = Ok (record { planning = record { reply = r; change = d }; length = n })
shown_as n d (Err e) = Err (record { refusal = e; line = 0 })

-- nothing is done
pub balance-nothing : (bytes : List ℕ) (c : ℕ) (buffer : List ℕ) (f : Fault) (out : List ℕ) → Nothing buffer f (filed bytes (R.balancing c) buffer)
    → out ≡ (filed bytes (R.balancing c) buffer).hosted.buffer → BalanceFilingIs bytes c buffer (Err f) out
balance-nothing bytes c buffer f out h o = record {
  reply = rw (h.hosted, h.answer);
  sheet = o;
  change = λ z u. cc;
  refused = λ z u. rw h.answer;
}

-- a reply that is made, as the host is given it
balance-shown : (n : ℕ) (p : Planning Balanced) (out : List ℕ) (k : Book) (s : Sheet) {a : Answer}
    → a ≡ R.balanced (balance_book k) (records_to k (balance_book k).assignment) → Ok p.reply ≡ balance_as a s
    → filed_balance (Ok (record { planning = p; length = n })) ≡ balance_with (hosted_as (Ok n) out) a
balance-shown n p out k s m q =
    let r = rw m at q in
    rw m (ap (λ (x : Result (Reply Balanced) Refusal). filed_balance (shown_as n p.change x)) r)

-- ---- balance

balance-really : (k : Book) (t : Bool) (s : Sheet) (r : Reply Balanced) → Ok r ≡ balance_as (balance_answer t k) s
    → balance_answer t k ≡ R.balanced (balance_book k) (records_to k (balance_book k).assignment)
balance-really k true s r e = refl
balance-really k false s r e = cc

balance-either : (k : Book) (t : Bool) (s : Sheet) (e : Refusal) → Err e ≡ balance_as (balance_answer t k) s
    → (balance_answer t k ≡ refused buffer_short) × (number_of e ≡ 9)
balance-either k true s e q = cc
balance-either k false s e q = (refl, let z : e ≡ BufferShort = cc in rw z)

-- the list is too short
pub balance-refused : (bytes : List ℕ) (c : ℕ) (buffer : List ℕ) (k : Book) → read bytes ≡ accepted k → (e : Refusal)
    → (answer k (R.balancing c) ≡ refused buffer_short) × (number_of e ≡ 9) → BalanceFilingIs bytes c buffer (Err (fault e 0)) buffer
balance-refused bytes c buffer k a e s =
    let h = not_made bytes (R.balancing c) buffer k a (fault e 0) s.0 s.1 refl in
    balance-nothing bytes c buffer (fault e 0) buffer h (left_alone h)

module _ (s : Sheet) (c : ℕ) (e : Refusal)
    (d : PlanningIs (balance_reply (book_of s) c) (answer (book_of s) (R.balancing c)) c (Err e)) where
  pub balance-short : (answer (book_of s) (R.balancing c) ≡ refused buffer_short) × (number_of e ≡ 9)
  unfolding balance_reply answer
  balance-short = balance-either (book_of s) (roomy (book_of s) c) _ e d.reply

module _ (s : Sheet) (v : Sound s) (c : ℕ) (p : Planning Balanced)
    (d : PlanningIs (balance_reply (book_of s) c) (answer (book_of s) (R.balancing c)) c (Ok p)) where
  balance-sheet : p.reply.planned.sheet ≡ sheet_of (next (book_of s) (R.balancing c))
  balance-sheet = ap (balance_left (sheet_of (book_of s))) d.reply ∙ balance-next (book_of s) c

  pub balance-sound : Sound p.reply.planned.sheet
  balance-sound = rw balance-sheet (sheet-sound (next (book_of s) (R.balancing c)) (next-sound (book_of s) (R.balancing c) v.book))

  balance-made : answer (book_of s) (R.balancing c) ≡ R.balanced (balance_book (book_of s)) (records_to (book_of s) (balance_book (book_of s)).assignment)
  unfolding balance_reply answer
  balance-made = balance-really (book_of s) (roomy (book_of s) c) _ p.reply d.reply

  module _ (bytes buffer : List ℕ) (a : read bytes ≡ accepted (book_of s)) (out : List ℕ) where
    balance-text : (r : Result ℕ Fault) → hosted_as r out ≡ into_buffer (L.text (written (book_of p.reply.planned.sheet))) buffer
        → hosted_as r out ≡ into_buffer (L.text (written (next (book_of s) (R.balancing c)))) buffer
    balance-text r w =
        w ∙ ap (λ (k : Book). into_buffer (L.text (written k)) buffer)
        (rw balance-sheet (book-sheet (next (book_of s) (R.balancing c)) (next-sound (book_of s) (R.balancing c) v.book)))

    -- the buffer is too short
    pub balance-unwritten : (f : Fault) → hosted_as (Err f) out ≡ into_buffer (L.text (written (book_of p.reply.planned.sheet))) buffer
        → BalanceFilingIs bytes c buffer (Err f) out
    balance-unwritten f w =
        let t = balance-text (Err f) w in
        let o = out-is bytes (R.balancing c) buffer (book_of s) a (rw balance-made) (Err f) out t in
        let h = not_written bytes (R.balancing c) buffer (book_of s) a (rw balance-made) out f t in
        balance-nothing bytes c buffer f out h o

    -- it is not
    pub balance-done : (n : ℕ) → hosted_as (Ok n) out ≡ into_buffer (L.text (written (book_of p.reply.planned.sheet))) buffer
        → BalanceFilingIs bytes c buffer (Ok (record { planning = p; length = n })) out
    unfolding balance_reply
    balance-done n w =
        let f = all_done bytes (R.balancing c) buffer (book_of s) a (rw balance-made) out n (balance-text (Ok n) w) in
        let m = balance-made in
        let q : Ok p.reply ≡ balance_as (answer (book_of s) (R.balancing c)) (sheet_of (next (book_of s) (R.balancing c))) = d.reply in
        record {
          reply = rw f (balance-shown n p out _ _ m q);
          sheet = sym (ap (λ (x : Filed). x.hosted.buffer) f);
          change = λ z u. let g : z.planning.change ≡ p.change = cc in rw (f, g) (d.change p refl);
          refused = λ z u. cc;
        }

-- what the call makes of its core's answer and of the list that is filled, or stays
pub balance-filled : (bytes : List ℕ) (before : List Move) (buffer : List ℕ) (f : Filing Balanced) (after : List Move) (out : List ℕ)
    → BalanceFilingIs bytes (length before) buffer (Ok f) out
    → after ≡ at_front (map move_as (records f.planning.change.n f.planning.change.old f.planning.change.new)) before
    → BalanceIs bytes before buffer (filed_balance (Ok f)) after out
balance-filled bytes before buffer f after out h e = record { is = h.reply; list = filled before after (h.change f refl) e; sheet = h.sheet }

pub balance-kept : (bytes : List ℕ) (before : List Move) (buffer : List ℕ) (f : Fault) (out : List ℕ)
    → BalanceFilingIs bytes (length before) buffer (Err f) out → BalanceIs bytes before buffer (filed_balance (Err f)) before out
balance-kept bytes before buffer f out h = record { is = h.reply; list = rw (h.refused f refl); sheet = h.sheet }

-- nothing is done
pub settle-nothing : (bytes : List ℕ) (c : ℕ) (buffer : List ℕ) (f : Fault) (out : List ℕ) → Nothing buffer f (filed bytes (R.settling c) buffer)
    → out ≡ (filed bytes (R.settling c) buffer).hosted.buffer → SettleFilingIs bytes c buffer (Err f) out
settle-nothing bytes c buffer f out h o = record {
  reply = rw (h.hosted, h.answer);
  sheet = o;
  change = λ z u. cc;
  refused = λ z u. rw h.answer;
}

-- a reply that is made, as the host is given it
settle-shown : (n : ℕ) (p : Planning Settled) (out : List ℕ) (k : Book) (s : Sheet) {a : Answer}
    → a ≡ R.settled (settle_book k) (records_to k (settle_book k).assignment) → Ok p.reply ≡ settle_as a s
    → filed_settle (Ok (record { planning = p; length = n })) ≡ settle_with (hosted_as (Ok n) out) a
settle-shown n p out k s m q =
    let r = rw m at q in
    rw m (ap (λ (x : Result (Reply Settled) Refusal). filed_settle (shown_as n p.change x)) r)

-- ---- settle

settle-really : (k : Book) (t : Bool) (s : Sheet) (r : Reply Settled) → Ok r ≡ settle_as (settle_answer t k) s
    → settle_answer t k ≡ R.settled (settle_book k) (records_to k (settle_book k).assignment)
settle-really k true s r e = refl
settle-really k false s r e = cc

settle-either : (k : Book) (t : Bool) (s : Sheet) (e : Refusal) → Err e ≡ settle_as (settle_answer t k) s
    → (settle_answer t k ≡ refused buffer_short) × (number_of e ≡ 9)
settle-either k true s e q = cc
settle-either k false s e q = (refl, let z : e ≡ BufferShort = cc in rw z)

-- the list is too short
pub settle-refused : (bytes : List ℕ) (c : ℕ) (buffer : List ℕ) (k : Book) → read bytes ≡ accepted k → (e : Refusal)
    → (answer k (R.settling c) ≡ refused buffer_short) × (number_of e ≡ 9) → SettleFilingIs bytes c buffer (Err (fault e 0)) buffer
settle-refused bytes c buffer k a e s =
    let h = not_made bytes (R.settling c) buffer k a (fault e 0) s.0 s.1 refl in
    settle-nothing bytes c buffer (fault e 0) buffer h (left_alone h)

module _ (s : Sheet) (c : ℕ) (e : Refusal)
    (d : PlanningIs (settle_reply (book_of s) c) (answer (book_of s) (R.settling c)) c (Err e)) where
  pub settle-short : (answer (book_of s) (R.settling c) ≡ refused buffer_short) × (number_of e ≡ 9)
  unfolding settle_reply answer
  settle-short = settle-either (book_of s) (roomy (book_of s) c) _ e d.reply

module _ (s : Sheet) (v : Sound s) (c : ℕ) (p : Planning Settled)
    (d : PlanningIs (settle_reply (book_of s) c) (answer (book_of s) (R.settling c)) c (Ok p)) where
  settle-sheet : p.reply.planned.sheet ≡ sheet_of (next (book_of s) (R.settling c))
  settle-sheet = ap (settle_left (sheet_of (book_of s))) d.reply ∙ settle-next (book_of s) c

  pub settle-sound : Sound p.reply.planned.sheet
  settle-sound = rw settle-sheet (sheet-sound (next (book_of s) (R.settling c)) (next-sound (book_of s) (R.settling c) v.book))

  settle-made : answer (book_of s) (R.settling c) ≡ R.settled (settle_book (book_of s)) (records_to (book_of s) (settle_book (book_of s)).assignment)
  unfolding settle_reply answer
  settle-made = settle-really (book_of s) (roomy (book_of s) c) _ p.reply d.reply

  module _ (bytes buffer : List ℕ) (a : read bytes ≡ accepted (book_of s)) (out : List ℕ) where
    settle-text : (r : Result ℕ Fault) → hosted_as r out ≡ into_buffer (L.text (written (book_of p.reply.planned.sheet))) buffer
        → hosted_as r out ≡ into_buffer (L.text (written (next (book_of s) (R.settling c)))) buffer
    settle-text r w =
        w ∙ ap (λ (k : Book). into_buffer (L.text (written k)) buffer)
        (rw settle-sheet (book-sheet (next (book_of s) (R.settling c)) (next-sound (book_of s) (R.settling c) v.book)))

    -- the buffer is too short
    pub settle-unwritten : (f : Fault) → hosted_as (Err f) out ≡ into_buffer (L.text (written (book_of p.reply.planned.sheet))) buffer
        → SettleFilingIs bytes c buffer (Err f) out
    settle-unwritten f w =
        let t = settle-text (Err f) w in
        let o = out-is bytes (R.settling c) buffer (book_of s) a (rw settle-made) (Err f) out t in
        let h = not_written bytes (R.settling c) buffer (book_of s) a (rw settle-made) out f t in
        settle-nothing bytes c buffer f out h o

    -- it is not
    pub settle-done : (n : ℕ) → hosted_as (Ok n) out ≡ into_buffer (L.text (written (book_of p.reply.planned.sheet))) buffer
        → SettleFilingIs bytes c buffer (Ok (record { planning = p; length = n })) out
    unfolding settle_reply
    settle-done n w =
        let f = all_done bytes (R.settling c) buffer (book_of s) a (rw settle-made) out n (settle-text (Ok n) w) in
        let m = settle-made in
        let q : Ok p.reply ≡ settle_as (answer (book_of s) (R.settling c)) (sheet_of (next (book_of s) (R.settling c))) = d.reply in
        record {
          reply = rw f (settle-shown n p out _ _ m q);
          sheet = sym (ap (λ (x : Filed). x.hosted.buffer) f);
          change = λ z u. let g : z.planning.change ≡ p.change = cc in rw (f, g) (d.change p refl);
          refused = λ z u. cc;
        }

-- what the call makes of its core's answer and of the list that is filled, or stays
pub settle-filled : (bytes : List ℕ) (before : List Move) (buffer : List ℕ) (f : Filing Settled) (after : List Move) (out : List ℕ)
    → SettleFilingIs bytes (length before) buffer (Ok f) out
    → after ≡ at_front (map move_as (records f.planning.change.n f.planning.change.old f.planning.change.new)) before
    → SettleIs bytes before buffer (filed_settle (Ok f)) after out
settle-filled bytes before buffer f after out h e = record { is = h.reply; list = filled before after (h.change f refl) e; sheet = h.sheet }

pub settle-kept : (bytes : List ℕ) (before : List Move) (buffer : List ℕ) (f : Fault) (out : List ℕ)
    → SettleFilingIs bytes (length before) buffer (Err f) out → SettleIs bytes before buffer (filed_settle (Err f)) before out
settle-kept bytes before buffer f out h = record { is = h.reply; list = rw (h.refused f refl); sheet = h.sheet }
