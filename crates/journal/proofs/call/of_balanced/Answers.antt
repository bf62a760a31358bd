-- The group behind the figures, and the records behind it.
use Prim.Native.Nat.{ℕ, ◌+◌, ◌*◌, ◌≤◌}
use mathlib.Core.Path.{◌≡◌}
use mathlib.Core.List.{List, [], ◌∷◌, ◌++◌}
use mathlib.Core.Bool.{false}
use native.Mathlib.Omega.{arith}
use lib.ListN.{length, take}
use lib.Seq.{length-take-le}
use Rattle.planner.specs.declared.Balanced.{Balanced}
use Rattle.journal.specs.declared.answer.Answer.{Answer}
use Rattle.journal.specs.Answering.{answer_with, Whole, Extends, change_numbers}
use Rattle.journal.proofs.Extending.{fits, extended, added}
use Rattle.journal.proofs.call.of_balanced.Goals as goal

abbrev figures : Balanced → List ℕ
figures b = 0 ∷ b.makespan ∷ b.bound ∷ b.level ∷ b.lifts ∷ b.pushes ∷ b.group.size ∷ []

module _ (b : Balanced) (h : (b.group.size ≤ 24) × (length b.group.list ≡ 24)) (a : Answer) (e : a ≡ answer_with (figures b) false) where
  abbrev group : List ℕ
  group = take b.group.size b.group.list

  long : length group ≤ 24
  long = omega (arith, h.0, length-take-le b.group.size b.group.list (omega (arith, h.0, h.1)))

  group-fits : (a.size + length group ≤ 632) × Whole a
  group-fits = fits (figures b) false a (length group) e (omega (arith, long))

  module _ (d : Answer) (x : Extends (λ x v. v ≡ x) group a d) where
    with-group : d ≡ answer_with (figures b ++ group) false
    with-group = extended (figures b) group false a d e x

    records-fit : (n : ℕ) → n ≤ 200 → (d.size + (1 + 3 * n) ≤ 632) × Whole d
    records-fit n k = fits (figures b ++ group) false d (1 + 3 * n) with-group (omega (arith, long))

pub extend-requires : goal.extend-requires
extend-requires c =
    group-fits c.args.b (c.requires.0, c.requires.1) c.of-answer.result
    (rw (c.from.ensures, c.from-2.ensures, c.from-3.ensures, c.from-4.ensures, c.from-5.ensures) at c.of-answer.ensures)

pub add_records-requires : goal.add_records-requires
add_records-requires c =
    let o = rw (c.from.ensures, c.from-2.ensures, c.from-3.ensures, c.from-4.ensures, c.from-5.ensures) at c.of-answer.ensures in
    let f = records-fit c.args.b (c.requires.0, c.requires.1) c.of-answer.result o c.extend.new.self c.extend.ensures c.args.c.n c.requires.2 in
    (c.requires.2, f.0, f.1)

pub returns : goal.returns
returns c =
    let o = rw (c.from.ensures, c.from-2.ensures, c.from-3.ensures, c.from-4.ensures, c.from-5.ensures) at c.of-answer.ensures in
    let b = c.args.b in
    added (figures b ++ take b.group.size b.group.list) (change_numbers c.args.c) false _ _
    (with-group b (c.requires.0, c.requires.1) c.of-answer.result o c.extend.new.self c.extend.ensures) c.add_records.ensures
