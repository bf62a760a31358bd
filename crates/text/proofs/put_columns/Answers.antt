use Rattle.std.proofs.Common.{ℕ, ◌+◌, ◌-◌, arith, List, subst}
use lib.ListN.{set}
use Rattle.rules.specs.Render.{columns}
use Rattle.text.proofs.Pasted.{Wrote, wrote_none, wrote-front}
use Rattle.text.proofs.Columns.{columns-turn, rest-turn, all_left}
use Rattle.text.proofs.put_columns.Goals as goal

pub loop-done-init : goal.loop-done-init
unfolding columns
loop-done-init c =
    let a = c.args in
    record { written = wrote_none a.out.now (a.at + a.width - 0) (omega arith); rest = all_left a.v }

pub loop-done-preserved : goal.loop-done-preserved
loop-done-preserved c =
    let l = c.loop-done in
    let a = c.args in
    let x : ℕ = c.next_column.result in
    let to = a.at + a.width - (l.done + 1) in
    let w = wrote-front to x (l.done + 1) l.invariant.written (omega arith) (omega arith) in
    record {
      written =
          subst (λ (s : List ℕ). Wrote a.out.now (a.at + a.width - (l.done + 1)) s (l.done + 1) (set l.out to x))
          (columns-turn l.done a.v l.rest x l.invariant.rest c.next_column.ensures) w;
      rest = rest-turn l.done a.v l.rest l.invariant.rest;
    }
