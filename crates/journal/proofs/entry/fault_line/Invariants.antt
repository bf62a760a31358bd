-- The invariant: the first fault is that of the lines that are left, and each line so far took seven bytes or more.
use Prim.Native.Nat.{◌+◌, ◌-◌, ◌*◌, ◌≤◌}
use mathlib.Core.Path.{◌≡◌}
use lib.ListN.{length, drop}
use Rattle.rules.specs.Journal.{journal}
use Rattle.journal.specs.Entry.{lines_from, fault_of}
use Rattle.journal.proofs.entry.fault_line.Given as goal

abbrev pub invariant-loop-at : goal.invariant-loop-at
invariant-loop-at l = (l.at ≤ length l.s) × (7 * l.line ≤ l.at + 7) × (fault_of (lines_from l.line (drop l.at l.s)) ≡ fault_of (journal l.s))

abbrev pub decreases-loop-at : goal.decreases-loop-at
decreases-loop-at l = length l.s - l.at
