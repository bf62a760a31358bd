-- At most 25 are kept.
use Rattle.std.proofs.Common.{◌≡◌, ◌≤◌, length}
use Rattle.banktake.proofs.calibrations.Given as goal

abbrev pub invariant-loop-i : goal.invariant-loop-i
invariant-loop-i g l = (l.count ≤ 25) × (25 ≡ length l.list)
