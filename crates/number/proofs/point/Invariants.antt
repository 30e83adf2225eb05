-- The loop leaves the place of the point as it was; `Steps` has the steps.
-- Assumes nothing.
use Rattle.std.proofs.Common.{◌≡◌, ◌+◌, length, drop}
use Rattle.number.specs.Amount.{before}
use Rattle.number.proofs.point.Given as goal

abbrev pub invariant-loop-i : goal.invariant-loop-i
invariant-loop-i l = l.i + length (before (drop l.i l.s)) ≡ length (before l.s)
