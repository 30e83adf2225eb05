-- The days passed are not in the mask: `since` is the same from the day that is looked at.
-- Assumes nothing.
use Prim.Native.Nat.{◌≤◌}
use mathlib.Core.Path.{◌≡◌}
use Rattle.days_writer.specs.Code.Mask.{since}
use Rattle.days_writer.proofs.next_day.Given as goal

abbrev pub invariant-loop-e : goal.invariant-loop-e
invariant-loop-e l =
    (l.d ≤ l.e) × (l.e ≤ 32) × (since l.mask l.e ≡ since l.mask l.d)
