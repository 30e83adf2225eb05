-- The days counted and those left are all days of the mask.
-- Assumes nothing.
use Prim.Native.Nat.{◌+◌, ◌≤◌}
use mathlib.Core.Path.{◌≡◌}
use lib.ListN.{length}
use Rattle.days_writer.specs.Code.Mask.{since}
use Rattle.days_writer.proofs.day_count.Given as goal

abbrev pub invariant-loop-e : goal.invariant-loop-e
invariant-loop-e l =
    (1 ≤ l.e) × (l.e ≤ 32) × (l.n + 1 ≤ l.e) × (l.n + length (since l.mask l.e) ≡ length (since l.mask 1))
