-- The codes counted and those of the places left are all codes.
-- Assumes nothing.
use Prim.Native.Nat.{◌+◌, ◌-◌, ◌*◌, ◌≤◌}
use mathlib.Core.Path.{◌≡◌}
use lib.ListN.{length}
use Rattle.days_writer.specs.Code.Print.{codes_from, days_in}
use Rattle.days_writer.proofs.count_codes.Given as goal

abbrev pub invariant-loop-p : goal.invariant-loop-p
invariant-loop-p l =
    (l.p ≤ 13) × (l.n ≤ 6 * l.p) × (l.n + length (codes_from l.issue.number (13 - l.p) l.p (days_in l.days.cells)) ≡ length (codes_from l.issue.number 13 0 (days_in l.days.cells)))
