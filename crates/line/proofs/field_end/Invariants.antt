-- The loop leaves the end as it was: what is passed, and what is left of the field; `Steps` has the steps.
-- Assumes nothing.
use Prim.Native.Nat.{◌+◌, ◌≤◌}
use mathlib.Core.Path.{◌≡◌}
use lib.ListN.{length, drop}
use Rattle.line.specs.Fields.{field, field_end}
use Rattle.line.proofs.field_end.Given as goal

abbrev pub invariant-loop-i : goal.invariant-loop-i
invariant-loop-i l = l.i ≤ length l.s → field_end l.s l.at ≡ l.i + length (field (drop l.i l.s))
