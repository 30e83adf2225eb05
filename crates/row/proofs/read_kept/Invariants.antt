-- The loop leaves the row as it was: that of the fields from there on.
-- Assumes nothing.
use Prim.Native.Nat.{◌+◌, ◌-◌, ◌≤◌}
use mathlib.Core.Path.{◌≡◌}
use lib.ListN.{length}
use Rattle.line.specs.Fields.{fields_at}
use Rattle.field.specs.Field.{context}
use Rattle.row.specs.Code.Walk.{kept_from}
use Rattle.row.proofs.read_kept.Given as goal

abbrev pub invariant-loop-b : goal.invariant-loop-b
invariant-loop-b l =
    (l.from ≤ length l.s) × (l.i ≤ l.from + 1)
    × (kept_from (context l.b) l.i l.from (fields_at l.s l.from) ≡ kept_from (context l.b) 1 l.at (fields_at l.s l.at))

abbrev pub decreases-loop-b : goal.decreases-loop-b
decreases-loop-b l = length l.s - l.from
