-- The loop leaves the row as it was: that of the fields from there on, as many as are left of the count.
-- Assumes nothing.
use Prim.Native.Nat.{ℕ, ◌+◌, ◌≤◌, ◌<◌}
use mathlib.Core.Path.{◌≡◌}
use mathlib.Core.Bool.{true, cond}
use mathlib.Core.List.{List, []}
use lib.Dec.{ltb}
use lib.ListN.{length}
use Rattle.line.specs.Fields.{fields_at}
use Rattle.field.specs.Field.{context}
use Rattle.row.specs.Code.Walk.{row_from, numbers_from, amounts_from, marks}
use Rattle.row.proofs.read_typed.Given as goal

-- The fields that are left, with i of them before: those at an offset, and none after the last.
unfoldable pub left : ℕ → ℕ → List ℕ → ℕ → List (List ℕ)
left i count s from = cond (ltb i count) (fields_at s from) []

abbrev pub invariant-loop-i : goal.invariant-loop-i
invariant-loop-i l =
    (l.i ≤ l.t.count)
    × (l.i < l.t.count → l.from ≤ length l.s)
    × (l.i + length (left l.i l.t.count l.s l.from) ≡ l.t.count)
    × (row_from (context l.b) l.i l.from l.t.each (left l.i l.t.count l.s l.from)
    ≡ row_from (context l.b) 0 l.at l.t.each (fields_at l.s l.at))
    × (marks l.ends l.i l.from (left l.i l.t.count l.s l.from) ≡ true)
    × (numbers_from l.i l.t.each (left l.i l.t.count l.s l.from) l.numbers ≡ numbers_from 0 l.t.each (fields_at l.s l.at) l.initial.numbers)
    × (amounts_from l.i l.t.each (left l.i l.t.count l.s l.from) l.amounts ≡ amounts_from 0 l.t.each (fields_at l.s l.at) l.initial.amounts)
