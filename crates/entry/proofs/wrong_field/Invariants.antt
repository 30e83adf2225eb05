-- The loop leaves the first wrong field as it was: that of the fields from there on.
use Prim.Native.Nat.{◌-◌, ◌≤◌}
use mathlib.Core.Path.{◌≡◌}
use Rattle.row.specs.Table.{wide}
use Rattle.field.specs.Field.{context}
use Rattle.laid.specs.Laid.{laid}
use Rattle.entry.specs.Code.Judge.{wrong_from, wrong_typed}
use Rattle.entry.proofs.wrong_field.Given as goal

abbrev pub invariant-loop-i : goal.invariant-loop-i
invariant-loop-i l =
    (l.rules.count ≤ wide)
    × (wrong_from (context l.b) l.lent l.rules.each (laid l.kinds l.numbers l.from l.to l.own) (l.rules.count - l.i) l.i
    ≡ wrong_typed (context l.b) l.lent l.n (laid l.kinds l.numbers l.from l.to l.own))
