-- Each turn leaves the fields after the next comma.
use Prim.Native.Nat.{◌+◌, ◌-◌, ◌≤◌}
use mathlib.Core.Path.{◌≡◌}
use mathlib.Core.List.{[]}
use lib.ListN.{length, get_or}
use Rattle.line.specs.Fields.{fields_at}
use Rattle.line.proofs.nth_field.Given as goal

abbrev pub invariant-loop : goal.invariant-loop
invariant-loop l =
    (l.from ≤ length l.s) × (1 ≤ l.counter) × (l.counter ≤ l.from + 1) × (get_or (fields_at l.s l.at) (l.n - 1) [] ≡ get_or (fields_at l.s l.from) (l.n - l.counter) [])
