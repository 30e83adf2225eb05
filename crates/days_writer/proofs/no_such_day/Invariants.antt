-- The cells passed hold only days of their months: the test of the cells left is the test of all.
-- Assumes nothing.
use Prim.Native.Nat.{◌≤◌}
use mathlib.Core.Path.{◌≡◌}
use lib.ListN.{drop}
use Rattle.days_writer.specs.Set.{no_such_day}
use Rattle.days_writer.proofs.no_such_day.Given as goal

abbrev pub invariant-loop-m : goal.invariant-loop-m
invariant-loop-m l =
    (l.m ≤ 13) × (no_such_day l.m (drop l.m l.days.cells) ≡ no_such_day 0 l.days.cells)
