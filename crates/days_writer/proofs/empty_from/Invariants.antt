-- The cells passed hold no day: the test of the cells left is the test of all.
-- Assumes nothing.
use mathlib.Core.Path.{◌≡◌}
use lib.ListN.{drop}
use Rattle.days_writer.specs.Set.{empty}
use Rattle.days_writer.proofs.empty_from.Given as goal

abbrev pub invariant-loop-m : goal.invariant-loop-m
invariant-loop-m l =
    empty (drop l.m l.days.cells) ≡ empty (drop l.from l.days.cells)
