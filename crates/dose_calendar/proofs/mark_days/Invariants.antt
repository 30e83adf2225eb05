-- The loop leaves the days from column k on, up to the first 0.
-- Assumes nothing.
use mathlib.Core.Path.{◌≡◌}
use lib.ListN.{drop}
use Rattle.days.specs.Run.{upto0}
use Rattle.dose_calendar.specs.Code.Gather.{mark_days}
use Rattle.dose_calendar.proofs.mark_days.Given as goal

abbrev pub invariant-loop-d : goal.invariant-loop-d
invariant-loop-d l = mark_days l.marks l.month (upto0 (drop l.d-index l.d-items)) ≡ mark_days l.initial.marks l.month (upto0 l.d-items)
