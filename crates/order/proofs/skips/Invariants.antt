-- What has been found, and what is left of the table to search; `Search` has the step.
-- Assumes nothing.
use Rattle.std.proofs.Common.{◌≡◌, ◌||◌, drop}
use Rattle.order.specs.Order.{some}
use Rattle.order.specs.Next.{stops, between}
use Rattle.order.proofs.skips.Given as goal

abbrev pub invariant-loop-m : goal.invariant-loop-m
invariant-loop-m l = l.skipped || some (between l.last l.n) (drop l.m-index stops) ≡ some (between l.last l.n) stops
