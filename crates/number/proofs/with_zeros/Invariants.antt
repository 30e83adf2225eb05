-- The loop leaves the value of what is read and what is left as it was; it only grows, so that it fits throughout.
-- Assumes nothing.
use Rattle.std.proofs.Common.{◌≡◌, ◌-◌, replicate}
use Rattle.number.specs.Number.{value}
use Rattle.number.proofs.with_zeros.Given as goal

abbrev pub invariant-loop : goal.invariant-loop
invariant-loop l = value l.m (replicate (l.count - l.counter) 48) ≡ value l.n (replicate l.count 48)
