-- The loop leaves the value of what is read and what is left as it was; it only grows, so that it fits throughout.
-- Assumes nothing.
use Rattle.std.proofs.Common.{◌≡◌, true, drop}
use Rattle.number.specs.Number.{figures, value}
use Rattle.number.proofs.value.Given as goal

abbrev pub invariant-loop-c : goal.invariant-loop-c
invariant-loop-c l = (figures (drop l.c-index l.s) ≡ true) × (value l.m (drop l.c-index l.s) ≡ value l.n l.s)
