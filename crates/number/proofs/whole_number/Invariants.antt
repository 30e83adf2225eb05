-- The loop leaves the number of what is read and what is left as it was; i digits are below 10 to the i, so that it fits throughout.
-- Assumes nothing.
use Rattle.std.proofs.Common.{◌≡◌, ◌^◌, ◌<◌, cond, drop, Some, None}
use Rattle.number.specs.Number.{figures, value}
use Rattle.number.specs.Code.Parts.{whole_number}
use Rattle.number.proofs.whole_number.Given as goal

abbrev pub invariant-loop-c : goal.invariant-loop-c
invariant-loop-c l =
    (cond (figures (drop l.c-index l.s)) (Some (value l.m (drop l.c-index l.s))) None ≡ whole_number l.s) × (l.m < 10 ^ l.c-index)
