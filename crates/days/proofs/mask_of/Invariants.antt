-- What is left of the days: those from column k on, up to the first 0.
-- Assumes nothing.
use Rattle.std.proofs.Common.{drop}
use Rattle.days.specs.Run.{upto0, columns, six_of}
use Rattle.days.proofs.Walk.{Left}
use Rattle.days.proofs.mask_of.Given as goal

abbrev pub invariant-loop-d : goal.invariant-loop-d
invariant-loop-d l = Left (six_of l.fn.days) (upto0 (drop l.d-index (columns l.fn.days))) l.mask
