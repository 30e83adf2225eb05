-- What has been seen and what is left is the whole run (`Walked`).
-- Assumes nothing.
use Rattle.days.proofs.Walk.{Walked}
use Rattle.days.proofs.read_codes.Given as goal

abbrev pub invariant-loop-k : goal.invariant-loop-k
invariant-loop-k l = Walked l.issue l.s l.k l.prior l.days.cells
