-- What has been seen of the columns (`Seen`).
-- Assumes nothing.
use Rattle.days.specs.Run.{columns}
use Rattle.days.proofs.Ends.{Seen}
use Rattle.days.proofs.Last.of.Given as goal

abbrev pub invariant-loop-d : goal.invariant-loop-d
invariant-loop-d l = Seen (columns l.fn.days) l.d-index l.day
