-- What is left of the file makes out what the whole file has.
-- Assumes nothing.
use Prim.Native.Nat.{◌-◌}
use lib.ListN.{length}
use Rattle.dose_calendar.proofs.Along.{Goes}
use Rattle.dose_calendar.proofs.gather.Given as goal

abbrev pub invariant-loop-r : goal.invariant-loop-r
invariant-loop-r l = Goes l.file l.rp l.from l.c l.marks

abbrev pub decreases-loop-r : goal.decreases-loop-r
decreases-loop-r l = length l.file - l.from.at
