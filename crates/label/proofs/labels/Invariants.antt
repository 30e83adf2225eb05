-- What is left of the file falls with each record.
use Prim.Native.Nat.{◌-◌}
use lib.ListN.{length}
use Rattle.label.proofs.labels.Given as goal

abbrev pub decreases-loop-r : goal.decreases-loop-r
decreases-loop-r g l = length l.s - l.t.at
