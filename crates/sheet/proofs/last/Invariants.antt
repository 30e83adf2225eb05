-- The sheet at hand is of the same file, and the calls from it on end as they do from the first; what is left of the file falls.
-- Assumes nothing.
use Prim.Native.Nat.{◌-◌}
use mathlib.Core.Path.{◌≡◌}
use lib.ListN.{length}
use Rattle.reader.specs.Said.{Next}
use Rattle.sheet.specs.Walk.{Ends}
use Rattle.sheet.proofs.last.Given as goal

abbrev pub invariant-loop-t : goal.invariant-loop-t
invariant-loop-t l = record {
  same_file : l.t.file ≡ l.r.file;
  ends_alike : (a : Next) → Ends l.r.file.now a l.t.state → Ends l.r.file.now a l.r.state;
}

abbrev pub decreases-loop-t : goal.decreases-loop-t
decreases-loop-t l = length l.t.file.now - l.t.state.at
