-- The loop leaves the scan of what is left of the row as it was; `Scan` has its steps.
use Prim.Native.Nat.{◌-◌}
use mathlib.Core.Path.{◌≡◌}
use lib.ListN.{length}
use Rattle.cells.specs.Code.Mask.{scan}
use Rattle.cells.proofs.first_fault.Given as goal

abbrev pub invariant-loop-i : goal.invariant-loop-i
invariant-loop-i l = scan l.sets l.rise l.last l.s (length l.s - l.i) (l.i - l.from) l.i ≡ scan l.sets l.rise l.last l.s (length l.s - l.from) 0 l.from
