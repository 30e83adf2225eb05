-- The loop, where it has found nothing wrong, leaves the fault of the bytes left as it was; `Pairs` has the steps.
-- Assumes nothing.
use Prim.Native.Nat.{◌≤◌}
use mathlib.Core.Path.{◌≡◌}
use mathlib.Core.Bool.{true}
use lib.ListN.{get_or}
use Rattle.line.specs.Frame.{frame_fault}
use Rattle.line.proofs.Pairs.{fault_after}
use Rattle.line.proofs.framed.Given as goal

abbrev pub invariant-loop-i : goal.invariant-loop-i
invariant-loop-i l = (l.i ≤ l.last) × (l.ok ≡ true → (get_or l.s l.last 0 ≡ 0x1a) × (fault_after l.s l.i ≡ frame_fault l.s))
