-- The loop leaves the fault of the bytes left, after what has been read, as it was; `Steps` has the steps.
-- Assumes nothing.
use Rattle.std.proofs.Common.{◌≡◌, drop}
use Rattle.line.specs.Frame.{frame_from, frame_fault}
use Rattle.line.specs.Code.States.{number}
use Rattle.line.proofs.find_fault.Given as goal

abbrev pub invariant-loop-i : goal.invariant-loop-i
invariant-loop-i l = frame_from (number l.state) l.i (drop l.i l.s) ≡ frame_fault l.s
