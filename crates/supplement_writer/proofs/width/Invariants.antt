-- The digits passed and those left are all of them.
use Prim.Native.Nat.{◌+◌, ◌-◌}
use mathlib.Core.Path.{◌≡◌}
use Rattle.supplement_writer.specs.Print.{width}
use Rattle.supplement_writer.proofs.width.Given as goal

abbrev pub invariant-loop-w : goal.invariant-loop-w
invariant-loop-w l = l.w - 1 + width (7 - l.w) l.m ≡ width 6 l.n
