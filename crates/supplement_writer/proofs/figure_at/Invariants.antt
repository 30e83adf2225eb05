-- The digit that is asked for stays the same.
use Prim.Native.Nat.{◌-◌}
use mathlib.Core.Path.{◌≡◌}
use Rattle.supplement_writer.specs.Print.{figure_at}
use Rattle.supplement_writer.proofs.figure_at.Given as goal

abbrev pub invariant-loop-k : goal.invariant-loop-k
invariant-loop-k l = figure_at l.m (l.back - l._k) ≡ figure_at l.n l.back
