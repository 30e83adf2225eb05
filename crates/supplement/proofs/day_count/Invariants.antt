-- What was passed and what is left are all the days.
use Prim.Native.Nat.{◌+◌, ◌-◌}
use mathlib.Core.Path.{◌≡◌}
use Rattle.supplement.specs.Code.Read.{day_count}
use Rattle.supplement.proofs.day_count.Given as goal

abbrev pub invariant-loop-i : goal.invariant-loop-i
invariant-loop-i l = l.i - 3 + day_count (8 - l.i) l.i l.s ≡ day_count 5 3 l.s
