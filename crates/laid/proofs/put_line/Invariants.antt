-- What is left to put is the parts from i on.
use Prim.Native.Nat.{◌+◌, ◌-◌, ◌≤◌}
use mathlib.Core.Path.{◌≡◌}
use lib.Seq.{sets}
use lib.ListN.{length}
use Rattle.laid.specs.Laid.{laid, line_from}
use Rattle.laid.proofs.put_line.Given as goal

abbrev pub invariant-loop-i : goal.invariant-loop-i
invariant-loop-i l =
    (l.i ≤ l.count)
    × (length l.out ≡ length l.initial.out)
    × (l.end + length (line_from l.lent (laid l.kinds l.numbers l.from l.to l.own) (l.count - l.i) l.i) ≡ l.at + length (line_from l.lent (laid l.kinds l.numbers l.from l.to l.own) l.count 0))
    × (sets l.out l.end (line_from l.lent (laid l.kinds l.numbers l.from l.to l.own) (l.count - l.i) l.i) ≡ sets l.initial.out l.at (line_from l.lent (laid l.kinds l.numbers l.from l.to l.own) l.count 0))
