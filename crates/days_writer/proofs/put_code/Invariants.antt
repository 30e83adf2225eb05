-- What is left to write is the columns from i on, of the days from e on.
-- Assumes nothing.
use Prim.Native.Nat.{◌+◌, ◌-◌, ◌≤◌}
use mathlib.Core.Path.{◌≡◌}
use lib.ListN.{length, drop}
use lib.Seq.{sets}
use Rattle.days.specs.Code.Good.{pad}
use Rattle.days_writer.specs.Code.Mask.{since}
use Rattle.days_writer.proofs.put_code.Given as goal

abbrev pub invariant-loop-i : goal.invariant-loop-i
invariant-loop-i l =
    (l.i ≤ 6) × (1 ≤ l.e) × (l.e ≤ 32) × (length l.out ≡ length l.initial.out) × (sets l.out (l.at + 2 + l.i) (pad (6 - l.i) (since l.mask l.e)) ≡ sets l.initial.out (l.at + 2) (pad 6 (since l.mask l.d))) ×
    (drop (6 - l.i) (since l.mask l.e) ≡ drop 6 (since l.mask l.d))
