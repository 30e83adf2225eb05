-- What is left to put is the decimals of what is left, in units of the next place.
-- Assumes nothing.
use Prim.Native.Nat.{◌+◌, ◌-◌, ◌/◌, ◌^◌, ◌≤◌, ◌<◌}
use mathlib.Core.Path.{◌≡◌}
use lib.ListN.{length}
use lib.Seq.{sets}
use Rattle.number.specs.Print.{decimals}
use Rattle.printed.proofs.pointed.Given as goal

abbrev pub invariant-loop-left : goal.invariant-loop-left
invariant-loop-left l =
    (l.initial.at ≤ l.at) × (l.at ≤ l.initial.at + 5) × (l.initial.at ≤ 19) × (l.unit ≡ 10 ^ (l.initial.at + 5 - l.at) / 10) × (l.left < 10 ^ (l.initial.at + 5 - l.at)) ×
    (sets l.bytes l.at (decimals (l.initial.at + 5 - l.at) l.left) ≡ sets l.initial.bytes l.initial.at (decimals 5 l.initial.left)) ×
    (l.at + length (decimals (l.initial.at + 5 - l.at) l.left) ≡ l.initial.at + length (decimals 5 l.initial.left))

abbrev pub decreases-loop-left : goal.decreases-loop-left
decreases-loop-left l = l.initial.at + 5 - l.at
