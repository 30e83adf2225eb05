-- What is left to write is the last digits of what is left of the number.
-- Assumes nothing.
use Prim.Native.Nat.{◌-◌, ◌≤◌}
use mathlib.Core.Path.{◌≡◌}
use mathlib.Core.List.{◌++◌}
use lib.ListN.{length, drop, replicate}
use Rattle.number.specs.Print.{print_number}
use Rattle.laid.proofs.Numerals.{lasts}
use Rattle.printed.proofs.whole.Given as goal

abbrev pub invariant-loop-at : goal.invariant-loop-at
invariant-loop-at l =
    (l.at ≤ l.w) × (length l.bytes ≡ 24) × (l.w ≡ length (print_number l.n)) × (l.w ≤ 20) ×
    (lasts l.at l.left ++ drop l.at l.bytes ≡ print_number l.n ++ replicate (24 - l.w) 0)
