-- What is left to put is the last digits of what is left of the number.
use Prim.Native.Nat.{◌+◌, ◌-◌, ◌≤◌}
use mathlib.Core.Path.{◌≡◌}
use lib.ListN.{length}
use lib.Seq.{sets}
use Rattle.number.specs.Print.{print_number}
use Rattle.laid.proofs.Numerals.{lasts}
use Rattle.laid.proofs.put_number.Given as goal

abbrev pub invariant-loop-k : goal.invariant-loop-k
invariant-loop-k l =
    (l.at ≤ l.k) × (l.k ≤ l.end) × (length l.out ≡ length l.initial.out) × (l.end ≡ l.at + length (print_number l.n)) × (sets l.out l.at (lasts (l.k - l.at) l.left) ≡ sets l.initial.out l.at (print_number l.n))
