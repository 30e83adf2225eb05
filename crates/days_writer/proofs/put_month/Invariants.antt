-- What is left to write is the codes for the days from d on.
-- Assumes nothing.
use Prim.Native.Nat.{◌+◌, ◌*◌, ◌≤◌, ◌<◌}
use mathlib.Core.Path.{◌≡◌}
use lib.ListN.{length}
use lib.Seq.{sets}
use Rattle.days_writer.specs.Code.Mask.{since}
use Rattle.days_writer.specs.Code.Print.{in_sixes, bytes_of}
use Rattle.days_writer.proofs.put_month.Given as goal

abbrev pub invariant-loop-d : goal.invariant-loop-d
invariant-loop-d l =
    (1 ≤ l.d) × (l.d ≤ 32) × (length l.out ≡ length l.initial.out) × (l.d < 32 → 1 ≤ length (since l.mask l.d)) ×
    (l.j + 8 * length (in_sixes l.month (since l.mask l.d)) ≡ l.at + 8 * length (in_sixes l.month (since l.mask 1))) ×
    (sets l.out l.j (bytes_of (in_sixes l.month (since l.mask l.d))) ≡ sets l.initial.out l.at (bytes_of (in_sixes l.month (since l.mask 1))))

abbrev pub decreases-loop-d : goal.decreases-loop-d
decreases-loop-d l = length (since l.mask l.d)
