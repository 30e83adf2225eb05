-- What is left to write is the codes of the places from p on.
-- Assumes nothing.
use Prim.Native.Nat.{◌+◌, ◌-◌, ◌*◌, ◌≤◌}
use mathlib.Core.Path.{◌≡◌}
use lib.ListN.{length}
use lib.Seq.{sets}
use Rattle.days_writer.specs.Code.Print.{codes_from, days_in, bytes_of}
use Rattle.days_writer.proofs.put_run.Given as goal

abbrev pub invariant-loop-place : goal.invariant-loop-place
invariant-loop-place l =
    (l.place ≤ 13) × (length l.out ≡ length l.initial.out) ×
    (l.j + 8 * length (codes_from l.issue.number (13 - l.place) l.place (days_in l.days.cells)) ≡ 8 * length (codes_from l.issue.number 13 0 (days_in l.days.cells))) ×
    (sets l.out l.j (bytes_of (codes_from l.issue.number (13 - l.place) l.place (days_in l.days.cells))) ≡ sets l.initial.out 0 (bytes_of (codes_from l.issue.number 13 0 (days_in l.days.cells))))
