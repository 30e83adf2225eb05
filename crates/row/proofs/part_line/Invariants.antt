-- Each turn notes where the next field ends, and leaves those after its comma.
use Prim.Native.Nat.{◌≤◌}
use lib.ListN.{length}
use Rattle.row.specs.Table.{wide}
use Rattle.line.specs.Fields.{fields_at}
use Rattle.row.specs.Code.Walk.{cut_count, cut_ends}
use Rattle.row.proofs.Parted.{Cut}
use Rattle.row.proofs.part_line.Given as goal

abbrev pub invariant-loop-k : goal.invariant-loop-k
invariant-loop-k l =
    (l.k ≤ wide) × (l.from ≤ length l.s) × Cut l.k l.from (fields_at l.s l.from) l.ends (cut_count 0 (fields_at l.s l.at)) (cut_ends 0 l.at (fields_at l.s l.at) l.initial.ends)
