-- The next comma is the next from there on.
use Rattle.std.proofs.Common.{◌≡◌}
use Rattle.entry.specs.Code.Judge.{comma_from}
use Rattle.entry.proofs.comma.Given as goal

abbrev pub invariant-loop-i : goal.invariant-loop-i
invariant-loop-i l = comma_from l.s l.i ≡ comma_from l.s l.from
