-- The difference of the counts.
-- Assumes nothing.
use Rattle.std.proofs.Common.{arith}
use Rattle.day.specs.Day.{between}
use Rattle.day.proofs.between.Goals as goal

pub returns : goal.returns
unfolding between
returns c = omega arith
