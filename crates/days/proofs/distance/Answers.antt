-- By the definition.
-- Assumes nothing.
use Rattle.std.proofs.Common.{arith}
use Rattle.days.specs.Run.{distance}
use Rattle.days.proofs.distance.Goals as goal

pub returns : goal.returns
unfolding distance
returns c = omega arith
