-- The three counts added.
-- Assumes nothing.
use native.Mathlib.Omega.{arith}
use Rattle.day.specs.Day.{count}
use Rattle.day.proofs.count.Goals as goal

pub returns : goal.returns
unfolding count
returns c = omega arith
