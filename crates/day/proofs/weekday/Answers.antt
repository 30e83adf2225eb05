-- By the count.
-- Assumes nothing.
use native.Mathlib.Omega.{arith}
use Rattle.day.specs.Day.{weekday}
use Rattle.day.proofs.weekday.Goals as goal

pub returns : goal.returns
unfolding weekday
returns c = omega arith
