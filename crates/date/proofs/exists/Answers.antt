-- The test is the rule.
-- Assumes nothing.
use mathlib.Core.Path.{refl}
use Rattle.date.specs.Date.{exists}
use Rattle.date.proofs.exists.Goals as goal

pub returns : goal.returns
unfolding exists
returns c = rw c.last_day-last.ensures refl
