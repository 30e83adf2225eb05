-- The test is the rule.
-- Assumes nothing.
use mathlib.Core.Path.{refl}
use Rattle.date.specs.Date.{leap}
use Rattle.date.proofs.leap.Goals as goal

pub returns : goal.returns
unfolding leap
returns c = refl
