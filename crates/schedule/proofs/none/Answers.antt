-- The answer is the definition's.
-- Assumes nothing.
use mathlib.Core.Path.{refl}
use Rattle.schedule.specs.Kept.{kept}
use Rattle.schedule.proofs.none.Goals as goal

pub returns : goal.returns
unfolding kept
returns c = refl
