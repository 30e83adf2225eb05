-- The test is the rule.
-- Assumes nothing.
use mathlib.Core.Path.{refl}
use Rattle.line.specs.Frame.{plain}
use Rattle.line.proofs.plain.Goals as goal

pub returns : goal.returns
unfolding plain
returns c = refl
