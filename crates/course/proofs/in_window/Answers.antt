-- The test is the rule.
-- Assumes nothing.
use mathlib.Core.Path.{refl}
use Rattle.course.specs.Calendar.{in_window}
use Rattle.course.proofs.in_window.Goals as goal

pub returns : goal.returns
unfolding in_window
returns c = refl
