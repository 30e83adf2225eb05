-- The test is the rule.
-- Assumes nothing.
use mathlib.Core.Path.{refl}
use Rattle.usage.specs.Times.{fixes_times}
use Rattle.dose_calendar.proofs.fixes_times.Goals as goal

pub returns : goal.returns
unfolding fixes_times
returns c = refl
