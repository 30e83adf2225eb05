-- By the code.
-- Assumes nothing.
use Rattle.course.specs.Plan.{times_fixed, times_of}
use Rattle.dose_calendar.proofs.with_usage.Goals as goal

pub with_times-requires-in-None : goal.with_times-requires-in-None
with_times-requires-in-None c = tt

pub returns-in-Some : goal.returns-in-Some
unfolding times_fixed times_of
returns-in-Some c = rw (c.in-Some.is, ← c.fixes_times.ensures) c.with_times.ensures

pub returns-in-None : goal.returns-in-None
unfolding times_fixed times_of
returns-in-None c = rw c.in-None.is c.with_times-in-None.ensures
