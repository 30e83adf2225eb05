-- Its own number decides.
-- Assumes nothing.
use Rattle.dose_calendar.proofs.after_usage.Goals as goal

pub returns-then-owns : goal.returns-then-owns
returns-then-owns c = rw (← c.owns.ensures, c.if-owns.true) c.with_usage.ensures

pub returns : goal.returns
returns c = rw (← c.owns.ensures, c.if-owns.false)
