-- Its own number begins it.
-- Assumes nothing.
use Rattle.dose_calendar.proofs.after_rp.Goals as goal

pub returns-then-owns : goal.returns-then-owns
returns-then-owns c = rw (← c.owns.ensures, c.if-owns.true)

pub returns : goal.returns
returns c = rw (← c.owns.ensures, c.if-owns.false)
