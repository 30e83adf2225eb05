-- Its own number decides.
-- Assumes nothing.
use mathlib.Core.Path.{refl}
use Rattle.dose_calendar.proofs.after_supplement.Goals as goal

pub returns-then-owns : goal.returns-then-owns
returns-then-owns c = rw (← c.owns.ensures, c.if-owns.true) c.with_supplement.ensures

pub returns : goal.returns
returns c = rw (← c.owns.ensures, c.if-owns.false) (refl, refl)
