-- By what `given` says.
-- Assumes nothing.
use mathlib.Core.Path.{refl}
use Rattle.course.proofs.dose.Goals as goal

pub returns-then-given : goal.returns-then-given
returns-then-given c = rw (← c.given.ensures, c.if-given.true) refl

pub returns : goal.returns
returns c = rw (← c.given.ensures, c.if-given.false) refl
