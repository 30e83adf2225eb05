-- By whether the months are one.
-- Assumes nothing.
use borrow.Author.Tests.{eq-eqb, ne_eqb}
use Rattle.days.specs.Run.{goes_on}
use Rattle.days.proofs.Last.goes_on.Goals as goal

pub returns-then-self-month : goal.returns-then-self-month
unfolding goes_on
returns-then-self-month c = rw (eq-eqb _ _ c.if-self-month.true)

pub returns : goal.returns
unfolding goes_on
returns c = rw (ne_eqb _ _ c.if-self-month.false, c.distance.ensures, c.distance-2.ensures)
