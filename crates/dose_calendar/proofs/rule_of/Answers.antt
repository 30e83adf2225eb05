-- Letter by letter.
-- Assumes nothing.
use borrow.Author.Tests.{eq-eqb, ne_eqb}
use Rattle.cells.specs.Text.{among}
use Rattle.course.specs.Kept.{rule_of}
use Rattle.dose_calendar.proofs.rule_of.Goals as goal

pub returns-then-x-eq73 : goal.returns-then-x-eq73
unfolding rule_of among
returns-then-x-eq73 c = rw (eq-eqb _ _ c.if-x-eq73.true)

pub returns-then-x-eq87 : goal.returns-then-x-eq87
unfolding rule_of among
returns-then-x-eq87 c = rw (ne_eqb _ _ c.if-x-eq73.false, eq-eqb _ _ c.if-x-eq87.true)

pub returns-then-x-eq67 : goal.returns-then-x-eq67
unfolding rule_of among
returns-then-x-eq67 c = rw (ne_eqb _ _ c.if-x-eq73.false, ne_eqb _ _ c.if-x-eq87.false, eq-eqb _ _ c.if-x-eq67.true)

pub returns : goal.returns
unfolding rule_of among
returns c = rw (ne_eqb _ _ c.if-x-eq73.false, ne_eqb _ _ c.if-x-eq87.false, ne_eqb _ _ c.if-x-eq67.false)
