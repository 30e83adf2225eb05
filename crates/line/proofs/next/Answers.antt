-- Each answer is the rule's, by the tests that led to it.
-- Assumes nothing.
use Rattle.std.proofs.Common.{refl}
use borrow.Author.Tests.{eq-eqb, ne_eqb}
use Rattle.line.specs.Frame.{next}
use Rattle.line.proofs.next.Goals as goal

pub returns-in-Line : goal.returns-in-Line
unfolding next
returns-in-Line c = rw c.in-Line.is c.in_line.ensures

pub returns-then-b-eq10 : goal.returns-then-b-eq10
unfolding next
returns-then-b-eq10 c = rw c.in-Return.is (simp (eq-eqb _ _ c.if-b-eq10.true))

pub returns-else-b-eq10 : goal.returns-else-b-eq10
unfolding next
returns-else-b-eq10 c = rw c.in-Return.is (simp (ne_eqb _ _ c.if-b-eq10.false))

pub returns-then-b-eq26 : goal.returns-then-b-eq26
unfolding next
returns-then-b-eq26 c = rw c.in-Lines.is (simp (eq-eqb _ _ c.if-b-eq26.true))

pub returns-else-b-eq26 : goal.returns-else-b-eq26
unfolding next
returns-else-b-eq26 c = rw c.in-Lines.is (simp (ne_eqb _ _ c.if-b-eq26.false) c.in_line-else-b-eq26.ensures)

pub returns-in-All : goal.returns-in-All
unfolding next
returns-in-All c = rw c.in-All.is refl
