-- By the style.
-- Assumes nothing.
use borrow.Author.Tests.{eq-eqb, ne_eqb}
use Rattle.date.specs.Date.{in_style}
use Rattle.date.proofs.in_style.Goals as goal

pub returns-then-t-eq0 : goal.returns-then-t-eq0
unfolding in_style
returns-then-t-eq0 c = simp (eq-eqb _ _ c.if-t-eq0.true)

pub returns : goal.returns
unfolding in_style
returns c = simp (ne_eqb _ _ c.if-t-eq0.false, c.era_adds-adds.ensures.0)
