-- Each answer is the rule's, by the tests that led to it.
-- Assumes nothing.
use Rattle.std.proofs.Common.{◌∙◌, sym}
use borrow.Author.Tests.{eq-eqb, ne_eqb}
use Rattle.line.specs.Frame.{in_line}
use Rattle.line.proofs.in_line.Goals as goal

pub returns-then-b-eq13 : goal.returns-then-b-eq13
unfolding in_line
returns-then-b-eq13 c = simp (eq-eqb _ _ c.if-b-eq13.true)

pub returns-then-plain : goal.returns-then-plain
unfolding in_line
returns-then-plain c = simp (ne_eqb _ _ c.if-b-eq13.false, sym c.plain.ensures ∙ c.if-plain.true)

pub returns-else-plain : goal.returns-else-plain
unfolding in_line
returns-else-plain c = simp (ne_eqb _ _ c.if-b-eq13.false, sym c.plain.ensures ∙ c.if-plain.false)
