-- By whether the part is the last.
use borrow.Author.Tests.{eq-eqb, ne_eqb}
use Rattle.laid.specs.Laid.{separator_of}
use Rattle.laid.proofs.separator.Goals as goal

pub returns-then-i-count : goal.returns-then-i-count
unfolding separator_of
returns-then-i-count c = rw (eq-eqb _ _ c.if-i-count.true)

pub returns : goal.returns
unfolding separator_of
returns c = rw (ne_eqb _ _ c.if-i-count.false)
