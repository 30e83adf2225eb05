-- By the test.
-- Assumes nothing.
use mathlib.Core.Path.{◌∙◌, sym}
use Rattle.date.proofs.held.Goals as goal

pub returns-then-is_date : goal.returns-then-is_date
returns-then-is_date c = rw (sym c.is_date.ensures ∙ c.if-is_date.true)

pub returns-else-is_date : goal.returns-else-is_date
returns-else-is_date c = rw (sym c.is_date.ensures ∙ c.if-is_date.false)
