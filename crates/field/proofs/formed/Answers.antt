-- By what it is told.
-- Assumes nothing.
use Rattle.field.proofs.formed.Goals as goal

pub returns-then-ok : goal.returns-then-ok
returns-then-ok c = rw c.if-ok.true c.refused.ensures

pub returns : goal.returns
returns c = rw c.if-ok.false c.refused-2.ensures
