-- The test is the rule.
-- Assumes nothing.
use Rattle.number.specs.Code.Parts.{within}
use Rattle.number.proofs.within.Goals as goal

pub returns-then-lo-n : goal.returns-then-lo-n
unfolding within
returns-then-lo-n c = let h = c.if-lo-n in rw h.true

pub returns-else-lo-n : goal.returns-else-lo-n
unfolding within
returns-else-lo-n c = let h = c.if-lo-n in rw h.false
