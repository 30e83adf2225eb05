-- The test is the rule.
-- Assumes nothing.
use Rattle.line.specs.Code.Pairs.{may_follow}
use Rattle.line.proofs.may_follow.Goals as goal

pub returns : goal.returns
unfolding may_follow
returns c = rw c.plain.ensures
