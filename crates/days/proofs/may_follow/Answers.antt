-- By whether a code stands before it.
-- Assumes nothing.
use Rattle.std.proofs.Common.{refl}
use Rattle.days.specs.Code.Walk.{may_follow}
use Rattle.days.proofs.may_follow.Goals as goal

pub returns-in-None : goal.returns-in-None
unfolding may_follow
returns-in-None c = rw c.in-None.is refl

pub returns-in-Some : goal.returns-in-Some
unfolding may_follow
returns-in-Some c = rw c.in-Some.is c.goes_on.ensures
