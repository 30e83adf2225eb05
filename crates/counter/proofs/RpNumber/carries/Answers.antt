-- The answer is the rule as it stands.
-- Assumes nothing.
use borrow.Author.Rules.{rules}
use Rattle.counter.specs.Counter.{carries}
use Rattle.counter.proofs.RpNumber.carries.Goals as goal

pub returns : goal.returns
unfolding carries
returns c = search rules
