-- The answer is the rule as it stands.
-- Assumes nothing.
use borrow.Author.Rules.{rules}
use Rattle.counter.specs.Counter.{rises}
use Rattle.counter.proofs.RpNumber.rises.Goals as goal

pub returns : goal.returns
unfolding rises
returns c = search rules
