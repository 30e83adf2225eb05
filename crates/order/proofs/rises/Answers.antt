-- The answer is the rule as it stands.
use borrow.Author.Rules.{rules}
use Rattle.order.specs.Next.{repeats, rises}
use Rattle.order.proofs.rises.Goals as goal

pub returns : goal.returns
unfolding rises repeats
returns c = search rules
