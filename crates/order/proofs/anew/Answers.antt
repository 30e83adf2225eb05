-- The answer is the rule as it stands.
use borrow.Author.Rules.{rules}
use Rattle.order.specs.Next.{anew}
use Rattle.order.proofs.anew.Goals as goal

pub returns : goal.returns
unfolding anew
returns c = search rules
