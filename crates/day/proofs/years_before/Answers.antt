-- The formula is the count of the years before.
-- Assumes nothing.
use borrow.Author.Rules.{rules}
use Rattle.day.proofs.Years.{formula}
use Rattle.day.proofs.years_before.Goals as goal

pub returns : goal.returns
returns c = rw c.from-y.ensures (formula c.args.year (search rules))
