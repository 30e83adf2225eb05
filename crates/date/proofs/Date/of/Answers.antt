-- With no style named the rule is that of era style.
-- Assumes nothing.
use Rattle.date.specs.Date.{make_date}
use Rattle.date.proofs.Date.of.Goals as goal

pub returns : goal.returns
unfolding make_date
returns c = c.era.ensures
