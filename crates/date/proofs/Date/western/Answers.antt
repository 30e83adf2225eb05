-- The rule is what is held of western style.
-- Assumes nothing.
use Rattle.date.specs.Date.{make_western}
use Rattle.date.proofs.Date.western.Goals as goal

pub returns : goal.returns
unfolding make_western
returns c = c.held.ensures
