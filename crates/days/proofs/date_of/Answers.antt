-- Its parts are what the calls ensure.
-- Assumes nothing.
use Rattle.days.proofs.Walk.{first_of}
use Rattle.days.proofs.date_of.Goals as goal

pub returns : goal.returns
returns c = record { ends = c.of.ensures; first = first_of c.args.days.d1 _; mask = c.mask_of.ensures }
