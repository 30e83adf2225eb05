-- None is kept yet.
use Rattle.record.proofs.after_rp.Goals as goal

pub returns : goal.returns
returns c = rw c.none-t.ensures
