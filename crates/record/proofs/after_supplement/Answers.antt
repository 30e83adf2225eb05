-- With its own supplement.
use Rattle.record.proofs.after_supplement.Goals as goal

pub returns : goal.returns
returns c = rw c.scheduled-t.ensures
